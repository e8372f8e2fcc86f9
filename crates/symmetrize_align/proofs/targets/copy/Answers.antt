-- `copy`: the first i cells are the list's.
use Rattle.std.proofs.Common.{refl, ◌∙◌, arith, length}
use mathlib.Core.List.{append-nil}
use lib.ListN.{drop_of_length-le}
use Rattle.laws.specs.Filling.{put_step, put_end}
use Rattle.symmetrize_align.proofs.targets.copy.Goals as goal

pub loop-i-preserved : goal.loop-i-preserved
loop-i-preserved c =
    let l = c.loop-i in
    let a = c.args in
    put_step 0 a.p.now a.out.now l.out l.i _ l.invariant (omega arith) (omega arith) refl

pub returns : goal.returns
returns c =
    let l = c.loop-i in
    let p = c.args.p.now in
    put_end 0 p c.args.out.now l.out l.i (length p) l.invariant refl (omega arith)
    ∙ rw (drop_of_length-le c.args.out.now {i = length p} (omega (arith, c.requires))) (append-nil p)
