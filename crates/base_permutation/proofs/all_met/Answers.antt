-- `base_permutation::all_met` meets its contract: the table marks the images of the entries read so far.
use Rattle.std.proofs.Common.{refl, ◌∙◌, arith, length, length-set}
use Rattle.base_permutation.proofs.Marks.{marks_none, marks_more, marks_all}
use Rattle.base_permutation.proofs.all_met.Goals as goal

pub loop-image-init : goal.loop-image-init
loop-image-init c = (refl, marks_none c.args.p.now)

pub loop-image-preserved : goal.loop-image-preserved
loop-image-preserved c =
    let l = c.loop-image in (
      simp length-set l.invariant.0,
      marks_more c.args.p.now l.marks l.image-index c.from.result l.invariant.1 (omega arith) l.invariant.0 (omega arith) c.from.ensures,
    )

pub returns : goal.returns
returns c =
    let p = c.args.p.now in
    let l = c.loop-image in
    c.all_marked.ensures ∙ marks_all p l.marks l.image-index l.invariant.1 (omega arith) (omega arith) l.invariant.0 (length p) (omega arith) (λ j. omega (arith, c.type_inv.p j))
