-- `put_items`: the first i cells are those of the first i commands, and zero is behind them all.
use mathlib.Core.Path.{sym, ◌∙◌}
use native.Mathlib.Omega.{arith}
use lib.ListN.{length-set}
use Rattle.laws.specs.Filling.{put_step, put_end, padded_by}
use Rattle.job.specs.Places.{items, length_items}
use Rattle.job.proofs.Items.{items_at}
use Rattle.job.proofs.lists.put_items.Goals as goal

pub loop-i-preserved : goal.loop-i-preserved
loop-i-preserved g c =
    let a = c.args in
    let l = c.loop-i in
    let z = g.T.Zero.ZERO in
    let f = g.T.Operand.value a.bytes.now in (
      simp length-set l.invariant.0,
      put_step z (items f a.width a.at a.n) a.out.now l.out l.i c.read.result l.invariant.1
          (omega (arith, length_items f a.width a.at a.n)) (omega arith)
          (c.read.ensures ∙ sym (items_at f a.width a.at a.n l.i z c.loop-i-test.true)),
    )

pub returns : goal.returns
returns g c =
    let a = c.args in
    let l = c.loop-i in
    let z = g.T.Zero.ZERO in
    let f = g.T.Operand.value a.bytes.now in
    let long = length_items f a.width a.at a.n in
    padded_by z (items f a.width a.at a.n) a.out.now c.clear.new.out l.out a.n long c.requires.2
    (put_end z (items f a.width a.at a.n) a.out.now l.out l.i a.n l.invariant.1 long (omega arith)) c.clear.ensures
