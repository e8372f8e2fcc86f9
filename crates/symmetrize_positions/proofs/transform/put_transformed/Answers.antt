-- `put_transformed`: the first i cells are those of the transformed positions.
use mathlib.Core.Path.{sym, ap, ◌∙◌}
use mathlib.Core.List.{[]}
use native.Mathlib.Omega.{arith}
use lib.ListN.{length-set, length-map}
use Rattle.laws.specs.Lists.{map_at}
use Rattle.definitions.specs.Real.{apply_f, sub_p}
use Rattle.definitions.specs.Lent.{cells_of, zero_cells}
use Rattle.symmetrize_positions.specs.Targets.{moved, moved_cells}
use Rattle.laws.specs.Filling.{put_step}
use Rattle.symmetrize_positions.proofs.transform.put_transformed.Goals as goal

pub loop-i-preserved : goal.loop-i-preserved
loop-i-preserved c =
    let l = c.loop-i in
    let a = c.args in
    let ps = a.positions.now in
    let f = moved_cells a.m a.shift in
    let x = c.from-in-loop-i.ensures ∙ ap cells_of (c.transformed-moved.ensures ∙ ap (λ p. apply_f a.m (sub_p p a.shift)) c.from.ensures) ∙ sym (map_at f ps l.i [] zero_cells (omega arith)) in (
      simp length-set l.invariant.0,
      put_step zero_cells (moved a.m a.shift ps) a.held.now l.held l.i c.from-in-loop-i.result l.invariant.1 (omega (arith, length-map ps f)) (omega arith) x,
    )
