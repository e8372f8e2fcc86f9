-- `put_means`: the cells before i are made.
use Prim.Native.Nat.{◌≤◌}
use mathlib.Core.Path.{refl}
use mathlib.Core.List.{[]}
use native.Mathlib.Omega.{arith}
use lib.ListN.{length, get_or, length-set}
use Rattle.symmetrize_positions.specs.Targets.{mean}
use Rattle.symmetrize_positions.proofs.Making.{in_order, make_step}
use Rattle.symmetrize_positions.proofs.Sums.{mean_is}
use Rattle.symmetrize_positions.proofs.targets.Targets.put_means.Goals as goal

pub loop-i-preserved : goal.loop-i-preserved
loop-i-preserved c =
    let l = c.loop-i in
    let t = c.args.self.now in
    let ps = t.positions.now in
    let k = length t.rotations.now in
    let room : length ps ≤ length l.out = omega arith in
    let x = mean_is ps k l.i (get_or l.out l.i []) c.with_mean.result _ _
    c.from.ensures c.count_of-by.ensures c.with_mean.ensures in (
      simp length-set l.invariant.0,
      make_step (length ps) (λ j. j) (λ j. j) (in_order (length ps)) (mean ps k) c.args.out.now l.out l.i l.i
          c.with_mean.result room (omega arith) refl x l.invariant.1,
    )
