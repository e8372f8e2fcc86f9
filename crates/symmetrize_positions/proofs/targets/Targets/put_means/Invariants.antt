use mathlib.Core.Path.{◌≡◌}
use lib.ListN.{length}
use Rattle.symmetrize_positions.specs.Targets.{mean}
use Rattle.symmetrize_positions.proofs.Making.{MadeTo}
use Rattle.symmetrize_positions.proofs.targets.Targets.put_means.Given as goal

abbrev pub invariant-loop-i : goal.invariant-loop-i
invariant-loop-i l =
    let t = l.self in
    (length l.out ≡ length l.initial.out)
    × MadeTo (length t.positions.now) (λ a. a) (mean t.positions.now (length t.rotations.now)) l.initial.out l.i l.out
