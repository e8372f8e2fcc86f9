use mathlib.Core.Path.{◌≡◌}
use mathlib.Core.List.{◌++◌}
use lib.ListN.{length, take, drop}
use Rattle.symmetrize_positions.specs.Targets.{moved}
use Rattle.symmetrize_positions.proofs.transform.put_transformed.Given as goal

abbrev pub invariant-loop-i : goal.invariant-loop-i
invariant-loop-i l = (length l.held ≡ length l.initial.held) × (l.held ≡ take l.i (moved l.m l.shift l.positions) ++ drop l.i l.initial.held)
