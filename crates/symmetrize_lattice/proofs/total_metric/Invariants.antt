use Rattle.std.proofs.Common.{◌≡◌, drop}
use mathlib.Core.List.{map, foldl}
use Rattle.definitions.specs.Real.{add_m}
use Rattle.symmetrize_lattice.specs.Lattice.{turned, total_metric}
use Rattle.symmetrize_lattice.proofs.total_metric.Given as goal

abbrev pub invariant-loop-rotation : goal.invariant-loop-rotation
invariant-loop-rotation l = foldl add_m l.total (map (turned l.g) (drop l.rotation-index l.rotations)) ≡ total_metric l.g l.rotations
