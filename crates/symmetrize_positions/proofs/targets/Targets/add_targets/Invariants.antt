use mathlib.Core.Path.{◌≡◌}
use lib.ListN.{length, drop}
use Rattle.symmetrize_positions.proofs.Sums.{Summed}
use Rattle.symmetrize_positions.proofs.targets.Targets.add_targets.Given as goal

abbrev pub invariant-loop-k : goal.invariant-loop-k
invariant-loop-k l =
    let t = l.self in
    let n = length t.positions.now in
    (length l.out ≡ length l.initial.out)
    × (drop n l.out ≡ drop n l.initial.out)
    × Summed t.positions.now t.rotations.now t.translations.now t.images.now l.k l.out
