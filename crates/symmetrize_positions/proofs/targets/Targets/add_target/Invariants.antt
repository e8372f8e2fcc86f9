use mathlib.Core.Path.{◌≡◌}
use lib.ListN.{length}
use Rattle.definitions.specs.Permutation.{permutation_at, inverse_image}
use Rattle.symmetrize_positions.specs.Targets.{more}
use Rattle.symmetrize_positions.proofs.Making.{MadeTo}
use Rattle.symmetrize_positions.proofs.targets.Targets.add_target.Given as goal

abbrev pub invariant-loop-j : goal.invariant-loop-j
invariant-loop-j l =
    let t = l.self in
    let n = length t.positions.now in
    (length l.out ≡ length l.initial.out)
    × MadeTo n (inverse_image (permutation_at n t.images.now l.k))
    (more t.positions.now t.rotations.now t.translations.now t.images.now l.k)
    l.initial.out l.j l.out
