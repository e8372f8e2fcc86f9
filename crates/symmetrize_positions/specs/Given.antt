-- What the definitions say of the positions that are given.
use Rattle.std.specs.Prelude.{ℕ, ◌≤◌, List, length, Float}
use Rattle.definitions.specs.Calls.{symmetrize_conditions, symmetrized_cells, transformed_cells}
use Rattle.definitions.specs.Refusal.{Condition}
use Rattle.symmetrize_positions.specs.declared.GivenPositions.{GivenPositions}
use Rattle.symmetrize_positions.specs.Targets.{Counted, Permuted}

abbrev pub conditions : GivenPositions → ℕ → List Condition
conditions g room =
    let to = g.targets in
    symmetrize_conditions g.t g.shift g.positions.now to.rotations.now to.translations.now to.images.now room

abbrev pub answer : GivenPositions → List (List Float)
answer g =
    let to = g.targets in
    symmetrized_cells (transformed_cells g.t g.shift g.positions.now) to.rotations.now to.translations.now to.images.now

-- what an accepted call knows: the counts of refusal 2, permutations, and room for the answer
abbrev pub Known : GivenPositions → ℕ → Type 0
Known g room =
    let n = length g.positions.now in
    let k = length g.targets.rotations.now in
    Counted n k (length g.targets.translations.now) (length g.targets.images.now)
    × Permuted n k g.targets.images.now
    × (n ≤ room)
