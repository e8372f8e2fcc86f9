-- The labels by the classes of the permutations.
use Rattle.std.specs.Prelude.{ℕ, ◌<◌, ◌≡◌, refl, length, T, ltb}
use Rattle.std.proofs.Math.Path.{sym}
use Rattle.std.proofs.Common.{ltb→lt}
use mathlib.Core.List.{List, [], ◌∷◌}
use Rattle.definitions.specs.Lists.{all}
use Rattle.definitions.specs.Permutation.{is_permutation}
use Rattle.definitions.specs.Orbit.{primitive_of, Labels, multiplicities}
use Rattle.laws.specs.Lists.{all_at}
use Rattle.base_cell.specs.Maps.{AllMap, permutations-all, permutations-map}
use Rattle.base_cell.specs.Classes.{classes}
use Rattle.base_cell.proofs.Classes.{classes_right}
use Rattle.base_cell.specs.Labels.{labels_by, labels_by_lem}

pub labels_right :
    (n : ℕ) (ps : List (List ℕ)) → AllMap n ps → (mapping : List ℕ) → ((k : ℕ) → k < length mapping → primitive_of mapping k < n) →
    Labels ps mapping (labels_by (classes n ps) mapping)
labels_right n ps maps = labels_by_lem n ps (classes n ps) (classes_right n ps maps)

-- the same where the two conditions are computed
pub labels_computed :
    (n : ℕ) (ps : List (List ℕ)) (mapping : List ℕ) → T (all (is_permutation n) ps) → T (all (λ s. ltb s n) mapping) →
    Labels ps mapping (labels_by (classes n ps) mapping)
labels_computed n ps mapping h g =
    labels_right n ps (permutations-map (permutations-all n ps h)) mapping
    (λ k l. ltb→lt (primitive_of mapping k) n (all_at (λ s. ltb s n) mapping k 0 g l))

-- ---- an example

-- the permutation 1 0 2 4 3 of five sites, two copies each
abbrev swaps : List (List ℕ)
swaps = (1 ∷ 0 ∷ 2 ∷ 4 ∷ 3 ∷ []) ∷ []

abbrev pairs : List ℕ
pairs = 0 ∷ 0 ∷ 1 ∷ 1 ∷ 2 ∷ 2 ∷ 3 ∷ 3 ∷ 4 ∷ 4 ∷ []

abbrev pair_labels : List ℕ
pair_labels = 0 ∷ 0 ∷ 0 ∷ 0 ∷ 4 ∷ 4 ∷ 6 ∷ 6 ∷ 6 ∷ 6 ∷ []

example_computed : labels_by (classes 5 swaps) pairs ≡ pair_labels
unfolding labels_by classes
example_computed = refl

example_labels : Labels swaps pairs pair_labels
unfolding all is_permutation
example_labels = rw (sym example_computed) (labels_computed 5 swaps pairs tt tt)

example_multiplicities : multiplicities pair_labels ≡ 4 ∷ 4 ∷ 4 ∷ 4 ∷ 2 ∷ 2 ∷ 4 ∷ 4 ∷ 4 ∷ 4 ∷ []
unfolding multiplicities
example_multiplicities = refl
