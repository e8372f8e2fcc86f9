-- "Label: the first listed site whose primitive site is joined by the aligned permutations, taken either way and in any
-- number of steps, none included."
use Rattle.std.specs.Prelude.{ℕ, ◌<◌, ◌≡◌, get_or, length, eqb}
use mathlib.Core.List.{List, map, Memᴰ}
use Rattle.definitions.specs.Lists.{count, those, up_to}
use Rattle.definitions.specs.Permutation.{image}

-- a permutation of the list takes site i to site j
pub record Step (ps : List (List ℕ)) (i j : ℕ) : Type 0 where
  pub permutation : List ℕ
  pub listed : Memᴰ permutation ps
  pub within : i < length permutation
  pub to : image permutation i ≡ j

-- joined by the permutations
pub data Joined (ps : List (List ℕ)) : ℕ → ℕ → Type 0 where
  none : {i : ℕ} → Joined ps i i
  forth : {i j k : ℕ} → Step ps i j → Joined ps j k → Joined ps i k
  back : {i j k : ℕ} → Step ps j i → Joined ps j k → Joined ps i k

-- the primitive site of a listed one
abbrev pub primitive_of : List ℕ → ℕ → ℕ
primitive_of mapping j = get_or mapping j 0

-- l is the label of the listed site j: the least listed site whose primitive site is joined with that of j
pub record IsLabel (ps : List (List ℕ)) (mapping : List ℕ) (j l : ℕ) : Type 0 where
  pub listed : l < length mapping
  pub joined : Joined ps (primitive_of mapping l) (primitive_of mapping j)
  pub least : (k : ℕ) → k < l → Joined ps (primitive_of mapping k) (primitive_of mapping j) → ⊥

-- the labels of a list of sites
pub record Labels (ps : List (List ℕ)) (mapping labels : List ℕ) : Type 0 where
  pub each : length labels ≡ length mapping
  pub label : (j : ℕ) → j < length mapping → IsLabel ps mapping j (get_or labels j 0)

-- "The multiplicity is the number of listed sites with that label."
unfoldable pub multiplicities : List ℕ → List ℕ
unfolding count
multiplicities labels = map (λ l. count (eqb l) labels) labels

-- "Those sites are one orbit": the sites with the label l, in list order
unfoldable pub orbit : List ℕ → ℕ → List ℕ
unfolding those
orbit labels l = those (λ j. eqb (get_or labels j 0) l) (up_to (length labels))

-- the labels themselves, one an orbit
unfoldable pub orbits : List ℕ → List ℕ
unfolding those
orbits labels = those (λ j. eqb (get_or labels j 0) j) (up_to (length labels))
