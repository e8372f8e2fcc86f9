-- Permutations of sites: a list whose entry i is the image of site i (moyo's base/permutation.rs).
use Rattle.std.specs.Prelude.{ℕ, ◌*◌, Bool, ◌&&◌, List, map, get_or, length, take, drop, ltb, eqb}
use Rattle.std.proofs.Math.Option.{Option, none, some}
use Rattle.definitions.specs.Lists.{all, count, first, up_to}

abbrev pub image : List ℕ → ℕ → ℕ
image p i = get_or p i 0

-- Refusal 5 speaks of "A permutation image out of range or repeated": n images, none of the two.
unfoldable pub is_permutation : ℕ → List ℕ → Bool
unfolding all count
is_permutation n p = eqb (length p) n && all (λ i. ltb i n && eqb (count (eqb i) p) 1) p

-- "permutation entries .. operation by operation, site by site": the part of the list that is operation k's
abbrev pub permutation_at : ℕ → List ℕ → ℕ → List ℕ
permutation_at n images k = take n (drop (k * n) images)

-- "inverse image of i": the site whose image is i
unfoldable pub inverse_image : List ℕ → ℕ → ℕ
unfolding first
inverse_image p i = by (first (λ j. eqb (image p j) i) (up_to (length p)))
  where
    by : Option ℕ → ℕ
    by none = 0
    by (some j) = j

-- "a permutation of the list applied after another": p after q
abbrev pub after : List ℕ → List ℕ → List ℕ
after p q = map (image p) q
