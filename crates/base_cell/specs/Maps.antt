-- Lists that take n sites to n sites, and that permutations are such.
use Rattle.std.specs.Prelude.{ℕ, ◌<◌, ◌≡◌, Bool, ◌&&◌, length, T, ltb, eqb}
use mathlib.Core.List.{List, Memᴰ}
use Rattle.std.proofs.Common.{arith, eqb→eq, ltb→lt}
use Rattle.definitions.specs.Lists.{all, count}
use Rattle.definitions.specs.Permutation.{image, is_permutation}
use Rattle.laws.specs.Lists.{all_mem, all_at}
use Rattle.laws.specs.Tests.{and_left, and_right}

-- an image below n for each of n sites
pub record Maps (n : ℕ) (p : List ℕ) : Type 0 where
  pub size : length p ≡ n
  pub inside : (i : ℕ) → i < n → image p i < n

abbrev pub AllMap : ℕ → List (List ℕ) → Type 0
AllMap n ps = (p : List ℕ) → Memᴰ p ps → Maps n p

pub permutation_maps : (n : ℕ) (p : List ℕ) → T (is_permutation n p) → Maps n p
unfolding is_permutation
permutation_maps n p h = record { size = size; inside = inside }
  where
    test : ℕ → Bool
    test i = ltb i n && eqb (count (eqb i) p) 1

    size : length p ≡ n
    size = eqb→eq (length p) n (and_left (eqb (length p) n) (all test p) h)

    inside : (i : ℕ) → i < n → image p i < n
    inside i l =
        ltb→lt
        (image p i)
        n
        (and_left
        (ltb (image p i) n)
        (eqb (count (eqb (image p i)) p) 1)
        (all_at test p i 0 (and_right (eqb (length p) n) (all test p) h) (omega (arith, size))))

abbrev pub Permutations : ℕ → List (List ℕ) → Type 0
Permutations n ps = (p : List ℕ) → Memᴰ p ps → T (is_permutation n p)

pub permutations-map : {n : ℕ} {ps : List (List ℕ)} → Permutations n ps → AllMap n ps
permutations-map {n} h p m = permutation_maps n p (h p m)

pub permutations-all : (n : ℕ) (ps : List (List ℕ)) → T (all (is_permutation n) ps) → Permutations n ps
permutations-all n ps h p m = all_mem (is_permutation n) ps p h m
