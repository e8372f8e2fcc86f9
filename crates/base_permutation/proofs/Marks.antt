-- The marks of `all_met`: a table of 256 cells says which images stand among the first i entries of p, and p is a
-- permutation if its own places are all marked at the end.
use Prim.Native.Nat.{ℕ, ◌+◌, ◌≤◌, ◌<◌}
use mathlib.Core.Path.{◌≡◌, refl, sym, ap, ◌∙◌}
use mathlib.Core.Bool.{Bool, true, false, ◌&&◌}
use mathlib.Core.List.{List, [], ◌∷◌, ◌++◌}
use native.Mathlib.Omega.{arith}
use native.Mathlib.Numerals.{add-one}
use lib.Dec.{eqb}
use lib.ListN.{length, get_or, set, take, replicate}
use lib.Seq.{get_or-set_same, get_or-set_other, get_or-take, take-suc, take-length, length-take-le}
use borrow.Author.Tests.{eq-eqb, eqb-true, eqb-false}
use Rattle.definitions.specs.Lists.{all, count}
use Rattle.definitions.specs.Permutation.{image, is_permutation}
use Rattle.base_permutation.specs.Bijection.{bijection, preimage, onto_passes}
use Rattle.laws.specs.Counting.{bit, all_of, all_at, count-more, count_from}
use Rattle.laws.specs.Filling.{zeros}
use Rattle.laws.specs.Tests.{never}

-- ---- cells that are all marked

all_snoc : (t : Bool → Bool) (l : List Bool) (a : Bool) → all t (l ++ (a ∷ [])) ≡ (all t l && t a)
unfolding all
all_snoc t [] a = by (t a)
  where
    by : (b : Bool) → elim b as (λ (x : Bool). Bool) [ true ↦ true | false ↦ false ] ≡ b
    by true = refl
    by false = refl
all_snoc t (x ∷ l) a = by (t x) (all_snoc t l a)
  where
    by : (b : Bool) → all t (l ++ (a ∷ [])) ≡ (all t l && t a)
        → elim b as (λ (x : Bool). Bool) [ true ↦ all t (l ++ (a ∷ [])) | false ↦ false ] ≡ (elim b as (λ (x : Bool). Bool) [ true ↦ all t l | false ↦ false ] && t a)
    by true e = e
    by false e = refl

-- one cell more
pub all_more : (t : Bool → Bool) (l : List Bool) (i : ℕ) (w : Bool) → w ≡ all t (take i l) → i < length l → (w && t (get_or l i false)) ≡ all t (take (i + 1) l)
all_more t l i w e k = rw (add-one, take-suc l i false, all_snoc t (take i l) (get_or l i false), e)

-- ---- marks and entries

-- a cell is marked exactly if its place is among the first i images
abbrev pub Marks : List ℕ → ℕ → List Bool → Type 0
Marks p i met = (x : ℕ) → x < 256 → (get_or met x false ≡ true → 0 < count (eqb x) (take i p)) × (0 < count (eqb x) (take i p) → get_or met x false ≡ true)

pub marks_none : (p : List ℕ) → Marks p 0 (replicate 256 false)
unfolding count
marks_none p x h = (λ k. absurd (never (sym (zeros {A = Bool} false 256 x) ∙ k)), λ k. absurd (omega arith))

pub marks_more : (p : List ℕ) (met : List Bool) (i x : ℕ) → Marks p i met → i < length p → length met ≡ 256 → x < 256 → x ≡ image p i → Marks p (i + 1) (set met x true)
marks_more p met i x m k long h e y g = by (eqb y x) refl
  where
    more : count (eqb y) (take (i + 1) p) ≡ count (eqb y) (take i p) + bit (eqb y x)
    more = rw e (count-more (eqb y) 0 p i k)

    by : (b : Bool) → eqb y x ≡ b → (get_or (set met x true) y false ≡ true → 0 < count (eqb y) (take (i + 1) p)) × (0 < count (eqb y) (take (i + 1) p) → get_or (set met x true) y false ≡ true)
    by true q =
        let same : y ≡ x = eqb-true y x q in
        let one : get_or (set met x true) y false ≡ true = rw same (get_or-set_same met x true false (omega arith)) in
        (λ l. omega (arith, more, ap bit q), λ l. one)
    by false q =
        let other : get_or (set met x true) y false ≡ get_or met y false = get_or-set_other met x y true false (eqb-false y x q) in
        let none = ap bit q in
        (λ l. let r = (m y g).0 (sym other ∙ l) in omega (arith, more), λ l. other ∙ (m y g).1 (omega (arith, more)))

-- ---- every place is marked

both_ways : (a b : Bool) → (a ≡ true → b ≡ true) → (b ≡ true → a ≡ true) → a ≡ b
both_ways true b f g = sym (f refl)
both_ways false true f g = g refl
both_ways false false f g = refl

module _ (p : List ℕ) (met : List Bool) (i : ℕ) (m : Marks p i met) (e : i ≡ length p) (le : length p ≤ 256) (long : length met ≡ 256) where
  whole : (x : ℕ) → count (eqb x) (take i p) ≡ count (eqb x) p
  whole x = ap (count (eqb x)) (ap (λ k. take k p) e ∙ take-length p)

  -- n places met by n entries are a permutation
  onto : ((j : ℕ) → image p j < 256) → all (λ m. m) (take (length p) met) ≡ true → is_permutation (length p) p ≡ true
  onto byte t = onto_passes p 256 le (λ j k. byte j) (λ x k.
      let size = length-take-le (length p) met (omega arith) in
      let cell : get_or met x false ≡ true = sym (get_or-take (length p) met x false k) ∙ all_at (λ m. m) false (take (length p) met) t x (omega arith) in
      let c = (m x (omega arith)).0 cell in
      omega (arith, whole x))

  -- a permutation meets each place
  meets : is_permutation (length p) p ≡ true → all (λ m. m) (take (length p) met) ≡ true
  meets t = all_of (λ m. m) false (take (length p) met) (λ x k.
      let size = length-take-le (length p) met (omega arith) in
      let h : x < length p = omega arith in
      let r = preimage (length p) p (bijection (length p) p t) x h in
      let c = count_from (eqb x) 0 p r.0 r.1 (eq-eqb x (image p r.0) (sym r.2)) in
      let f : 0 < count (eqb x) (take i p) = omega (arith, whole x) in
      get_or-take (length p) met x false h ∙ (m x (omega arith)).1 f)

  pub marks_all : (n : ℕ) → n ≡ length p → ((j : ℕ) → image p j < 256) → all (λ m. m) (take n met) ≡ is_permutation (length p) p
  marks_all n q byte = ap (λ k. all (λ m. m) (take k met)) q ∙ both_ways _ _ (onto byte) meets
