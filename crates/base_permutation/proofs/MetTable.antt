-- The scan of `each_once`: a table of 256 cells says whether each image was met among the first i entries of p, none of
-- them twice.
use Rattle.std.proofs.Common.{ℕ, ◌+◌, ◌≤◌, ◌<◌, ◌≡◌, refl, sym, ap, ◌∙◌, Bool, true, false, List, length, get_or, set, take, replicate, arith, get_or-set_same}
use Rattle.std.proofs.Math.Dec.{eqb}
use Rattle.std.proofs.Math.Seq.{get_or-set_other, take-length}
use borrow.Author.Tests.{eq-eqb, eqb-true, eqb-false}
use Rattle.definitions.specs.Lists.{count}
use Rattle.definitions.specs.Permutation.{image, is_permutation}
use Rattle.base_permutation.specs.Bijection.{bijection, counted, passes}
use Rattle.laws.specs.Counting.{bit, count-more, count_from}
use Rattle.laws.specs.Filling.{zeros}

abbrev pub Met : List ℕ → ℕ → List Bool → Type 0
Met p i met = (x : ℕ) → x < 256 → count (eqb x) (take i p) ≡ bit (get_or met x false)

at_most_one : (b : Bool) → bit b ≤ 1
at_most_one true = omega arith
at_most_one false = omega arith

not-true : (b : Bool) → (b ≡ true → ⊥) → false ≡ b
not-true true f = absurd (f refl)
not-true false f = refl

pub met_none : (p : List ℕ) → Met p 0 (replicate 256 false)
unfolding count
met_none p x h = ap bit (sym (zeros {A = Bool} false 256 x))

-- an image that was not met is noted
pub met_more : (p : List ℕ) (met : List Bool) (i x : ℕ) → Met p i met → i < length p → length met ≡ 256 → x < 256 → x ≡ image p i → get_or met x false ≡ false → Met p (i + 1) (set met x true)
met_more p met i x m k long h e free y g = by (eqb y x) refl
  where
    more : count (eqb y) (take (i + 1) p) ≡ bit (get_or met y false) + bit (eqb y x)
    more = rw e (count-more (eqb y) 0 p i k ∙ ap (λ c. c + bit (eqb y (image p i))) (m y g))

    by : (b : Bool) → eqb y x ≡ b → count (eqb y) (take (i + 1) p) ≡ bit (get_or (set met x true) y false)
    by true q =
        let same : y ≡ x = eqb-true y x q in
        let one : get_or (set met x true) y false ≡ true = rw same (get_or-set_same met x true false (omega arith)) in
        let old : get_or met y false ≡ false = rw same free in
        omega (arith, more, ap bit q, ap bit one, ap bit old)
    by false q =
        let other : get_or (set met x true) y false ≡ get_or met y false = get_or-set_other met x y true false (eqb-false y x q) in
        omega (arith, more, ap bit q, ap bit other)

-- an image met before counts twice
pub met_twice : (p : List ℕ) (met : List Bool) (i x : ℕ) → Met p i met → i < length p → x < 256 → x ≡ image p i → get_or met x false ≡ true → false ≡ is_permutation (length p) p
met_twice p met i x m k h e f = not-true _ (λ t.
    let c = counted (length p) p t i k in
    let d = count_from (eqb (image p i)) 0 p i k (eq-eqb (image p i) (image p i) refl) in
    let o : count (eqb (image p i)) (take i p) ≡ bit (get_or met x false) = rw (← e) (m x h) in
    omega (arith, ap bit f))

pub met_outside : (p : List ℕ) (i x : ℕ) → i < length p → x ≡ image p i → length p ≤ x → false ≡ is_permutation (length p) p
met_outside p i x k e h = not-true _ (λ t. omega (arith, (bijection (length p) p t).below i k))

-- nothing was met twice
pub met_all : (p : List ℕ) (met : List Bool) (i : ℕ) → Met p i met → i ≡ length p → ((j : ℕ) → j < i → image p j < length p) → ((j : ℕ) → image p j < 256) → true ≡ is_permutation (length p) p
met_all p met i m e below byte = sym (passes (length p) p refl (λ j k.
    let r = m (image p j) (byte j) in
    let o : count (eqb (image p j)) p ≡ bit (get_or met (image p j) false) = rw (e, take-length p) at r in
    (below j (omega arith), omega (arith, o, at_most_one (get_or met (image p j) false)))))
