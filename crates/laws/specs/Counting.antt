-- Laws of the words on lists, by the places of a list: `all`, `count`, `first`, `up_from`.
use Prim.Native.Nat.{ℕ, zero, suc, ◌+◌, ◌≤◌, ◌<◌}
use Rattle.std.specs.Prelude.{◌≡◌, Bool, get_or, take, drop}
use Rattle.std.proofs.Math.Path.{refl}
use Rattle.std.proofs.Common.{sym, ◌∙◌, not-suc-le-zero, le_of_suc-le-suc, add-one, take-append-drop, drop-cons}
use Rattle.std.proofs.Math.Bool.{true, false}
use mathlib.Core.List.{List, [], ◌∷◌, ◌++◌}
use Rattle.std.proofs.Math.Option.{Option, some}
use native.Mathlib.Omega.{arith}
use Rattle.std.proofs.Math.ListN.{length}
use Rattle.std.proofs.Math.Seq.{take-suc}
use Rattle.laws.specs.Tests.{never}
use Rattle.laws.specs.Lists.{length-up_from, up_to_at, get_d_default}
use Rattle.definitions.specs.Lists.{all, first, count, up_to}

-- 1 for a test that passes
abbrev pub bit : Bool → ℕ
bit true = 1
bit false = 0

bit-most : (b : Bool) → bit b ≤ 1
bit-most true = omega arith
bit-most false = omega arith

module _ {A : Type 0} (t : A → Bool) where
  all_cons : (a : A) (l : List A) → t a ≡ true → all t l ≡ true → all t (a ∷ l) ≡ true
  unfolding all
  all_cons a l e f = rw (e, all) f

  all_head : (a : A) (l : List A) → all t (a ∷ l) ≡ true → t a ≡ true
  unfolding all
  all_head a l = by (t a)
    where
      by : (b : Bool) → elim b [ true ↦ all t l | false ↦ false ] ≡ true → b ≡ true
      by true r = refl
      by false r = r

  all_tail : (a : A) (l : List A) → all t (a ∷ l) ≡ true → all t l ≡ true
  unfolding all
  all_tail a l = by (t a)
    where
      by : (b : Bool) → elim b [ true ↦ all t l | false ↦ false ] ≡ true → all t l ≡ true
      by true r = r
      by false r = absurd (never r)

  pub count-cons : (a : A) (l : List A) → count t (a ∷ l) ≡ bit (t a) + count t l
  unfolding count
  count-cons a l = by (t a)
    where
      by : (b : Bool) → elim b [ true ↦ suc (count t l) | false ↦ count t l ] ≡ bit b + count t l
      by true = omega arith
      by false = omega arith

  count-append : (l m : List A) → count t (l ++ m) ≡ count t l + count t m
  unfolding count
  count-append [] m = omega arith
  count-append (a ∷ l) m = omega (arith, count-cons a (l ++ m), count-cons a l, count-append l m)

  -- no more pass than are there
  pub count_most : (l : List A) → count t l ≤ length l
  unfolding count
  count_most [] = omega arith
  count_most (a ∷ l) = omega (arith, count-cons a l, bit-most (t a), count_most l)

module _ {A : Type 0} (t : A → Bool) (d : A) where
  -- every place passes
  pub all_of : (l : List A) → ((i : ℕ) → i < length l → t (get_or l i d) ≡ true) → all t l ≡ true
  unfolding all
  all_of [] h = refl
  all_of (a ∷ l) h = all_cons t a l (h 0 (omega arith)) (all_of l (λ i k. h (suc i) (omega arith)))

  pub all_at : (l : List A) → all t l ≡ true → (i : ℕ) → i < length l → t (get_or l i d) ≡ true
  all_at [] e i k = absurd (not-suc-le-zero k)
  all_at (a ∷ l) e zero k = all_head t a l e
  all_at (a ∷ l) e (suc i) k = all_at l (all_tail t a l e) i (le_of_suc-le-suc k)

  -- one place more of a count
  pub count-more : (l : List A) (i : ℕ) → i < length l → count t (take (i + 1) l) ≡ count t (take i l) + bit (t (get_or l i d))
  unfolding count
  count-more l i k =
      rw (add-one, take-suc l i d, count-append t (take i l) (get_or l i d ∷ []), count-cons t (get_or l i d) []) (omega arith)

  -- a place that passes counts, beside those before it
  pub count_from : (l : List A) (i : ℕ) → i < length l → t (get_or l i d) ≡ true → count t (take i l) < count t l
  count_from l i k e =
      let s : count t l ≡ count t (take i l) + count t (drop i l) = rw (← count-append t (take i l) (drop i l), take-append-drop i l) in
      let r : count t (drop i l) ≡ 1 + count t (drop (suc i) l) = rw (drop-cons l i d, count-cons t (get_or l i d) (drop (suc i) l), e) in
      omega arith

  count_none : (l : List A) → ((i : ℕ) → i < length l → t (get_or l i d) ≡ true → ⊥) → count t l ≡ 0
  unfolding count
  count_none [] h = refl
  count_none (a ∷ l) h = omega (arith, count-cons t a l, by (t a) (h 0 (omega arith)), count_none l (λ i k. h (suc i) (omega arith)))
    where
      by : (b : Bool) → (b ≡ true → ⊥) → bit b ≡ 0
      by true f = absurd (f refl)
      by false f = refl

  -- if one place at most passes, the count is at most one
  pub count_once : (l : List A) → ((i j : ℕ) → i < length l → j < length l → t (get_or l i d) ≡ true → t (get_or l j d) ≡ true → i ≡ j) → count t l ≤ 1
  unfolding count
  count_once [] h = omega arith
  count_once (a ∷ l) h =
      by (t a) (λ e i k f. let z : 0 ≡ suc i = h 0 (suc i) (omega arith) (omega arith) e f in omega arith)
      (count_once l (λ i j k m e f. let z : suc i ≡ suc j = h (suc i) (suc j) (omega arith) (omega arith) e f in omega arith))
    where
      by : (b : Bool) → (b ≡ true → (i : ℕ) → i < length l → t (get_or l i d) ≡ true → ⊥) → count t l ≤ 1 → elim b [ true ↦ suc (count t l) | false ↦ count t l ] ≤ 1
      by true f r = omega (arith, count_none l (f refl))
      by false f r = r

  -- what counts stands at a place
  pub count-place : (l : List A) → 0 < count t l → (i : ℕ) × (i < length l) × (t (get_or l i d) ≡ true)
  unfolding count
  count-place [] h = absurd (not-suc-le-zero h)
  count-place (a ∷ l) h = by (t a) refl h (count-place l)
    where
      by : (b : Bool) → t a ≡ b → 0 < elim b [ true ↦ suc (count t l) | false ↦ count t l ]
          → (0 < count t l → (i : ℕ) × (i < length l) × (t (get_or l i d) ≡ true))
          → (i : ℕ) × (i < suc (length l)) × (t (get_or (a ∷ l) i d) ≡ true)
      by true e f rest = (0, omega arith, e)
      by false e f rest = let r = rest f in (suc r.0, omega (arith, r.1), r.2)

  -- where a place passes, `first` finds one
  pub first_found : (l : List A) (i : ℕ) → i < length l → t (get_or l i d) ≡ true → (j : ℕ) × (j < length l) × (t (get_or l j d) ≡ true) × (first t l ≡ some (get_or l j d))
  unfolding first
  first_found [] i k e = absurd (not-suc-le-zero k)
  first_found (a ∷ l) i k e = by (t a) refl i k e (first_found l)
    where
      by : (b : Bool) → t a ≡ b → (i : ℕ) → i < suc (length l) → t (get_or (a ∷ l) i d) ≡ true
          → ((i : ℕ) → i < length l → t (get_or l i d) ≡ true → (j : ℕ) × (j < length l) × (t (get_or l j d) ≡ true) × (first t l ≡ some (get_or l j d)))
          → (j : ℕ) × (j < suc (length l)) × (t (get_or (a ∷ l) j d) ≡ true) × (◌≡◌ {A = Option A} (elim b [ true ↦ some a | false ↦ first t l ]) (some (get_or (a ∷ l) j d)))
      by true q i k e rest = (0, omega arith, q, refl)
      by false q zero k e rest = absurd (never (sym q ∙ e))
      by false q (suc i) k e rest = let r = rest i (le_of_suc-le-suc k) e in (suc r.0, omega (arith, r.1), r.2, r.3)

-- the places of 0, 1, ..
pub length-up_to : (n : ℕ) → length (up_to n) ≡ n
length-up_to n = length-up_from 0 n

pub get_d_up_to : (n i d : ℕ) → i < n → get_or (up_to n) i d ≡ i
get_d_up_to n i d h = get_d_default (up_to n) i d 0 (omega (arith, length-up_from 0 n)) ∙ up_to_at n i h
