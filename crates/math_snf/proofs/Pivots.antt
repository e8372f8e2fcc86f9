-- The place of the least key is the pivot of the definition.
use Prim.Native.Nat.{ℕ, suc, zero, ◌+◌, ◌*◌, ◌/◌, ◌%◌, ◌^◌, ◌≤◌, ◌<◌, min}
use mathlib.Core.Path.{◌≡◌, refl, subst}
use mathlib.Core.Bool.{cond}
use mathlib.Core.Option.{Option, none, some}
use borrow.Author.Tests.{eq-eqb, ne_eqb, le-leb, lt-leb}
use native.Mathlib.Omega.{arith}
use native.Mathlib.Nat.{min-eq_left, min-eq_right, lt_of_not-le}
use native.Mathlib.Decide.{dec_le}
use lib.Dec.{eqb, eqb-suc-zero, lit<}
use lib.IntN.{nat_abs}
use Rattle.definitions.specs.Matrix.{Matrix, at}
use Rattle.definitions.specs.Snf.{Place, places, size_at, lesser, least, pivot}
use Rattle.math_snf_laws.specs.Stages.{most}
use Rattle.math_snf.specs.Step.{most_passes}
use Rattle.math_snf.specs.Key.{no_key, key_at, least_key}

-- ---- a place and what was found behind it

module _ (m : Matrix) (p : Place) where
  lesser_0 : (o : Option Place) → size_at m p ≡ 0 → lesser m p o ≡ o
  unfolding lesser
  lesser_0 none e = rw (eq-eqb (size_at m p) 0 e)
  lesser_0 (some q) e = rw (eq-eqb (size_at m p) 0 e)

  lesser_first : (size_at m p ≡ 0 → ⊥) → lesser m p none ≡ some p
  unfolding lesser
  lesser_first h = rw (ne_eqb (size_at m p) 0 h)

  lesser_this : (q : Place) → (size_at m p ≡ 0 → ⊥) → size_at m p ≤ size_at m q → lesser m p (some q) ≡ some p
  unfolding lesser
  lesser_this q h k = rw (ne_eqb (size_at m p) 0 h, le-leb (size_at m p) (size_at m q) k)

  lesser_other : (q : Place) → (size_at m p ≡ 0 → ⊥) → size_at m q < size_at m p → lesser m p (some q) ≡ some q
  unfolding lesser
  lesser_other q h k = rw (ne_eqb (size_at m p) 0 h, lt-leb (size_at m p) (size_at m q) k)

-- ---- keys

pub key_0 : (m : Matrix) (i j : ℕ) → nat_abs (at m i j) ≡ 0 → key_at m i j ≡ no_key
unfolding key_at
key_0 m i j e = rw (eq-eqb (nat_abs (at m i j)) 0 e)

pub key_is : (m : Matrix) (i j : ℕ) → (nat_abs (at m i j) ≡ 0 → ⊥) → key_at m i j ≡ 16 * nat_abs (at m i j) + 4 * i + j
unfolding key_at
key_is m i j h = rw (ne_eqb (nat_abs (at m i j)) 0 h)

min_assoc : (a b c : ℕ) → min (min a b) c ≡ min a (min b c)
min_assoc a b c = omega arith

-- three rows of three
in_row-order : (a b c d e f g h i : ℕ)
    → min (min a (min b c)) (min (min d (min e f)) (min g (min h i)))
    ≡ min a (min b (min c (min d (min e (min f (min g (min h i)))))))
in_row-order a b c d e f g h i = simp min_assoc

module _ (m : Matrix) (small : (i j : ℕ) → nat_abs (at m i j) ≤ 2 ^ 15) where
  -- the first pass of a stage has few behind it
  pub few_passes : (o : Option Place) → most m o ≤ most_passes
  few_passes none = omega arith
  few_passes (some p) = omega (arith, small p.0 p.1)

  -- k is the key of what was found, at the place of number n or behind it
  abbrev pub Keyed : ℕ → Option Place → ℕ → Type 0
  Keyed n none k = k ≡ no_key
  Keyed n (some q) k = (k ≡ 16 * size_at m q + 4 * q.0 + q.1) × (q.0 < 3) × (q.1 < 3) × (n ≤ 4 * q.0 + q.1)

  not_past : (n : ℕ) (o : Option Place) (k : ℕ) → Keyed n o k → k ≤ no_key
  not_past n none k h = omega arith
  not_past n (some q) k h = omega (arith, small q.0 q.1)

  key_not_past : (i j : ℕ) → i < 3 → j < 3 → key_at m i j ≤ no_key
  unfolding key_at
  key_not_past i j p q = by (nat_abs (at m i j)) (small i j)
    where
      by : (a : ℕ) → a ≤ 2 ^ 15 → cond (eqb a 0) no_key (16 * a + 4 * i + j) ≤ no_key
      by zero h = omega arith
      by (suc a) h = rw (eqb-suc-zero a) (omega arith)

  further : (n i : ℕ) (o : Option Place) (k : ℕ) → i < n → Keyed n o k → Keyed i o k
  further n i none k l h = h
  further n i (some q) k l h = (h.0, h.1, h.2, omega arith)

  -- ---- one place more: the lower key is that of the place that `lesser` takes

  module _ (i j n : ℕ) (p : i < 3) (q : j < 3) (l : 4 * i + j < n) where
    step-zero : (o : Option Place) (k : ℕ) → nat_abs (at m i j) ≡ 0 → Keyed n o k
        → Keyed (4 * i + j) (lesser m (i, j) o) (min (key_at m i j) k)
    step-zero o k e h =
        rw (lesser_0 m (i, j) o e, key_0 m i j e, min-eq_right (not_past n o k h)) (further n (4 * i + j) o k l h)

    this : (nat_abs (at m i j) ≡ 0 → ⊥) → Keyed (4 * i + j) (some (i, j)) (key_at m i j)
    this z = (key_is m i j z, p, q, omega arith)

    step_other : (o : Option Place) (k : ℕ) → (nat_abs (at m i j) ≡ 0 → ⊥) → Keyed n o k
        → Keyed (4 * i + j) (lesser m (i, j) o) (min (key_at m i j) k)
    step_other none k z h =
        let e = key_is m i j z in
        let lower : key_at m i j ≤ k = omega (arith, small i j) in
        rw (lesser_first m (i, j) z, min-eq_left lower) (this z)
    step_other (some r) k z h = by (dec_le (size_at m (i, j)) (size_at m r))
      where
        by : Dec (size_at m (i, j) ≤ size_at m r) → Keyed (4 * i + j) (lesser m (i, j) (some r)) (min (key_at m i j) k)
        by (yes t) =
            let e = key_is m i j z in
            let lower : key_at m i j ≤ k = omega arith in
            rw (lesser_this m (i, j) r z t, min-eq_left lower) (this z)
        by (no t) =
            let e = key_is m i j z in
            let t' = lt_of_not-le t in
            let higher : k ≤ key_at m i j = omega arith in
            rw (lesser_other m (i, j) r z t', min-eq_right higher) (further n (4 * i + j) (some r) k l h)

    step : (o : Option Place) (k : ℕ) → Keyed n o k → Keyed (4 * i + j) (lesser m (i, j) o) (min (key_at m i j) k)
    step o k h = by (dec_le (nat_abs (at m i j)) 0)
      where
        by : Dec (nat_abs (at m i j) ≤ 0) → Keyed (4 * i + j) (lesser m (i, j) o) (min (key_at m i j) k)
        by (yes z) = step-zero o k (omega arith) h
        by (no z) = step_other o k (λ e. z (omega arith)) h

  -- ---- the places of a stage, from the last one back

  last : Keyed 10 (lesser m (2, 2) none) (key_at m 2 2)
  last =
      subst (Keyed 10 (lesser m (2, 2) none)) (min-eq_left (key_not_past 2 2 (lit< tt) (lit< tt)))
      (step 2 2 11 (lit< tt) (lit< tt) (lit< tt) none no_key refl)

  pub pivot_keyed : (s : ℕ) → s < 3 → Keyed 0 (pivot s m) (least_key s m)
  unfolding places least least_key
  pivot_keyed zero h =
      let k = key_at m in
      rw (in_row-order (k 0 0) (k 0 1) (k 0 2) (k 1 0) (k 1 1) (k 1 2) (k 2 0) (k 2 1) (k 2 2))
      (step 0 0 1 (lit< tt) (lit< tt) (lit< tt) _ _
      (step 0 1 2 (lit< tt) (lit< tt) (lit< tt) _ _
      (step 0 2 4 (lit< tt) (lit< tt) (lit< tt) _ _
      (step 1 0 5 (lit< tt) (lit< tt) (lit< tt) _ _
      (step 1 1 6 (lit< tt) (lit< tt) (lit< tt) _ _
      (step 1 2 8 (lit< tt) (lit< tt) (lit< tt) _ _
      (step 2 0 9 (lit< tt) (lit< tt) (lit< tt) _ _ (step 2 1 10 (lit< tt) (lit< tt) (lit< tt) _ _ last))))))))
  pivot_keyed (suc zero) h =
      further 5 0 (pivot 1 m) (least_key 1 m) (lit< tt)
      (rw (min_assoc (key_at m 1 1) (key_at m 1 2) (min (key_at m 2 1) (key_at m 2 2)))
      (step 1 1 6 (lit< tt) (lit< tt) (lit< tt) _ _
      (step 1 2 9 (lit< tt) (lit< tt) (lit< tt) _ _ (step 2 1 10 (lit< tt) (lit< tt) (lit< tt) _ _ last))))
  pivot_keyed (suc (suc zero)) h = further 10 0 (pivot 2 m) (least_key 2 m) (lit< tt) last
  pivot_keyed (suc (suc (suc s))) h = absurd (omega arith)

  -- ---- a key is read back

  pub none_by_key : (o : Option Place) (k : ℕ) → Keyed 0 o k → k ≡ no_key → none ≡ o
  none_by_key none k h e = refl
  none_by_key (some q) k h e = absurd (omega (arith, small q.0 q.1))

  pub place_by_key : (o : Option Place) (k : ℕ) → Keyed 0 o k → (k ≡ no_key → ⊥)
      → (some (k / 4 % 4, k % 4) ≡ o) × (k / 4 % 4 < 3) × (k % 4 < 3)
  place_by_key none k h e = absurd (e h)
  place_by_key (some q) k h e =
      let row : k / 4 % 4 ≡ q.0 = omega arith in
      let column : k % 4 ≡ q.1 = omega arith in
      (rw (row, column), omega arith, omega arith)
