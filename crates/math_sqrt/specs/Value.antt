-- What a bit pattern of binary64 stands for, in units of 2 ^ -1074, and how its values lie.
use Rattle.std.specs.Prelude.{ℕ, zero, suc, ◌+◌, ◌*◌, ◌-◌, ◌≤◌, ◌<◌, ◌^◌, ◌/◌, ◌%◌, ◌≡◌, refl, Bool, true, false, cond, ◌⊎◌, T, eqb, leb, ltb, Float}
use Rattle.std.proofs.Common.{sym, ap, ◌∙◌, subst, inl, inr, ⊎_elim, arith, mul-one, mul_assoc, mul-div_cancel, mul-le-mul_right, lt_of_mul-lt-mul_right, mul-lt-mul_of_pos_right, ne_eqb, ltb-true, ltb-false, pow-add, pow_pos, pow_mono}
use Rattle.std.proofs.Math.Nat.{pow-succ'}
use Rattle.std.proofs.lemmas.Bool.{eqb-false}
use Rattle.std.specs.Float.{nan, inf, fin, binary64}
use Rattle.std.specs.Float.Ieee.{down, odd, fits, of_fields, of_bits, to_bits}
use Rattle.std.specs.Float.Ieee.Fits.{down_pos}
use Rattle.std.specs.Float.Ieee.Exact.{HasValue, odd_sign}
use Rattle.std.specs.Float.Ieee.Bits.{of_bits-to_bits}
use Rattle.definitions.specs.Real.{units_of, is_finite}

-- ---- the value of a pattern

-- the units of the exponent's field x and the digits t
unfoldable pub units_at : ℕ → ℕ → ℕ
units_at zero t = t
units_at (suc k) t = (2 ^ 52 + t) * 2 ^ k

pub fields_value : (s : Bool) (x t : ℕ) → x < 2047 → HasValue (of_fields binary64 s x t) s (units_at x t) (2 ^ 1074)
unfolding of_fields units_at
fields_value s zero t h = subst (λ n. HasValue (odd 53 s t 0 1074) s n (2 ^ 1074)) (mul-one t) (odd_sign 53 s t 0 1074)
fields_value s (suc k) t h =
    subst (λ b. HasValue (cond b (cond (eqb t 0) (inf s) nan) (odd 53 s (2 ^ 52 + t) k 1074)) s ((2 ^ 52 + t) * 2 ^ k) (2 ^ 1074))
    (sym (ne_eqb (suc k) 2047 (λ e. omega arith)))
    (odd_sign 53 s (2 ^ 52 + t) k 1074)

abbrev pub field_of : ℕ → ℕ
field_of b = b % 2 ^ 63 / 2 ^ 52

pub bits_value : (b : ℕ) → field_of b < 2047 → HasValue (of_bits binary64 b) (leb (2 ^ 63) b) (units_at (field_of b) (b % 2 ^ 52)) (2 ^ 1074)
unfolding of_bits
bits_value b h = fields_value (leb (2 ^ 63) b) (field_of b) (b % 2 ^ 52) h

pub units_of_value : (x : Float) (s : Bool) (n : ℕ) → HasValue x s n (2 ^ 1074) → units_of x ≡ n
unfolding units_of
units_of_value nan s n h = absurd h
units_of_value (inf t) s n h = absurd h
units_of_value (fin t m e) s n h = ap (λ a. a / down e) h.1 ∙ mul-div_cancel n (down_pos e)

-- ---- a float that is finite

finite_field : (s : Bool) (x t : ℕ) → x ≤ 2047 → T (is_finite (of_fields binary64 s x t)) → x < 2047
unfolding of_fields
finite_field s zero t h f = omega arith
finite_field s (suc k) t h f = by (eqb (suc k) 2047) refl f
  where
    special : (z : Bool) → T (is_finite (cond z (inf s) nan)) → ⊥
    special true g = g
    special false g = g

    by : (z : Bool) → eqb (suc k) 2047 ≡ z → T (is_finite (cond z (cond (eqb t 0) (inf s) nan) (odd 53 s (2 ^ 52 + t) k 1074))) → suc k < 2047
    by true e g = absurd (special (eqb t 0) g)
    by false e g = omega (arith, eqb-false (suc k) 2047 e)

finite_bits : (b : ℕ) → T (is_finite (of_bits binary64 b)) → field_of b < 2047
unfolding of_bits
finite_bits b f = finite_field (leb (2 ^ 63) b) (field_of b) (b % 2 ^ 52) (omega arith) f

module _ (x : Float) (f : T (fits binary64 x)) (g : T (is_finite x)) where
  pub field_of_lem : field_of (to_bits binary64 x) < 2047
  field_of_lem = finite_bits (to_bits binary64 x) (subst (λ y. T (is_finite y)) (sym (of_bits-to_bits binary64 x f)) g)

  -- its value, by the fields of its pattern
  pub own_value : HasValue x (leb (2 ^ 63) (to_bits binary64 x)) (units_at (field_of (to_bits binary64 x)) (to_bits binary64 x % 2 ^ 52)) (2 ^ 1074)
  own_value =
      let b = to_bits binary64 x in
      subst (λ y. HasValue y (leb (2 ^ 63) b) (units_at (field_of b) (b % 2 ^ 52)) (2 ^ 1074)) (of_bits-to_bits binary64 x f) (bits_value b field_of_lem)

-- ---- how the values lie: at most 53 digits, at some place

pub record Digits (n : ℕ) : Type 0 where
  pub digits : ℕ
  pub place : ℕ
  pub few : digits < 2 ^ 53
  pub is : n ≡ digits * 2 ^ place

digits_at : (x t : ℕ) → t < 2 ^ 52 → Digits (units_at x t)
unfolding units_at
digits_at zero t h = record { digits = t; place = 0; few = omega arith; is = sym (mul-one t) }
digits_at (suc k) t h = record { digits = 2 ^ 52 + t; place = k; few = omega arith; is = refl }

pub digits_of : (x : Float) → T (fits binary64 x) → T (is_finite x) → Digits (units_of x)
digits_of x f g =
    let b = to_bits binary64 x in
    subst Digits (sym (units_of_value x _ _ (own_value x f g))) (digits_at (field_of b) (b % 2 ^ 52) (omega arith))

-- from 2 ^ 52 * 2 ^ k on each is a multiple of 2 ^ k
pub grid : (n k : ℕ) → Digits n → ((p : ℕ) × (n ≡ p * 2 ^ k)) ⊎ (n < 2 ^ 52 * 2 ^ k)
grid n k d = by (ltb d.place k) refl
  where
    by : (z : Bool) → ltb d.place k ≡ z → ((p : ℕ) × (n ≡ p * 2 ^ k)) ⊎ (n < 2 ^ 52 * 2 ^ k)
    by true e =
        let h : suc d.place ≤ k = ltb-true d.place k e in
        let g : d.digits * 2 ^ d.place < 2 ^ 53 * 2 ^ d.place = mul-lt-mul_of_pos_right d.few (pow_pos d.place) in
        inr (omega (arith, d.is, pow-succ' 2 d.place, pow_mono h))
    by false e =
        let h : d.place - k + k ≡ d.place = omega (arith, ltb-false d.place k e) in
        inl (d.digits * 2 ^ (d.place - k), d.is ∙ ap (λ (y : ℕ). d.digits * 2 ^ y) (sym h) ∙ ap (λ (y : ℕ). d.digits * y) (pow-add 2 (d.place - k) k) ∙ sym (mul_assoc _ _ _))

-- the next one up from m * 2 ^ k is no nearer than (m + 1) * 2 ^ k, and the next one down no nearer than (m - 1) * 2 ^
-- k
pub next_up : (n m k : ℕ) → Digits n → 2 ^ 52 ≤ m → m * 2 ^ k < n → (m + 1) * 2 ^ k ≤ n
next_up n m k d h l = ⊎_elim (λ g. rise g.0 g.1) (λ g. absurd (low g)) (grid n k d)
  where
    rise : (p : ℕ) → n ≡ p * 2 ^ k → (m + 1) * 2 ^ k ≤ n
    rise p e =
        let a : m < p = lt_of_mul-lt-mul_right (2 ^ k) (subst (λ y. m * 2 ^ k < y) e l) in
        let b : (m + 1) * 2 ^ k ≤ p * 2 ^ k = mul-le-mul_right (2 ^ k) (omega arith) in
        omega arith

    low : n < 2 ^ 52 * 2 ^ k → ⊥
    low g =
        let a : 2 ^ 52 * 2 ^ k ≤ m * 2 ^ k = mul-le-mul_right (2 ^ k) h in
        omega arith

pub next_down : (n m k : ℕ) → Digits n → 2 ^ 52 ≤ m → n < suc m * 2 ^ k → n ≤ m * 2 ^ k
next_down n m k d h l = ⊎_elim (λ g. fall g.0 g.1) low (grid n k d)
  where
    fall : (p : ℕ) → n ≡ p * 2 ^ k → n ≤ m * 2 ^ k
    fall p e =
        let a : p < suc m = lt_of_mul-lt-mul_right (2 ^ k) (subst (λ y. y < suc m * 2 ^ k) e l) in
        let b : p * 2 ^ k ≤ m * 2 ^ k = mul-le-mul_right (2 ^ k) (omega arith) in
        omega arith

    low : n < 2 ^ 52 * 2 ^ k → n ≤ m * 2 ^ k
    low g =
        let a : 2 ^ 52 * 2 ^ k ≤ m * 2 ^ k = mul-le-mul_right (2 ^ k) h in
        omega arith
