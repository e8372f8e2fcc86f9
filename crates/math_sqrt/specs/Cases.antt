-- `sqrt` by the bit pattern of its argument.
use Rattle.std.specs.Prelude.{ℕ, zero, suc, ◌+◌, ◌*◌, ◌≤◌, ◌<◌, ◌^◌, ◌/◌, ◌%◌, ◌≡◌, Bool, cond, T, leb, eqb, Float}
use Rattle.std.proofs.Math.Path.{refl, subst}
use Rattle.std.proofs.Common.{sym, ⊎_elim, arith, mul-pos, eq-or-lt_of_le, lt_irrefl, le-leb, pow_pos}
use Rattle.std.proofs.Math.Bool.{true, false}
use Rattle.std.proofs.lemmas.Bool.{false≢true, lt-leb}
use Rattle.std.specs.Float.{nan, inf, fin}
use Rattle.std.specs.Float.Ieee.{binary64, up, fits, of_fields, of_bits, to_bits}
use Rattle.std.specs.Float.Ieee.Exact.{HasValue}
use Rattle.std.specs.Float.Ieee.Fits.{down_pos}
use Rattle.std.specs.Float.Ieee.Positive.{positive, positive_of_value, first_pos}
use Rattle.std.specs.Float.Ieee.Bits.{of_bits-to_bits}
use Rattle.definitions.specs.Real.{root_of_fields, sqrt}
use Rattle.math_sqrt.specs.Value.{units_at, field_of, bits_value}

-- a zero is its own root
zero_fields : (s : Bool) (x t : ℕ) → x ≡ 0 → t ≡ 0 → sqrt (of_fields binary64 s x t) ≡ of_fields binary64 s x t
zero_fields s x t e f = rw (e, f) (at s)
  where
    at : (s : Bool) → sqrt (of_fields binary64 s 0 0) ≡ of_fields binary64 s 0 0
    at s = unfold sqrt of_fields in refl

pub root_of_zero : (b : ℕ) → b % 2 ^ 63 ≡ 0 → sqrt (of_bits binary64 b) ≡ of_bits binary64 b
unfolding of_bits
root_of_zero b h = zero_fields (leb (2 ^ 63) b) (field_of b) (b % 2 ^ 52) (omega arith) (omega arith)

-- the field is all ones: an infinity or no number
special : (s : Bool) (P : Float → Type 0) → P (inf s) → P nan → (x t : ℕ) → x ≡ 2047 → P (of_fields binary64 s x t)
special s P i n x t e = subst (λ a. P (of_fields binary64 s a t)) (sym e) (unfold of_fields in by (eqb t 0))
  where
    by : (z : Bool) → P (cond z (inf s) nan)
    by true = i
    by false = n

pub root_of_infinite : (b : ℕ) → b < 2 ^ 63 → field_of b ≡ 2047 → sqrt (of_bits binary64 b) ≡ of_bits binary64 b
root_of_infinite b h e = unfold of_bits in
    subst (λ s. sqrt (of_fields binary64 s (field_of b) (b % 2 ^ 52)) ≡ of_fields binary64 s (field_of b) (b % 2 ^ 52)) (sym (lt-leb (2 ^ 63) b h))
    (special false (λ v. sqrt v ≡ v) (unfold sqrt in refl) (unfold sqrt in refl) (field_of b) (b % 2 ^ 52) e)

-- a finite float that is not 0 has units
units_above : (x t : ℕ) → 0 < x + t → 0 < units_at x t
unfolding units_at
units_above zero t h = omega arith
units_above (suc k) t h = mul-pos (omega arith) (pow_pos k)

negative_value : (v : Float) (a c : ℕ) → 0 < a → HasValue v true a c → sqrt v ≡ nan
unfolding sqrt
negative_value nan a c p h = refl
negative_value (inf s) a c p h = absurd h
negative_value (fin true (suc m) e) a c p h = refl
negative_value (fin true zero e) a c p h = absurd (lt_irrefl 0 (first_pos 0 (up e) (first_pos (0 * up e) c (subst (λ (z : ℕ). 0 < z) (sym h.1) (mul-pos p (down_pos e))))))
negative_value (fin false m e) a c p h = absurd (false≢true h.0)

pub root_of_negative : (b : ℕ) → 2 ^ 63 ≤ b → (b % 2 ^ 63 ≡ 0 → ⊥) → sqrt (of_bits binary64 b) ≡ nan
root_of_negative b h n = ⊎_elim infinite finite (eq-or-lt_of_le (le))
  where
    le : field_of b ≤ 2047
    le = omega arith

    infinite : field_of b ≡ 2047 → sqrt (of_bits binary64 b) ≡ nan
    infinite e = unfold of_bits in
        subst (λ s. sqrt (of_fields binary64 s (field_of b) (b % 2 ^ 52)) ≡ nan) (sym (le-leb (2 ^ 63) b h))
        (special true (λ v. sqrt v ≡ nan) (unfold sqrt in refl) (unfold sqrt in refl) (field_of b) (b % 2 ^ 52) e)

    finite : field_of b < 2047 → sqrt (of_bits binary64 b) ≡ nan
    finite l =
        let a = units_at (field_of b) (b % 2 ^ 52) in
        negative_value (of_bits binary64 b) a (2 ^ 1074) (units_above (field_of b) (b % 2 ^ 52) (omega arith))
        (subst (λ s. HasValue (of_bits binary64 b) s a (2 ^ 1074)) (le-leb (2 ^ 63) b h) (bits_value b l))

positive_root : (x : Float) → T (positive x) → sqrt x ≡ of_bits binary64 (root_of_fields (to_bits binary64 x / 2 ^ 52) (to_bits binary64 x % 2 ^ 52))
unfolding sqrt
positive_root nan h = absurd h
positive_root (inf s) h = absurd h
positive_root (fin true m e) h = absurd h
positive_root (fin false zero e) h = absurd h
positive_root (fin false (suc m) e) h = refl

pub root_of_positive : (x : Float) → T (fits binary64 x) → 0 < to_bits binary64 x → to_bits binary64 x < 0x7FF0000000000000
    → sqrt x ≡ of_bits binary64 (root_of_fields (to_bits binary64 x / 2 ^ 52) (to_bits binary64 x % 2 ^ 52))
root_of_positive x f p l =
    let b = to_bits binary64 x in
    let a = units_at (field_of b) (b % 2 ^ 52) in
    let s : leb (2 ^ 63) b ≡ false = lt-leb (2 ^ 63) b (omega arith) in
    positive_root x (positive_of_value x a (2 ^ 1074)
    (subst (λ y. HasValue y false a (2 ^ 1074)) (of_bits-to_bits binary64 x f) (subst (λ s. HasValue (of_bits binary64 b) s a (2 ^ 1074)) s (bits_value b (omega arith))))
    (units_above (field_of b) (b % 2 ^ 52) (omega arith)))
