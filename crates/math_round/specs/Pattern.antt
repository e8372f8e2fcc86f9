-- A float by the fields of its bit pattern: the sign, the exponent's field, the digits. What they say of its case.
use Rattle.std.specs.Prelude.{ℕ, zero, suc, ◌+◌, ◌*◌, ◌-◌, ◌/◌, ◌%◌, ◌^◌, ◌≤◌, ◌<◌, ◌≡◌, refl, Bool, true, false, cond, ◌⊎◌, T, eqb, leb, Float}
use Rattle.std.proofs.Math.Path.{sym, ap}
use Rattle.std.proofs.Common.{◌∙◌, subst, inl, inr, arith, mul-div_cancel, mul-pos, mul_assoc, eq-eqb, ne_eqb, pow-add, pow_pos}
use Rattle.std.specs.Float.{nan, inf, fin}
use Rattle.std.specs.Float.Ieee.{binary64, down, odd, of_fields, round, of_bits, to_bits}
use Rattle.std.specs.Float.Ieee.Fits.{down_pos}
use Rattle.std.specs.Float.Ieee.Exact.{HasValue, odd_sign}
use Rattle.definitions.specs.Real.{units_of, is_finite, negative, round_away}
use Rattle.math_round.specs.Cases as Cases
use Rattle.math_round.specs.Cases.{Nearest, Tie, compared}
use Rattle.math_round.specs.declared.pattern.Parts.{Parts}
use Rattle.math_round.specs.declared.pattern.Magnitude.{Magnitude}
use Rattle.math_round.specs.declared.pattern.Magnitude.TheVariants.{Special, Whole, Split}

-- whether it is minus: the highest bit
abbrev pub sign_of : ℕ → Bool
sign_of b = leb (2 ^ 63) b

abbrev pub field_of : ℕ → ℕ
field_of b = b % 2 ^ 63 / 2 ^ 52

-- of a normal number: the first is not stored
abbrev pub digits_of : ℕ → ℕ
digits_of b = 2 ^ 52 + b % 2 ^ 52

-- 1 in units of the last digit; with 54 places it is more than twice all digits
abbrev pub one_of : ℕ → ℕ
one_of b = 2 ^ (54 - (field_of b - 1021))

abbrev pub parts_of : ℕ → Parts
parts_of b =
    record { sign = sign_of b; whole = digits_of b / one_of b; rest = digits_of b % one_of b; one = one_of b }

-- ---- the magnitude

-- of the field f and the digits t, in units of 2 ^ -1074
unfoldable pub units_at : ℕ → ℕ → ℕ
units_at zero t = t * 2 ^ 0
units_at (suc x) t = (2 ^ 52 + t) * 2 ^ x

fields_value : (s : Bool) (f t : ℕ) → f < 2047 → HasValue (of_fields binary64 s f t) s (units_at f t) (2 ^ 1074)
unfolding of_fields units_at
fields_value s zero t h = odd_sign 53 s t 0 1074
fields_value s (suc x) t h =
    let value : Float → Type 0 = λ v. HasValue v s ((2 ^ 52 + t) * 2 ^ x) (2 ^ 1074) in
    subst (λ b. value (cond b (cond (eqb t 0) (inf s) nan) (odd 53 s (2 ^ 52 + t) x 1074)))
    (sym (ne_eqb (suc x) 2047 (λ e. omega arith)))
    (odd_sign 53 s (2 ^ 52 + t) x 1074)

-- a float of the sign s and of a units
pub record Measured (x : Float) (s : Bool) (a : ℕ) : Type 0 where
  pub finite : T (is_finite x)
  pub sign : negative x ≡ s
  pub units : units_of x ≡ a

measured : (x : Float) (s : Bool) (a : ℕ) → HasValue x s a (2 ^ 1074) → Measured x s a
unfolding units_of
measured nan s a h = absurd h
measured (inf t) s a h = absurd h
measured (fin t m e) s a h =
    record { finite = tt; sign = h.0; units = ap (λ (y : ℕ). y / down e) h.1 ∙ mul-div_cancel a (down_pos e) }

pub finite_pattern :
    (b : ℕ) → field_of b < 2047 →
    Measured (of_bits binary64 b) (leb (2 ^ 63) b) (units_at (field_of b) (b % 2 ^ 52))
unfolding of_bits
finite_pattern b h = measured _ (leb (2 ^ 63) b) _ (fields_value (leb (2 ^ 63) b) (field_of b) (b % 2 ^ 52) h)

-- ---- special values

pub zero_pattern : (b : ℕ) → b % 2 ^ 63 ≡ 0 → Cases.Special (of_bits binary64 b)
unfolding units_at
zero_pattern b h =
    inr ((finite_pattern b (omega arith)).units ∙ at (field_of b) (b % 2 ^ 52) (omega arith) (omega arith))
  where
    at : (f t : ℕ) → f ≡ 0 → t ≡ 0 → units_at f t ≡ 0
    at zero t e h = ap (λ (y : ℕ). y * 1) h
    at (suc x) t e h = absurd (omega arith)

infinite_fields : (s : Bool) (f t : ℕ) → f ≡ 2047 → is_finite (of_fields binary64 s f t) ≡ false
unfolding of_fields
infinite_fields s zero t e = absurd (omega arith)
infinite_fields s (suc x) t e =
    subst (λ b. is_finite (cond b (cond (eqb t 0) (inf s) nan) (odd 53 s (2 ^ 52 + t) x 1074)) ≡ false)
    (sym (eq-eqb (suc x) 2047 e)) (none (eqb t 0))
  where
    none : (z : Bool) → is_finite (cond z (inf s) nan) ≡ false
    none true = refl
    none false = refl

pub infinite_pattern : (b : ℕ) → 0x7FF0000000000000 ≤ b % 2 ^ 63 → Cases.Special (of_bits binary64 b)
unfolding of_bits
infinite_pattern b h = inl (infinite_fields (leb (2 ^ 63) b) (field_of b) (b % 2 ^ 52) (omega arith))

pub other_pattern : (b : ℕ) → 0 < b % 2 ^ 63 → b % 2 ^ 63 < 0x7FF0000000000000 → 0 < units_of (of_bits binary64 b)
unfolding units_at
other_pattern b o h =
    subst (λ (y : ℕ). 0 < y) (sym (finite_pattern b (omega arith)).units) (at (field_of b) (b % 2 ^ 52) some)
  where
    some : field_of b ≡ 0 → 0 < b % 2 ^ 52
    some e = omega arith

    at : (f t : ℕ) → (f ≡ 0 → 0 < t) → 0 < units_at f t
    at zero t h = omega (arith, h refl)
    at (suc x) t h = mul-pos (omega arith) (pow_pos x)

-- ---- from the field 1075 on

pub whole_pattern :
    (b : ℕ) → 1075 ≤ field_of b → field_of b < 2047 →
    units_of (of_bits binary64 b) ≡ digits_of b * 2 ^ (field_of b - 1075) * 2 ^ 1074
unfolding units_at
whole_pattern b h l = (finite_pattern b l).units ∙ at (field_of b) (b % 2 ^ 52) h
  where
    at : (f t : ℕ) → 1075 ≤ f → units_at f t ≡ (2 ^ 52 + t) * 2 ^ (f - 1075) * 2 ^ 1074
    at zero t h = absurd (omega arith)
    at (suc x) t h =
        let parts : x ≡ suc x - 1075 + 1074 = omega arith in
        ap (λ (y : ℕ). (2 ^ 52 + t) * 2 ^ y) parts
        ∙ ap (λ (y : ℕ). (2 ^ 52 + t) * y) (pow-add 2 (suc x - 1075) 1074)
        ∙ sym (mul_assoc (2 ^ 52 + t) (2 ^ (suc x - 1075)) (2 ^ 1074))

-- ---- the cases of a float by its own pattern

abbrev pub bits_of : Float → ℕ
bits_of x = to_bits binary64 x

-- what `signed_whole` makes of n and a sign
abbrev pub signed : Bool → ℕ → Float
signed g n = round binary64 g n 1

-- what the parts of a magnitude say of x, and what it is rounded to
pub record Parted (x : Float) (p : Parts) : Type 0 where
  pub low : 2 * p.rest < p.one → Nearest x × (signed p.sign p.whole ≡ round_away x)
  pub high : p.one < 2 * p.rest → Nearest x × (signed p.sign (suc p.whole) ≡ round_away x)
  pub half : 2 * p.rest ≡ p.one → Tie x × (signed p.sign (suc p.whole) ≡ round_away x)
  pub few_whole : p.whole < 2 ^ 53
  pub few_rest : p.rest < 2 ^ 53

-- x read as a magnitude
abbrev pub Measures : Float → Magnitude → Type 0
Measures x Special = Cases.Special x
Measures x Whole = Nearest x × (x ≡ round_away x)
Measures x (Split p) = Parted x p

-- a reading that is known to be of parts
pub by_parts : (x : Float) (t : Magnitude) (p : Parts) → Measures x t → t ≡ Split p → Parted x p
by_parts x t p h e = subst (Measures x) e h

pub nearest_or_half : (x : Float) (p : Parts) → Parted x p → Nearest x ⊎ (2 * p.rest ≡ p.one)
nearest_or_half x p h = by (compared (2 * p.rest) p.one)
  where
    by : (2 * p.rest < p.one) ⊎ ((p.one < 2 * p.rest) ⊎ (2 * p.rest ≡ p.one)) → Nearest x ⊎ (2 * p.rest ≡ p.one)
    by (inl k) = inl (h.low k).0
    by (inr (inl k)) = inl (h.high k).0
    by (inr (inr k)) = inr k
