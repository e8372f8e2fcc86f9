-- What a float's pattern says of its case, and of what it is rounded to.
use Rattle.std.specs.Prelude.{ℕ, zero, suc, ◌+◌, ◌*◌, ◌-◌, ◌/◌, ◌%◌, ◌^◌, ◌≤◌, ◌<◌, ◌≡◌, refl, Bool, T, Float}
use Rattle.std.proofs.Math.Path.{sym, ap}
use Rattle.std.proofs.Common.{◌∙◌, subst, inl, inr, arith, lt_of_lt_of_le, lt_of_le_of_lt, lt_of_not-le, div-le_self, pow-add, pow_pos, pow_mono, shl_lt}
use Rattle.std.proofs.Math.Nat.{mod-le}
use Rattle.std.proofs.Math.Decide.{dec_le}
use Rattle.std.specs.Float.Ieee.{binary64, round, fits, of_bits}
use Rattle.std.specs.Float.Ieee.Bits.{of_bits-to_bits}
use Rattle.definitions.specs.Real.{units_of, negative, round_away}
use Rattle.math_round.specs.Cases as Cases
use Rattle.math_round.specs.Cases.{Within, HalfWay, Nearest, Tie}
use Rattle.math_round.proofs.OneCase.{ordinary}
use Rattle.math_round.specs.Cases.{rest_below, rest_above, rest-half, whole_within}
use Rattle.math_round.specs.Rounded.{whole_is_its_own, nearest_is_rounded, tie_is_rounded}
use Rattle.math_round.specs.declared.pattern.Parts.{Parts}
use Rattle.math_round.specs.Pattern.{sign_of, field_of, digits_of, one_of, parts_of, units_at, finite_pattern, zero_pattern, infinite_pattern, other_pattern, whole_pattern, bits_of, signed, Parted}

-- ---- below it

-- what the rest of a magnitude's parts says of X units
record Halved (X : ℕ) (p : Parts) : Type 0 where
  pub low : 2 * p.rest < p.one → Within (2 ^ 1074) X p.whole
  pub high : p.one < 2 * p.rest → Within (2 ^ 1074) X (suc p.whole)
  pub half : 2 * p.rest ≡ p.one → HalfWay (2 ^ 1074) X p.whole

-- with places that matter
halved_far : (b x : ℕ) → field_of b ≡ suc x → 1020 ≤ x → x < 1074 → Halved (digits_of b * 2 ^ x) (parts_of b)
halved_far b x e h l =
    record {
      low = rest_below (digits_of b) (one_of b) (2 ^ x) (2 ^ 1074) (digits_of b * 2 ^ x) (pow_pos p) (pow_pos x) refl one;
      high = rest_above (digits_of b) (one_of b) (2 ^ x) (2 ^ 1074) (digits_of b * 2 ^ x) (pow_pos p) (pow_pos x) refl one;
      half = rest-half (digits_of b) (one_of b) (2 ^ x) (2 ^ 1074) (digits_of b * 2 ^ x) (pow_pos p) (pow_pos x) refl one;
    }
  where
    p : ℕ
    p = 54 - (field_of b - 1021)

    sum : p + x ≡ 1074
    sum = omega arith

    one : 2 ^ 1074 ≡ one_of b * 2 ^ x
    one = ap (λ (y : ℕ). 2 ^ y) (sym sum) ∙ pow-add 2 p x

-- less than a half, whatever the digits are
halved_near : (b X : ℕ) → field_of b < 1021 → 2 * X < 2 ^ 1074 → Halved X (parts_of b)
halved_near b X h l =
    let D = digits_of b in
    subst (λ (p : ℕ). Halved X (record { sign = sign_of b; whole = D / 2 ^ p; rest = D % 2 ^ p; one = 2 ^ p }))
    (sym places)
    (record {
      low = λ k. subst (Within (2 ^ 1074) X) (sym none) (beside (2 ^ 1074) l);
      high = λ k. absurd (not_high k);
      half = λ k. absurd (not_half k);
    })
  where
    places : 54 - (field_of b - 1021) ≡ 54
    places = omega arith

    none : digits_of b / 2 ^ 54 ≡ 0
    none = omega arith

    beside : (U : ℕ) → 2 * X < U → Within U X 0
    beside U l = record { above = omega arith; below = omega arith }

    not_high : 2 ^ 54 < 2 * (digits_of b % 2 ^ 54) → ⊥
    not_high k = omega arith

    not_half : 2 * (digits_of b % 2 ^ 54) ≡ 2 ^ 54 → ⊥
    not_half k = omega arith

halved_pattern : (b : ℕ) → field_of b < 1075 → Halved (units_of (of_bits binary64 b)) (parts_of b)
unfolding units_at
halved_pattern b h =
    subst (λ (X : ℕ). Halved X (parts_of b)) (sym (finite_pattern b (omega arith)).units) (at (field_of b) refl h)
  where
    few : (d x : ℕ) → d < 2 ^ 53 → x < 1020 → 2 * (d * 2 ^ x) < 2 ^ 1074
    few d x h l =
        let le : 53 + x ≤ 1073 = omega arith in
        twice (d * 2 ^ x) (2 ^ 1073) (lt_of_lt_of_le (shl_lt 53 x h) (pow_mono le))
      where
        twice : (a c : ℕ) → a < c → 2 * a < 2 * c
        twice a c h = omega arith

    at : (f : ℕ) → field_of b ≡ f → f < 1075 → Halved (units_at f (b % 2 ^ 52)) (parts_of b)
    at zero e h = halved_near b (b % 2 ^ 52 * 2 ^ 0) (omega arith) (few (b % 2 ^ 52) 0 (omega arith) (omega arith))
    at (suc x) e h = by (dec_le 1020 x)
      where
        by : Dec (1020 ≤ x) → Halved (digits_of b * 2 ^ x) (parts_of b)
        by (yes l) = halved_far b x e l (omega arith)
        by (no n) =
            let l = lt_of_not-le n in
            halved_near b (digits_of b * 2 ^ x) (omega arith) (few (digits_of b) x (omega arith) l)

-- ---- the cases of a float by its own pattern

module _ (x : Float) (f : T (fits binary64 x)) where
  own : of_bits binary64 (bits_of x) ≡ x
  own = of_bits-to_bits binary64 x f

  pub zero_is_special : bits_of x % 2 ^ 63 ≡ 0 → Cases.Special x
  zero_is_special h = subst Cases.Special own (zero_pattern (bits_of x) h)

  pub infinite_is_special : 0x7FF0000000000000 ≤ bits_of x % 2 ^ 63 → Cases.Special x
  infinite_is_special h = subst Cases.Special own (infinite_pattern (bits_of x) h)

  pub other_is_not : 0 < bits_of x % 2 ^ 63 → bits_of x % 2 ^ 63 < 0x7FF0000000000000 → Cases.Special x → ⊥
  other_is_not o h s = no (subst Cases.Special (sym own) s)
    where
      no_units : (X : ℕ) → 0 < X → X ≡ 0 → ⊥
      no_units X o e = omega arith

      no : Cases.Special (of_bits binary64 (bits_of x)) → ⊥
      no (inl e) = subst T e (finite_pattern (bits_of x) (omega arith)).finite
      no (inr e) = no_units (units_of (of_bits binary64 (bits_of x))) (other_pattern (bits_of x) o h) e

module _ (x : Float) (f : T (fits binary64 x)) (s : Cases.Special x → ⊥) where
  below_infinity : field_of (bits_of x) < 2047
  below_infinity = by (dec_le 0x7FF0000000000000 (bits_of x % 2 ^ 63))
    where
      by : Dec (0x7FF0000000000000 ≤ bits_of x % 2 ^ 63) → field_of (bits_of x) < 2047
      by (yes h) = absurd (s (infinite_is_special x f h))
      by (no n) = omega (arith, lt_of_not-le n)

  sign_is : sign_of (bits_of x) ≡ negative x
  sign_is = sym (finite_pattern (bits_of x) below_infinity).sign ∙ ap negative (own x f)

  near : (n : ℕ) → Within (2 ^ 1074) (units_of x) n → Nearest x
  near n h = record { finite = (ordinary x s).0; not_zero = (ordinary x s).1; n = n; near = h }

  nearest_signed : (n : ℕ) → Within (2 ^ 1074) (units_of x) n → Nearest x × (signed (sign_of (bits_of x)) n ≡ round_away x)
  unfolding near
  nearest_signed n h =
      (near n h, ap (λ (g : Bool). round binary64 g n 1) sign_is ∙ sym (nearest_is_rounded x f (near n h)))

  tie_signed :
      (n : ℕ) → HalfWay (2 ^ 1074) (units_of x) n → Tie x × (signed (sign_of (bits_of x)) (suc n) ≡ round_away x)
  tie_signed n h =
      let t : Tie x = record { finite = (ordinary x s).0; n = n; half_way = h } in
      (t, ap (λ (g : Bool). round binary64 g (suc n) 1) sign_is ∙ sym (tie_is_rounded x f t))

  pub whole_is_nearest : 1075 ≤ field_of (bits_of x) → Nearest x × (x ≡ round_away x)
  whole_is_nearest h =
      let n = digits_of (bits_of x) * 2 ^ (field_of (bits_of x) - 1075) in
      let e : units_of x ≡ n * 2 ^ 1074 =
      ap units_of (sym (own x f)) ∙ whole_pattern (bits_of x) h below_infinity in
      let w = whole_within (2 ^ 1074) (units_of x) n (pow_pos 1074) e in
      (near n w, sym (whole_is_its_own x n f (ordinary x s).0 e))

  parted_own : field_of (bits_of x) < 1075 → Parted x (parts_of (bits_of x))
  parted_own h =
      let b = bits_of x in
      let k : Halved (units_of x) (parts_of b) =
      subst (λ (y : Float). Halved (units_of y) (parts_of b)) (own x f) (halved_pattern b h) in
      record {
        low = λ l. nearest_signed (parts_of b).whole (k.low l);
        high = λ l. nearest_signed (suc (parts_of b).whole) (k.high l);
        half = λ l. tie_signed (parts_of b).whole (k.half l);
        few_whole = lt_of_le_of_lt (div-le_self (digits_of b) (one_of b)) few;
        few_rest = lt_of_le_of_lt (mod-le (digits_of b) (one_of b)) few;
      }
    where
      few : digits_of (bits_of x) < 2 ^ 53
      few = omega arith

  pub parted : field_of (bits_of x) < 1075 → (p : Parts) → p ≡ parts_of (bits_of x) → Parted x p
  parted h p e = subst (Parted x) (sym e) (parted_own h)
