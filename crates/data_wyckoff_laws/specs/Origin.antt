-- The origin of a triplet is what IEEE 754 makes of its constants: OriginIsTheSum, WholeConstantsAreExact,
-- OriginIsRoundedOnce; and each constant is the nearest float.
use Rattle.std.specs.Prelude.{ℕ, zero, suc, ◌+◌, ◌-◌, ◌*◌, ◌/◌, ◌%◌, ◌^◌, ◌≤◌, ◌<◌, ◌≡◌, refl, Bool, true, false, ◌&&◌, ◌||◌, ◌⊎◌, T, leb, ltb, eqb, ℤ, pos, negsuc, neg_ℤ, nat_abs, Float}
use Rattle.std.proofs.Common.{sym, ◌∙◌, subst, inl, inr, le_of_suc-le-suc, not-suc-le-zero, le_of_lt, lt_of_not-le, not-le_of_lt, mul-one, mul_assoc, mul-le-mul_left, mul-le-mul_right, zero-mul, div-one, arith, lt-ltb, ltb-true, ltb-false, leb→le, ltb→lt, eqb→eq, lit<, pow_pos, pow-add, pow_mono}
use Rattle.std.proofs.Math.Path.{ap}
use Rattle.std.specs.Bool.{beq}
use Rattle.std.proofs.Math.Nat.{pow-succ', mul_right_comm, mul-div_cancel, zero-div}
use Rattle.std.proofs.Math.Pow.{pow-lt}
use Rattle.std.specs.Float.{nan, inf, fin, binary64}
use Rattle.std.specs.Float.Ieee.{up, down, size, fits, round, add, div, of_int, to_bits, of_bits}
use Rattle.std.specs.Float.Ieee.Fits.{down_pos, round-fits, div-fits}
use Rattle.std.specs.Float.Ieee.Exact.{HasValue}
use Rattle.std.specs.Float.Ieee.Back.{round_whole}
use Rattle.std.specs.Float.Ieee.Bits.{of_bits-to_bits}
use Rattle.definitions.specs.Lists.{all, up_from, up_to}
use Rattle.definitions.specs.Real.{real_of, units_of, is_finite, negative}
use Rattle.definitions.specs.Coordinates.{Item, Signed, item_of, is_item, is_constant, numerator, denominator, signed_by, add_constant, rounded, constant_value, WholeConstantsAreExact}
use Rattle.laws.specs.Lists.{all_mem, in_up_to}
use Rattle.laws.specs.Tests.{both_pass, and_right}

-- ---- a test of the constants, computed for ten numerators, nine denominators and two signs

abbrev pub exact_in : Item → ℕ
exact_in i = 2520 / denominator i * numerator i

-- the test is of a numerator a, of e, which is a / d in units of 1 / 2520, and of the denominator d
module _ (test : ℤ → ℤ → ℕ → Bool) where
  abbrev plus_test : ℕ → ℕ → Bool
  plus_test n d = test (pos n) (pos (2520 / d * n)) d

  abbrev minus_test : ℕ → ℕ → Bool
  minus_test n d = test (neg_ℤ (pos n)) (neg_ℤ (pos (2520 / d * n))) d

  abbrev over : ℕ → Bool
  over n = all (λ d. plus_test n (suc d) && minus_test n (suc d)) (up_to 9)

  abbrev pub every : Bool
  every = all over (up_to 10)

  of_fraction : T every → (n d : ℕ) → n < 10 → 0 < d → d < 10 → T (plus_test n d) × T (minus_test n d)
  of_fraction t n zero h p q = absurd (not-suc-le-zero p)
  of_fraction t n (suc d) h p q =
      both_pass (plus_test n (suc d)) (minus_test n (suc d))
      (all_mem (λ d. plus_test n (suc d) && minus_test n (suc d)) (up_to 9) d (all_mem over (up_to 10) n t (in_up_to 10 n h)) (in_up_to 9 d (le_of_suc-le-suc q)))

  -- a whole number is over 1, and an item with an axis is 0 over 1
  of_item : T every → (i : Item) → T (is_item i) → T (plus_test (numerator i) (denominator i)) × T (minus_test (numerator i) (denominator i))
  of_item t (Item.axis a) h = of_fraction t 0 1 (lit< tt) (lit< tt) (lit< tt)
  of_item t (Item.times n a) h = of_fraction t 0 1 (lit< tt) (lit< tt) (lit< tt)
  of_item t (Item.whole n) h = of_fraction t n 1 (ltb→lt n 10 h) (lit< tt) (lit< tt)
  of_item t (Item.fraction n d) h =
      let k = both_pass (ltb n 10) (ltb 0 d && ltb d 10) h in
      let l = both_pass (ltb 0 d) (ltb d 10) k.1 in
      of_fraction t n d (ltb→lt n 10 k.0) (ltb→lt 0 d l.0) (ltb→lt d 10 l.1)

  pub at : T every → (i : Signed) → T (is_item (item_of i)) → T (test (signed_by numerator i) (signed_by exact_in i) (denominator (item_of i)))
  at t (Signed.plus i) h = (of_item t i h).0
  at t (Signed.minus i) h = (of_item t i h).1

-- two floats are compared by their patterns
abbrev pub same : Float → Float → Bool
same v w = eqb (to_bits binary64 v) (to_bits binary64 w)

pub same_is : (v w : Float) → T (fits binary64 v) → T (fits binary64 w) → T (same v w) → v ≡ w
same_is v w f g h = sym (of_bits-to_bits binary64 v f) ∙ ap (of_bits binary64) (eqb→eq (to_bits binary64 v) (to_bits binary64 w) h) ∙ of_bits-to_bits binary64 w g

pub rounded_fits : (a : ℤ) (d : ℕ) → T (fits binary64 (rounded a d))
rounded_fits (pos n) d = round-fits binary64 false n d
rounded_fits (negsuc n) d = round-fits binary64 true (suc n) d

-- ---- one constant

-- the quotient is the fraction, rounded once
abbrev once : ℤ → ℤ → ℕ → Bool
once a e d = same (div binary64 (real_of a) (real_of (pos d))) (rounded a d)

each_once : T (every once)
unfolding all up_from div round of_int to_bits
each_once = tt

pub quotient_is_rounded_once : (i : Signed) → T (is_item (item_of i)) →
    div binary64 (real_of (signed_by numerator i)) (real_of (pos (denominator (item_of i)))) ≡ constant_value i
quotient_is_rounded_once i h = same_is _ _ (div-fits binary64 _ _) (rounded_fits (signed_by numerator i) (denominator (item_of i))) (at once each_once i h)

whole_is : (a : ℤ) → real_of a ≡ rounded a 1
unfolding of_int
whole_is (pos n) = refl
whole_is (negsuc n) = refl

-- What a constant adds to any sum is its exact signed fraction, rounded once.
pub constant_is_rounded_once : (i : Signed) → T (is_item (item_of i)) → T (is_constant (item_of i)) → (s : Float) → add_constant s i ≡ add binary64 s (constant_value i)
constant_is_rounded_once (Signed.plus (Item.axis a)) h c s = absurd c
constant_is_rounded_once (Signed.plus (Item.times n a)) h c s = absurd c
constant_is_rounded_once (Signed.plus (Item.whole n)) h c s = ap (add binary64 s) (whole_is (pos n))
constant_is_rounded_once (Signed.plus (Item.fraction n d)) h c s = ap (add binary64 s) (quotient_is_rounded_once (Signed.plus (Item.fraction n d)) h)
constant_is_rounded_once (Signed.minus (Item.axis a)) h c s = absurd c
constant_is_rounded_once (Signed.minus (Item.times n a)) h c s = absurd c
constant_is_rounded_once (Signed.minus (Item.whole n)) h c s = ap (add binary64 s) (whole_is (neg_ℤ (pos n)))
constant_is_rounded_once (Signed.minus (Item.fraction n d)) h c s = ap (add binary64 s) (quotient_is_rounded_once (Signed.minus (Item.fraction n d)) h)

whole_value : (s : Bool) (n : ℕ) → n < 10 → (units_of (round binary64 s n 1) ≡ n * 2 ^ 1074) × (negative (round binary64 s n 1) ≡ s)
whole_value s n h = by (round binary64 s n 1) (round_whole binary64 s n (omega arith))
  where
    by : (v : Float) → HasValue v s n 1 → (units_of v ≡ n * 2 ^ 1074) × (negative v ≡ s)
    by nan k = absurd k
    by (inf t) k = absurd k
    by (fin t m e) k = (
      unfold units_of in ap (λ a. a / down e) (ap (λ a. a * 2 ^ 1074) (sym (mul-one _) ∙ k.1) ∙ mul_right_comm n (down e) (2 ^ 1074)) ∙ mul-div_cancel (n * 2 ^ 1074) (down_pos e),
      k.0,
    )

pub whole_constants_are_exact : WholeConstantsAreExact
whole_constants_are_exact zero h = let k = whole_value false 0 h in (k.0, k.0, k.1, k.1)
whole_constants_are_exact (suc n) h =
    let k = whole_value false (suc n) h in
    let l = whole_value true (suc n) h in
    (k.0, l.0, k.1, l.1 ∙ sym (lt-ltb 0 (suc n) (omega arith)))

-- ---- no other float is as near to a constant's fraction

-- how far two numbers lie apart
abbrev pub apart : ℕ → ℕ → ℕ
apart a b = a - b + (b - a)

abbrev pub below0 : ℤ → Bool
below0 (pos n) = false
below0 (negsuc n) = true

-- r is the one float that is nearest to the fraction a / d: it has a's sign, a zero none, and every other magnitude
-- lies further from that of a / d.
-- Distances are d times as long, and in units of 2 ^ -1074.
pub record NearestFraction (a : ℤ) (d : ℕ) (r : Float) : Type 0 where
  pub fit : T (fits binary64 r)
  pub finite : T (is_finite r)
  pub sign : negative r ≡ below0 a
  pub nearest : (y : Float) → T (fits binary64 y) → T (is_finite y) → (units_of y ≡ units_of r → ⊥) →
      apart (d * units_of r) (nat_abs a * 2 ^ 1074) < apart (d * units_of y) (nat_abs a * 2 ^ 1074)

-- a float that is finite has at most 53 digits, at some place
record Digits (w : ℕ) : Type 0 where
  digits : ℕ
  place : ℕ
  few : digits < 2 ^ 53
  is : w ≡ digits * 2 ^ place

moved : (m i l : ℕ) → 2 ^ i ≤ 2 ^ l → m * 1 * 2 ^ l / 2 ^ i ≡ m * 2 ^ (l - i)
moved m i l h =
    let p : i ≤ l = le_of_suc-le-suc (lt_of_not-le (λ (g : l < i). not-le_of_lt (pow-lt g) h)) in
    let e : l ≡ l - i + i = omega arith in
    ap (λ a. a / 2 ^ i) (ap (λ a. a * 2 ^ l) (mul-one m) ∙ ap (λ a. m * 2 ^ a) e ∙ ap (λ a. m * a) (pow-add 2 (l - i) i) ∙ sym (mul_assoc m (2 ^ (l - i)) (2 ^ i)))
    ∙ mul-div_cancel (m * 2 ^ (l - i)) (pow_pos i)

digits_of : (y : Float) → T (fits binary64 y) → T (is_finite y) → Digits (units_of y)
unfolding fits units_of
digits_of nan f g = absurd g
digits_of (inf s) f g = absurd g
digits_of (fin s zero e) f g = record { digits = 0; place = 0; few = lit< tt; is = ap (λ a. a / down e) (ap (λ a. a * 2 ^ 1074) (zero-mul (up e)) ∙ zero-mul (2 ^ 1074)) ∙ zero-div (down e) }
digits_of (fin s (suc m) e) f g =
    let k = both_pass (eqb (suc m % 2) 1 && ltb (suc m) (2 ^ 53) && leb (down e) (2 ^ 1074)) (ltb (suc m * up e) (2 ^ 1024 * down e)) f in
    let l = both_pass (eqb (suc m % 2) 1 && ltb (suc m) (2 ^ 53)) (leb (down e) (2 ^ 1074)) k.0 in
    by e (leb→le (down e) (2 ^ 1074) l.1) (ltb→lt (suc m) (2 ^ 53) (and_right (eqb (suc m % 2) 1) (ltb (suc m) (2 ^ 53)) l.0))
  where
    by : (e : ℤ) → down e ≤ 2 ^ 1074 → suc m < 2 ^ 53 → Digits (suc m * up e * 2 ^ 1074 / down e)
    by (pos j) h few = record { digits = suc m; place = j + 1074; few = few; is = div-one _ ∙ mul_assoc (suc m) (2 ^ j) (2 ^ 1074) ∙ ap (λ a. suc m * a) (sym (pow-add 2 j 1074)) }
    by (negsuc j) h few = record { digits = suc m; place = 1074 - suc j; few = few; is = moved (suc m) (suc j) 1074 h }

-- w is u, or it lies no nearer than g
abbrev Beside : ℕ → ℕ → ℕ → Type 0
Beside w u g = (w ≡ u) ⊎ ((w + g ≤ u) ⊎ (u + g ≤ w))

multiples : (p q g : ℕ) → Beside (p * g) (q * g) g
multiples p q g = by (ltb p q) (ltb q p) refl refl
  where
    by : (y z : Bool) → ltb p q ≡ y → ltb q p ≡ z → Beside (p * g) (q * g) g
    by true z e f = let h : suc p * g ≤ q * g = mul-le-mul_right g (ltb-true p q e) in inr (inl (omega arith))
    by false true e f = let h : suc q * g ≤ p * g = mul-le-mul_right g (ltb-true q p f) in inr (inr (omega arith))
    by false false e f = let h : p ≡ q = omega (arith, ltb-false p q e, ltb-false q p f) in inl (ap (λ a. a * g) h)

wholes : (w u : ℕ) → Beside w u 1
wholes w u = subst (λ a. Beside w a 1) (mul-one u) (subst (λ a. Beside a (u * 1) 1) (mul-one w) (multiples w u 1))

-- no float lies nearer to (m + 1) * 2 ^ k than 2 ^ k, for an m from 2 ^ 52 on
floats : (w m k : ℕ) → Digits w → 2 ^ 52 ≤ m → Beside w (suc m * 2 ^ k) (2 ^ k)
floats w m k d h = by (ltb d.place k) refl
  where
    by : (z : Bool) → ltb d.place k ≡ z → Beside w (suc m * 2 ^ k) (2 ^ k)
    by true e =
        let f : 2 ^ suc d.place ≤ 2 ^ k = pow_mono (ltb-true d.place k e) in
        let g : d.digits * 2 ^ d.place ≤ 2 ^ 53 * 2 ^ d.place = mul-le-mul_right (2 ^ d.place) (le_of_lt d.few) in
        let l : 2 ^ 52 * 2 ^ k ≤ m * 2 ^ k = mul-le-mul_right (2 ^ k) h in
        inr (inl (omega (arith, d.is, pow-succ' 2 d.place)))
    by false e =
        let p : d.place ≡ d.place - k + k = omega (arith, ltb-false d.place k e) in
        let q = d.digits * 2 ^ (d.place - k) in
        subst (λ a. Beside a (suc m * 2 ^ k) (2 ^ k))
        (sym (d.is ∙ ap (λ a. d.digits * 2 ^ a) p ∙ ap (λ a. d.digits * a) (pow-add 2 (d.place - k) k) ∙ sym (mul_assoc d.digits (2 ^ (d.place - k)) (2 ^ k))))
        (multiples q (suc m) (2 ^ k))

-- u is within half of g of n / d, so no other w is
further : (d n u g w : ℕ) → 2 * apart (d * u) n < d * g → Beside w u g → (w ≡ u → ⊥) → apart (d * u) n < apart (d * w) n
further d n u g w h (inl e) o = absurd (o e)
further d n u g w h (inr (inl l)) o = let p : d * (w + g) ≤ d * u = mul-le-mul_left d l in omega arith
further d n u g w h (inr (inr l)) o = let p : d * (u + g) ≤ d * w = mul-le-mul_left d l in omega arith

-- u is within half a unit; or it is (m + 1) * 2 ^ k as above, within half of 2 ^ k
abbrev within : ℕ → ℕ → ℕ → ℕ → ℕ → Bool
within d n u k m = ltb (2 * apart (d * u) n) (d * 1) || (eqb u (suc m * 2 ^ k) && (leb (2 ^ 52) m && ltb (2 * apart (d * u) n) (d * 2 ^ k)))

within_further : (d n u k m w : ℕ) → T (within d n u k m) → Digits w → (w ≡ u → ⊥) → apart (d * u) n < apart (d * w) n
within_further d n u k m w t g = by (ltb (2 * apart (d * u) n) (d * 1)) refl t
  where
    by : (z : Bool) → ltb (2 * apart (d * u) n) (d * 1) ≡ z →
        T (z || (eqb u (suc m * 2 ^ k) && (leb (2 ^ 52) m && ltb (2 * apart (d * u) n) (d * 2 ^ k)))) →
        (w ≡ u → ⊥) → apart (d * u) n < apart (d * w) n
    by true e t = further d n u 1 w (ltb-true _ _ e) (wholes w u)
    by false e t =
        let p = both_pass (eqb u (suc m * 2 ^ k)) (leb (2 ^ 52) m && ltb (2 * apart (d * u) n) (d * 2 ^ k)) t in
        let q = both_pass (leb (2 ^ 52) m) (ltb (2 * apart (d * u) n) (d * 2 ^ k)) p.1 in
        further d n u (2 ^ k) w (ltb→lt _ _ q.1) (subst (λ a. Beside w a (2 ^ k)) (sym (eqb→eq u (suc m * 2 ^ k) p.0)) (floats w m k g (leb→le (2 ^ 52) m q.0)))

-- the fraction a / d, rounded once, is finite, has its sign, and is within: 2 ^ k is the place of the last of its 53
-- digits
abbrev within_of : ℤ → ℕ → ℕ → Bool
within_of a d u = within d (nat_abs a * 2 ^ 1074) u (size u - 53) (u / 2 ^ (size u - 53) - 1)

abbrev near : ℤ → ℤ → ℕ → Bool
near a e d = is_finite (rounded a d) && (beq (negative (rounded a d)) (below0 a) && within_of a d (units_of (rounded a d)))

each-near : T (every near)
unfolding all up_from round units_of size
each-near = tt

alike : (s t : Bool) → T (beq s t) → s ≡ t
alike true true h = refl
alike true false h = absurd h
alike false true h = absurd h
alike false false h = refl

pub constant_is_nearest : (i : Signed) → T (is_item (item_of i)) → NearestFraction (signed_by numerator i) (denominator (item_of i)) (constant_value i)
constant_is_nearest i h =
    let a = signed_by numerator i in
    let d = denominator (item_of i) in
    let r = constant_value i in
    let u = units_of r in
    let k = both_pass (is_finite r) (beq (negative r) (below0 a) && within_of a d u) (at near each-near i h) in
    let l = both_pass (beq (negative r) (below0 a)) (within_of a d u) k.1 in
    record {
      fit = rounded_fits a d;
      finite = k.0;
      sign = alike (negative r) (below0 a) l.0;
      nearest = λ y f g. within_further d (nat_abs a * 2 ^ 1074) u (size u - 53) (u / 2 ^ (size u - 53) - 1) (units_of y) l.1 (digits_of y f g);
    }
