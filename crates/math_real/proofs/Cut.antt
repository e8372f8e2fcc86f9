-- The remainder of a float modulo 1 without the operation `%`: the float less its whole part, of its size and then with
-- its sign.
use Prim.Native.Nat.{ℕ, zero, suc, ◌+◌, ◌-◌, ◌*◌, ◌/◌, ◌%◌, ◌^◌, ◌≤◌, ◌<◌}
use mathlib.Core.Path.{◌≡◌, refl, sym, ap, ◌∙◌, subst}
use mathlib.Core.Bool.{Bool, true, false, cond}
use native.Mathlib.Nat.{mul-one, one-mul, add-mul, div-le_self, mul_assoc, mul_comm, mul_right_comm, mul-pos, div-add-mod', lt_of_lt_of_le, lt_of_le_of_lt, mul-lt-mul_of_pos_right}
use native.Mathlib.Omega.{arith}
use lib.Dec.{T, ltb, lit<, lit≤}
use lib.Pow.{pow-add, pow_pos}
use lib.IntN.{ℤ, pos, negsuc}
use lib.Ieee.{Float, nan, inf, fin, binary64, up, down, odd, units, round, neg, add, sub, sum, rem, lt, fits}
use lib.Ieee.Exact.{HasValue, round_exact}
use lib.Ieee.Fits.{down_pos}
use lib.Ieee.Scale.{round_same}
use borrow.Author.Tests.{le-ltb, ltb-false}
use Rattle.std.specs.Float.{trunc, round_with}
use Rattle.laws.specs.Floats.{Fit, fit_of}

-- ---- the whole part is a float, and not rounded

scaled : (p a b l : ℕ) → a < b → 0 < p → a * p < b * p
scaled p a b l h d = mul-lt-mul_of_pos_right h d

-- below 2 ^ 53 it is of as few digits as a float has, and from there on it is the float itself
whole_value : (m : ℕ) (e : ℤ) → Fit m e → HasValue (round binary64 false (m * up e / down e) 1) false (m * up e / down e) 1
whole_value m (pos k) f =
    let q : m * 2 ^ k / 1 ≡ m * 2 ^ k = omega arith in
    let j : 2 ^ (k + 1074) ≡ 2 ^ k * 2 ^ 1074 = pow-add 2 k 1074 in
    let below : m * 2 ^ k < 2 ^ 1024 = subst (λ n. m * 2 ^ k < n) (mul-one (2 ^ 1024)) f.is_in_range in
    rw q (round_exact binary64 false (m * 2 ^ k) 1 m (k + 1074) (lit< tt) f.digits
    (rw (j, ← mul_assoc m (2 ^ k) (2 ^ 1074)) (subst (λ n. m * 2 ^ k * 2 ^ 1074 < n) (sym (pow-add 2 1024 1074)) (mul-lt-mul_of_pos_right below (pow_pos 1074))))
    (rw (j, ← mul_assoc m (2 ^ k) (2 ^ 1074)) (sym (mul-one (m * 2 ^ k * 2 ^ 1074)))))
whole_value m (negsuc k) f =
    let q = m * 1 / 2 ^ suc k in
    let few : q < 2 ^ 53 = lt_of_le_of_lt (div-le_self (m * 1) (2 ^ suc k)) (subst (λ n. n < 2 ^ 53) (sym (mul-one m)) f.digits) in
    let wide : q < 2 ^ 1024 = lt_of_lt_of_le few (lit≤ tt) in
    round_exact binary64 false q 1 q 1074 (lit< tt) few
    (subst (λ n. q * 2 ^ 1074 < n) (sym (pow-add 2 1024 1074)) (mul-lt-mul_of_pos_right wide (pow_pos 1074)))
    (sym (mul-one (q * 2 ^ 1074)))

-- ---- a float less its whole part

parts : (a q r d e : ℕ) → q * d + r ≡ a → a * e ≡ q * e * d + r * e
parts a q r d e h =
    ap (λ x. x * e) (sym h) ∙ add-mul (q * d) r e ∙ ap (λ x. x + r * e) (mul_right_comm q d e)

cut_value :
    (m : ℕ) (e : ℤ) (t : Float) → HasValue t false (m * up e / down e) 1 →
    sub binary64 (fin false m e) t ≡ rem binary64 (fin false m e) (fin false 1 (pos 0))
unfolding sub add neg sum rem
cut_value m e nan h = absurd h
cut_value m e (inf s) h = absurd h
cut_value m e (fin true n d) h = let z : true ≡ false = h.0 in cc
cut_value m e (fin false n d) h =
    let a = m * up e in
    let q = a / down e in
    let r = a % down e in
    let b = n * up d * down e in
    let is : b ≡ q * down d * down e = ap (λ x. x * down e) (sym (mul-one (n * up d)) ∙ h.1) in
    let all : a * down d ≡ q * down d * down e + r * down d = parts a q r (down e) (down d) (div-add-mod' a (down e)) in
    let le : b ≤ a * down d = omega arith in
    let left : a * down d - b ≡ r * down d = omega arith in
    rw (le-ltb (a * down d) b le)
    (round_same binary64 false (a * down d - b) (down e * down d) (a * 1 % (1 * 1 * down e)) (down e * 1)
    (mul-pos (down_pos e) (down_pos d)) (mul-pos (down_pos e) (lit< tt))
    (rw (left, mul-one (down e), mul-one a, one-mul (down e)) (mul_assoc r (down d) (down e) ∙ ap (λ x. r * x) (mul_comm (down d) (down e)))))

pub rem_by_whole :
    (m : ℕ) (e : ℤ) → T (fits binary64 (fin false m e)) →
    sub binary64 (fin false m e) (trunc binary64 (fin false m e)) ≡ rem binary64 (fin false m e) (fin false 1 (pos 0))
unfolding round_with
rem_by_whole m e f = cut_value m e _ (whole_value m e (fit_of false m e f))

-- ---- the sign of what is rounded

neg-odd : (d q k l : ℕ) → neg (odd d false q k l) ≡ odd d true q k l
unfolding neg odd
neg-odd d zero k l = refl
neg-odd d (suc q) k l = refl

neg-units : (q k : ℕ) → neg (units binary64 false q k) ≡ units binary64 true q k
unfolding neg units
neg-units q k = by (ltb (q * 2 ^ k) (2 ^ 2098))
  where
    by : (b : Bool) → neg (cond b (odd 54 false q k 1074) (inf false)) ≡ cond b (odd 54 true q k 1074) (inf true)
    by true = neg-odd 54 q k 1074
    by false = refl

neg-round : (n d : ℕ) → neg (round binary64 false n d) ≡ round binary64 true n d
unfolding round
neg-round n d = neg-units _ _

rem_below :
    (m : ℕ) (e : ℤ) → neg (rem binary64 (fin false m e) (fin false 1 (pos 0))) ≡ rem binary64 (fin true m e) (fin false 1 (pos 0))
unfolding rem neg
rem_below m e = neg-round (m * up e * 1 % (1 * 1 * down e)) (down e * 1)

-- ---- the two ends of `modulo_one`

-- from 1 on, and of no number
pub above :
    (x : Float) → T (fits binary64 x) → lt x (fin false 1 (pos 0)) ≡ false →
    sub binary64 x (trunc binary64 x) ≡ rem binary64 x (fin false 1 (pos 0))
unfolding sub add neg rem lt round_with
above nan f b = refl
above (inf true) f b = refl
above (inf false) f b = refl
above (fin true m e) f b =
    let none : m * up e * 1 + 1 * 1 * down e ≤ 0 = ltb-false 0 (m * up e * 1 + 1 * 1 * down e) b in
    let some : 0 < down e = down_pos e in
    absurd (omega arith)
above (fin false m e) f b = rem_by_whole m e f

-- up to -1, with the sign turned twice
pub below :
    (x : Float) → T (fits binary64 x) → lt x (fin false 1 (pos 0)) ≡ true → lt (fin true 1 (pos 0)) x ≡ false →
    neg (sub binary64 (neg x) (trunc binary64 (neg x))) ≡ rem binary64 x (fin false 1 (pos 0))
unfolding sub add neg rem lt round_with fits
below nan f a b = refl
below (inf true) f a b = refl
below (inf false) f a b = refl
below (fin true m e) f a b = ap neg (rem_by_whole m e f) ∙ rem_below m e
below (fin false m e) f a b =
    let none : 1 * 1 * down e + m * up e * 1 ≤ 0 = ltb-false 0 (1 * 1 * down e + m * up e * 1) b in
    let some : 0 < down e = down_pos e in
    absurd (omega arith)
