-- The root grows with its argument, so what is no less than a bound has a root that is no less than the bound's.
use Rattle.std.specs.Prelude.{ℕ, zero, suc, ◌+◌, ◌*◌, ◌≤◌, ◌<◌, ◌^◌, ◌≡◌, refl, Bool, true, false, T, ℤ, pos, Float}
use Rattle.std.proofs.Common.{sym, ◌∙◌, subst, arith, add_comm, lt_irrefl, lt_trans, lt_of_le_of_lt, le_of_mul-le-mul_right, mul-le-mul_left, mul-le-mul_right, eq-eqb, lt→ltb, pow_pos}
use Rattle.std.proofs.lemmas.Bool.{false≢true}
use Rattle.std.specs.Float.{nan, inf, fin, binary64}
use Rattle.std.specs.Float.Ieee.{up, down, lt, le, fits, of_bits}
use Rattle.std.specs.Float.Ieee.Bits.{is_true}
use Rattle.std.specs.Float.Ieee.Exact.{HasValue}
use Rattle.std.specs.Float.Ieee.Order.{le_of_values}
use Rattle.std.specs.Float.Ieee.Positive.{values_of_le}
use Rattle.definitions.specs.Real.{zero_f, units_of, is_finite, negative, NearestRoot, IsSqrt, sqrt}
use Rattle.math_sqrt.specs.Half.{sign_of}
use Rattle.math_sqrt.specs.Nearest.{sqrt_is_nearest}
use Rattle.math_sqrt.specs.Value.{units_of_value, own_value}
use Rattle.math_sqrt.specs.Order.{le_lt_trans, not_below_itself, nan_not_above, zero-le, finite_le, zero_not_le, positive_not_le}

-- ---- the root of a float above 0

-- the value of what is finite and not negative, in units
value_units : (x : Float) → T (fits binary64 x) → T (is_finite x) → negative x ≡ false → HasValue x false (units_of x) (2 ^ 1074)
value_units x f g n = at _ _ (own_value x f g)
  where
    at : (s : Bool) (a : ℕ) → HasValue x s a (2 ^ 1074) → HasValue x false (units_of x) (2 ^ 1074)
    at s a v = subst (λ u. HasValue x false u (2 ^ 1074)) (sym (units_of_value x s a v)) (subst (λ b. HasValue x b a (2 ^ 1074)) (sym (sign_of x s a (2 ^ 1074) v) ∙ n) v)

nearest_units : (x y r s : Float) → NearestRoot x r → NearestRoot y s → units_of x ≤ units_of y → units_of r ≤ units_of s
nearest_units x y r s h k l = omega (arith, clash)
  where
    clash : units_of s < units_of r → ⊥
    clash g =
        lt_irrefl ((units_of r + units_of s) ^ 2)
        (lt_trans (h.below s k.fit k.finite g)
        (lt_of_le_of_lt (mul-le-mul_left 4 (mul-le-mul_right (2 ^ 1074) l)) (subst (λ (a : ℕ). 4 * (units_of y * 2 ^ 1074) < a ^ 2) (add_comm (units_of s) (units_of r)) (k.above r h.fit h.finite g))))

nearest_le : (x y r s : Float) → NearestRoot x r → NearestRoot y s → units_of x ≤ units_of y → le r s ≡ true
nearest_le x y r s h k l =
    is_true (le r s)
    (le_of_values r s (units_of r) (2 ^ 1074) (units_of s) (2 ^ 1074) (pow_pos 1074) (pow_pos 1074) (value_units r h.fit h.finite h.sign) (value_units s k.fit k.finite k.sign)
    (mul-le-mul_right (2 ^ 1074) (nearest_units x y r s h k l)))

-- ---- the root of any float

root_of : (m : ℕ) (e : ℤ) → T (fits binary64 (fin false (suc m) e)) → NearestRoot (fin false (suc m) e) (sqrt (fin false (suc m) e))
unfolding IsSqrt
root_of m e f = sqrt_is_nearest (fin false (suc m) e) f

positive_le : (m n : ℕ) (e d : ℤ) → T (fits binary64 (fin false (suc m) e)) → T (fits binary64 (fin false (suc n) d)) → le (fin false (suc m) e) (fin false (suc n) d) ≡ true
    → le (sqrt (fin false (suc m) e)) (sqrt (fin false (suc n) d)) ≡ true
positive_le m n e d f g k =
    let x = fin false (suc m) e in
    let y = fin false (suc n) d in
    nearest_le x y (sqrt x) (sqrt y) (root_of m e f) (root_of n d g)
    (le_of_mul-le-mul_right
    (values_of_le x y (units_of x) (2 ^ 1074) (units_of y) (2 ^ 1074) (lt→ltb 0 (suc m) (omega arith)) (lt→ltb 0 (suc n) (omega arith)) (value_units x f tt refl) (value_units y g tt refl) (subst T (sym k) tt))
    (pow_pos 1074))

from_zero : (x y : Float) → T (fits binary64 x) → T (fits binary64 y) → le (fin false zero (pos 0)) x ≡ true → le x y ≡ true → le (sqrt x) (sqrt y) ≡ true
unfolding le sqrt
from_zero nan y f g h k = absurd (false≢true h)
from_zero (inf true) y f g h k = absurd (false≢true h)
from_zero (inf false) nan f g h k = absurd (false≢true k)
from_zero (inf false) (inf true) f g h k = absurd (false≢true k)
from_zero (inf false) (inf false) f g h k = refl
from_zero (inf false) (fin t n d) f g h k = absurd (false≢true k)
from_zero (fin s zero e) nan f g h k = absurd (false≢true k)
from_zero (fin s zero e) (inf true) f g h k = absurd (false≢true k)
from_zero (fin s zero e) (inf false) f g h k = refl
from_zero (fin s zero e) (fin t zero d) f g h k = k
from_zero (fin s zero e) (fin false (suc n) d) f g h k = zero-le s e (sqrt (fin false (suc n) d)) (root_of n d g).finite (root_of n d g).sign
from_zero (fin s zero e) (fin true (suc n) d) f g h k = absurd (zero_not_le s n e d k)
from_zero (fin true (suc m) e) y f g h k = absurd (zero_not_le false m (pos 0) e h)
from_zero (fin false (suc m) e) nan f g h k = absurd (false≢true k)
from_zero (fin false (suc m) e) (inf true) f g h k = absurd (false≢true k)
from_zero (fin false (suc m) e) (inf false) f g h k = finite_le (sqrt (fin false (suc m) e)) (root_of m e f).finite
from_zero (fin false (suc m) e) (fin t zero d) f g h k = absurd (positive_not_le t m zero e d (λ z. refl) k)
from_zero (fin false (suc m) e) (fin true (suc n) d) f g h k = absurd (positive_not_le true m (suc n) e d (λ z. absurd (false≢true (sym z))) k)
from_zero (fin false (suc m) e) (fin false (suc n) d) f g h k = positive_le m n e d f g k

zero_is : zero_f ≡ fin false zero (pos 0)
unfolding of_bits
zero_is = refl

-- 0 ≤ x ≤ y, so the root of x is at most that of y
pub sqrt_monotone : (x y : Float) → T (fits binary64 x) → T (fits binary64 y) → le zero_f x ≡ true → le x y ≡ true → le (sqrt x) (sqrt y) ≡ true
sqrt_monotone x y f g h k = from_zero x y f g (subst (λ z. le z x ≡ true) zero_is h) k

-- ---- a bound: what is no less than b has a root that is no less than p

-- b is not negative: the root of -1 is a NaN, which is below no p, and that of 1/4 is below 1
pub root_not_below : (b s p : Float) → T (fits binary64 b) → T (fits binary64 s) → le zero_f b ≡ true → le b s ≡ true → lt (sqrt b) p ≡ false → lt (sqrt s) p ≡ false
root_not_below b s p f g z h k = by (lt (sqrt s) p) refl
  where
    by : (t : Bool) → lt (sqrt s) p ≡ t → t ≡ false
    by false e = refl
    by true e = sym (le_lt_trans (sqrt b) (sqrt s) p (sqrt_monotone b s f g z h) e) ∙ k

has_root : (b p : Float) → le p (sqrt b) ≡ true → le (fin false zero (pos 0)) b ≡ true
unfolding le sqrt
has_root nan p h = absurd (false≢true (sym (nan_not_above p) ∙ h))
has_root (inf true) p h = absurd (false≢true (sym (nan_not_above p) ∙ h))
has_root (inf false) p h = refl
has_root (fin false m e) p h = zero-le false (pos 0) (fin false m e) tt refl
has_root (fin true zero e) p h = rw (eq-eqb (0 * up (pos 0) * down e) (0 * up e * down (pos 0)) (omega arith), eq-eqb (0 * up (pos 0) * down e) 0 (omega arith))
has_root (fin true (suc m) e) p h = absurd (false≢true (sym (nan_not_above p) ∙ h))

-- the same of any b, where its root is at least p
pub root_not_below_at_least : (b s p : Float) → T (fits binary64 b) → T (fits binary64 s) → le p (sqrt b) ≡ true → le b s ≡ true → lt (sqrt s) p ≡ false
root_not_below_at_least b s p f g k h = root_not_below b s p f g (subst (λ z. le z b ≡ true) (sym zero_is) (has_root b p k)) h (by (lt (sqrt b) p) refl)
  where
    by : (t : Bool) → lt (sqrt b) p ≡ t → t ≡ false
    by false e = refl
    by true e = sym (le_lt_trans p (sqrt b) p k e) ∙ not_below_itself p
