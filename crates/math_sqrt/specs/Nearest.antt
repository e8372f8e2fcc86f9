-- `sqrt` gives the square root as `IsSqrt` states it, of every float.
use Rattle.std.specs.Prelude.{ℕ, zero, suc, ◌+◌, ◌*◌, ◌-◌, ◌≤◌, ◌<◌, ◌^◌, ◌/◌, ◌%◌, ◌≡◌, refl, true, false, T, leb, Float}
use Rattle.std.proofs.Common.{sym, ap, ap₂, ◌∙◌, subst, ⊎_elim, arith, mul-one, mul_assoc, mul-le-mul, mul-le-mul_left, eq-or-lt_of_le, leb-false, lt→ltb, pow-add, pow_pos}
use Rattle.std.proofs.Math.Nat.{pow-succ'}
use Rattle.std.proofs.lemmas.Bool.{lt-leb}
use Rattle.std.specs.Float.{nan, inf, fin, binary64}
use Rattle.std.specs.Float.Ieee.{size, fits, of_bits, to_bits}
use Rattle.std.specs.Float.Ieee.Bits.{of_bits-fits}
use Rattle.std.specs.Float.Ieee.Exact.{HasValue}
use Rattle.std.specs.Float.Ieee.Positive.{positive, value_pos}
use Rattle.definitions.specs.Real.{units_of, is_finite, negative, NearestRoot, IsSqrt, root_cut, root_pattern, root_of_fields, sqrt}
use Rattle.math_sqrt.specs.Root.{Cut, root-cut, half_high, half_low}
use Rattle.math_sqrt.specs.Half.{sign_of, Half, nearest_half}
use Rattle.math_sqrt.specs.Shift.{bit_power, moved_lt, size_few, shifted_low, shifted_high}
use Rattle.math_sqrt.specs.Value.{units_at, field_of, bits_value, units_of_value, own_value, field_of_lem}

-- ---- the digits of the root

-- of a significand t the root has 54 digits, and their rounded half 53, or is 2 ^ 53
module _ (t r : ℕ) (low : 2 ^ 52 ≤ t) (high : t < 2 ^ 53) (bit : r < 2) where
  number_low : 2 ^ 106 ≤ t * 2 ^ r * 4 ^ 27
  number_low =
      let g : t * 1 ≤ t * 2 ^ r = mul-le-mul_left t (pow_pos r) in
      omega arith

  number_high : t * 2 ^ r * 4 ^ 27 < 4 ^ 54
  number_high = omega (arith, moved_lt t (2 ^ r) high (omega (arith, bit_power r bit)))

  even : t * 2 ^ r * 4 ^ 27 % 2 ≡ 0
  even = omega arith

  cut : Cut (t * 2 ^ r * 4 ^ 27) (root_cut 54 (t * 2 ^ r * 4 ^ 27))
  cut = root-cut 54 (t * 2 ^ r * 4 ^ 27) number_high

abbrev rounded : ℕ → ℕ
rounded n = (root_cut 54 n + 1) / 2

rounded_low : (n : ℕ) → 2 ^ 106 ≤ n → Cut n (root_cut 54 n) → 2 ^ 52 ≤ rounded n
rounded_low n h c = at (root_cut 54 n) (λ g. big (root_cut 54 n) c g)
  where
    big : (q : ℕ) → Cut n q → q + 1 ≤ 2 ^ 53 → ⊥
    big q c g = omega (arith, c.high, mul-le-mul g g)

    at : (q : ℕ) → (q + 1 ≤ 2 ^ 53 → ⊥) → 2 ^ 52 ≤ (q + 1) / 2
    at q k = omega (arith, k)

rounded_high : (n : ℕ) → n < 4 ^ 54 → Cut n (root_cut 54 n) → rounded n ≤ 2 ^ 53
rounded_high n h c = at (root_cut 54 n) (λ g. small (root_cut 54 n) c g)
  where
    small : (q : ℕ) → Cut n q → 2 ^ 54 ≤ q → ⊥
    small q c g = omega (arith, c.low, mul-le-mul g g)

    at : (q : ℕ) → (2 ^ 54 ≤ q → ⊥) → (q + 1) / 2 ≤ 2 ^ 53
    at q k = omega (arith, k)

half_of : (t r : ℕ) → 2 ^ 52 ≤ t → t < 2 ^ 53 → r < 2 → Half (t * 2 ^ r * 4 ^ 27) (rounded (t * 2 ^ r * 4 ^ 27))
half_of t r lo hi b =
    let n = t * 2 ^ r * 4 ^ 27 in
    let c = cut t r lo hi b in
    record {
      large = number_low t r lo hi b;
      first = rounded_low n (number_low t r lo hi b) c;
      high = half_high n (root_cut 54 n) c;
      low = λ j e. half_low n (root_cut 54 n) j (even t r lo hi b) c e;
    }

-- ---- the value of the pattern

pattern_value : (k m : ℕ) → k ≤ 2000 → 2 ^ 52 ≤ m → m ≤ 2 ^ 53 → HasValue (of_bits binary64 (k * 2 ^ 52 + m)) false (m * 2 ^ k) (2 ^ 1074)
unfolding units_at
pattern_value k m h l u =
    subst (λ s. HasValue (of_bits binary64 b) s (m * 2 ^ k) (2 ^ 1074)) (lt-leb (2 ^ 63) b (omega arith))
    (subst (λ n. HasValue (of_bits binary64 b) (leb (2 ^ 63) b) n (2 ^ 1074)) (⊎_elim top under (eq-or-lt_of_le u)) (bits_value b (omega arith)))
  where
    b : ℕ
    b = k * 2 ^ 52 + m

    top : m ≡ 2 ^ 53 → units_at (field_of b) (b % 2 ^ 52) ≡ m * 2 ^ k
    top e =
        let f : field_of b ≡ suc (suc k) = omega arith in
        let d : b % 2 ^ 52 ≡ 0 = omega arith in
        ap₂ units_at f d ∙ omega (arith, pow-succ' 2 k, ap (λ (x : ℕ). x * 2 ^ k) e)

    under : m < 2 ^ 53 → units_at (field_of b) (b % 2 ^ 52) ≡ m * 2 ^ k
    under e =
        let f : field_of b ≡ suc k = omega arith in
        let d : b % 2 ^ 52 ≡ m - 2 ^ 52 = omega arith in
        let g : 2 ^ 52 + (m - 2 ^ 52) ≡ m = omega arith in
        ap₂ units_at f d ∙ ap (λ (x : ℕ). x * 2 ^ k) g

-- ---- the pattern's float is the nearest

-- 4 t * 2 ^ y at the scale 2 ^ k
scaled : (t r k h y : ℕ) → h ≡ 26 + k → y ≡ r + (h + h) → 4 * (t * 2 ^ y) ≡ t * 2 ^ r * 4 ^ 27 * (2 ^ k * 2 ^ k)
scaled t r k h y e f =
    let a : 2 ^ h ≡ 2 ^ 26 * 2 ^ k = ap (λ (x : ℕ). 2 ^ x) e ∙ pow-add 2 26 k in
    let b : 2 ^ y ≡ 2 ^ r * (2 ^ h * 2 ^ h) = ap (λ (x : ℕ). 2 ^ x) f ∙ pow-add 2 r (h + h) ∙ ap (λ (x : ℕ). 2 ^ r * x) (pow-add 2 h h) in
    ap (λ (x : ℕ). 4 * (t * x)) (b ∙ ap (λ (x : ℕ). 2 ^ r * (x * x)) a) ∙ mulled (2 ^ r) (2 ^ k)
  where
    mulled : (a p : ℕ) → 4 * (t * (a * (2 ^ 26 * p * (2 ^ 26 * p)))) ≡ t * a * 4 ^ 27 * (p * p)
    mulled a p = omega arith

pub nearest_pattern : (x : Float) (t y : ℕ) → 2 ^ 52 ≤ t → t < 2 ^ 53 → 52 ≤ y → y ≤ 3200 → units_of x * 2 ^ 1074 ≡ t * 2 ^ y → NearestRoot x (of_bits binary64 (root_pattern t y))
unfolding root_pattern
nearest_pattern x t y lo hi yl yh e =
    let r = y % 2 in
    let k = y / 2 - 26 in
    let n = t * 2 ^ r * 4 ^ 27 in
    let b : r < 2 = omega arith in
    let h = half_of t r lo hi b in
    let few : k ≤ 2000 = omega arith in
    let two : y / 2 ≡ 26 + k = omega arith in
    let parts : y ≡ r + (y / 2 + y / 2) = omega arith in
    nearest_half n (rounded n) k h x (of_bits binary64 (k * 2 ^ 52 + rounded n)) (of_bits-fits binary64 (k * 2 ^ 52 + rounded n))
    (pattern_value k (rounded n) few h.first (rounded_high n (number_high t r lo hi b) (cut t r lo hi b)))
    (ap (λ (a : ℕ). 4 * a) e ∙ scaled t r k (y / 2) y two parts)

-- ---- by the fields of a pattern

-- 2 ^ l in two parts
apart : (t a s c l : ℕ) → s + c ≡ a + l → t * 2 ^ a * 2 ^ l ≡ t * 2 ^ s * 2 ^ c
apart t a s c l e = mul_assoc t (2 ^ a) (2 ^ l) ∙ ap (λ (x : ℕ). t * x) (sym (pow-add 2 a l) ∙ ap (λ (x : ℕ). 2 ^ x) (sym e) ∙ pow-add 2 s c) ∙ sym (mul_assoc t (2 ^ s) (2 ^ c))

pub nearest_fields : (v : Float) (x t : ℕ) → x < 2047 → t < 2 ^ 52 → 0 < units_at x t → units_of v ≡ units_at x t → NearestRoot v (of_bits binary64 (root_of_fields x t))
unfolding root_of_fields units_at
nearest_fields v zero t h l p e =
    let s = 53 - size t in
    let few = size_few t p l in
    let c : s + (1074 - s) ≡ 0 + 1074 = omega arith in
    nearest_pattern v (t * 2 ^ s) (1074 - s) (shifted_low t p l) (shifted_high t p l) (omega arith) (omega arith)
    (ap (λ (a : ℕ). a * 2 ^ 1074) (e ∙ sym (mul-one t)) ∙ apart t 0 s (1074 - s) 1074 c)
nearest_fields v (suc k) t h l p e =
    let c : 0 + (suc k + 1073) ≡ k + 1074 = omega arith in
    nearest_pattern v (2 ^ 52 + t) (suc k + 1073) (omega arith) (omega arith) (omega arith) (omega arith)
    (ap (λ (a : ℕ). a * 2 ^ 1074) e ∙ apart (2 ^ 52 + t) k 0 (suc k + 1073) 1074 c ∙ ap (λ (a : ℕ). a * 2 ^ (suc k + 1073)) (mul-one (2 ^ 52 + t)))

-- ---- the theorem

nearest_own : (x : Float) → T (fits binary64 x) → T (positive x) → NearestRoot x (of_bits binary64 (root_of_fields (to_bits binary64 x / 2 ^ 52) (to_bits binary64 x % 2 ^ 52)))
nearest_own x f p =
    let b = to_bits binary64 x in
    let v = own_value x f (finite_of_positive x p) in
    let g : negative x ≡ leb (2 ^ 63) b = sign_of x (leb (2 ^ 63) b) (units_at (field_of b) (b % 2 ^ 52)) (2 ^ 1074) v in
    let l : b < 2 ^ 63 = leb-false (2 ^ 63) b (sym g ∙ sign_of_positive x p) in
    let c : field_of b ≡ b / 2 ^ 52 = omega arith in
    let w : HasValue x false (units_at (b / 2 ^ 52) (b % 2 ^ 52)) (2 ^ 1074) =
    subst (λ s. HasValue x s (units_at (b / 2 ^ 52) (b % 2 ^ 52)) (2 ^ 1074)) (sym g ∙ sign_of_positive x p) (subst (λ k. HasValue x (leb (2 ^ 63) b) (units_at k (b % 2 ^ 52)) (2 ^ 1074)) c v) in
    nearest_fields x (b / 2 ^ 52) (b % 2 ^ 52) (omega (arith, field_of_lem x f (finite_of_positive x p))) (omega arith) (value_pos x _ (2 ^ 1074) p (pow_pos 1074) w) (units_of_value x false _ w)
  where
    finite_of_positive : (x : Float) → T (positive x) → T (is_finite x)
    finite_of_positive nan h = h
    finite_of_positive (inf s) h = h
    finite_of_positive (fin s m e) h = tt

    sign_of_positive : (x : Float) → T (positive x) → negative x ≡ false
    sign_of_positive nan h = absurd h
    sign_of_positive (inf s) h = absurd h
    sign_of_positive (fin true m e) h = absurd h
    sign_of_positive (fin false m e) h = refl

pub sqrt_is_nearest : (x : Float) → T (fits binary64 x) → IsSqrt x (sqrt x)
unfolding IsSqrt sqrt
sqrt_is_nearest nan f = refl
sqrt_is_nearest (inf false) f = refl
sqrt_is_nearest (inf true) f = refl
sqrt_is_nearest (fin s zero e) f = refl
sqrt_is_nearest (fin false (suc m) e) f = nearest_own (fin false (suc m) e) f (lt→ltb 0 (suc m) (omega arith))
sqrt_is_nearest (fin true (suc m) e) f = refl
