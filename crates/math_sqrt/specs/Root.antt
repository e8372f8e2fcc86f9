-- The whole root of a number, cut, and the nearest whole number to half of it.
use Rattle.std.specs.Prelude.{ℕ, zero, suc, ◌+◌, ◌*◌, ◌-◌, ◌≤◌, ◌<◌, ◌^◌, ◌/◌, ◌%◌, ◌≡◌, refl, Bool, true, false, cond, leb}
use Rattle.std.proofs.Common.{ap, ◌∙◌, arith, lt_of_not-le, div-add-mod', mod-lt, mul-le-mul, mul-le-mul_right, mul-lt-mul_of_pos_right, mul-pos, mul_left_comm, one-mul, pow-suc, add-one, leb-true, leb-false, pow_mono}
use Rattle.std.proofs.Math.Nat.{pow-zero, pow-succ'}
use Rattle.definitions.specs.Real.{root_cut}

-- q is the root of n, cut, and r what is left
pub record IsRoot (n q r : ℕ) : Type 0 where
  pub whole : q * q + r ≡ n
  pub least : r ≤ 2 * q

-- the same without what is left
pub record Cut (n q : ℕ) : Type 0 where
  pub low : q * q ≤ n
  pub high : n < (q + 1) * (q + 1)

pub cut_of_root : {n q r : ℕ} → IsRoot n q r → Cut n q
cut_of_root h = record { low = omega (arith, h.whole); high = omega (arith, h.whole, h.least) }

-- there is one root
not_below : (n p q : ℕ) → Cut n p → Cut n q → p < q → ⊥
not_below n p q h k l =
    let g : (p + 1) * (p + 1) ≤ q * q = mul-le-mul (omega arith) (omega arith) in
    omega (arith, h.high, k.low)

pub cut_unique : (n p q : ℕ) → Cut n p → Cut n q → p ≡ q
cut_unique n p q h k =
    let a = not_below n p q h k in
    let b = not_below n q p k h in
    omega (arith, a, b)

-- ---- `root_cut` gives it, for a number of at most d pairs of digits

step_cut : (n q : ℕ) → Cut (n / 4) q → (b : Bool) → leb ((2 * q + 1) * (2 * q + 1)) n ≡ b → Cut n (cond b (2 * q + 1) (2 * q))
step_cut n q h true e = record { low = leb-true _ _ e; high = omega (arith, h.high) }
step_cut n q h false e = record { low = omega (arith, h.low); high = leb-false _ _ e }

pub root-cut : (d n : ℕ) → n < 4 ^ d → Cut n (root_cut d n)
unfolding root_cut
root-cut zero n h = record { low = omega arith; high = omega arith }
root-cut (suc d) n h = step_cut n (root_cut d (n / 4)) (root-cut d (n / 4) (omega (arith, pow-succ' 4 d))) _ refl

pub root-cut_is : (d n q r : ℕ) → n < 4 ^ d → IsRoot n q r → q ≡ root_cut d n
root-cut_is d n q r h k = cut_unique n q (root_cut d n) (cut_of_root k) (root-cut d n h)

-- ---- half of the root, rounded: m for the root q of n is (q + 1) / 2. It is nearest to half the root of n, and an
-- even n leaves no tie.

pub half_high : (n q : ℕ) → Cut n q → n < (2 * ((q + 1) / 2) + 1) * (2 * ((q + 1) / 2) + 1)
half_high n q h =
    let g : (q + 1) * (q + 1) ≤ (2 * ((q + 1) / 2) + 1) * (2 * ((q + 1) / 2) + 1) = mul-le-mul (omega arith) (omega arith) in
    omega (arith, h.high)

pub half_low : (n q m : ℕ) → n % 2 ≡ 0 → Cut n q → (q + 1) / 2 ≡ suc m → (2 * m + 1) * (2 * m + 1) < n
half_low n q m e h k =
    let g : (2 * m + 1) * (2 * m + 1) ≤ q * q = mul-le-mul (omega arith) (omega arith) in
    omega (arith, h.low)

-- ---- the same at any scale p

square : (a : ℕ) → a ^ 2 ≡ a * a
square a = pow-suc a 1 ∙ ap (λ (x : ℕ). x * a) (pow-suc a 0 ∙ ap (λ (x : ℕ). x * a) (pow-zero a) ∙ one-mul a)

square_lt : (a b : ℕ) → a < b → a * a < b * b
square_lt a b h =
    let g : (a + 1) * (a + 1) ≤ b * b = mul-le-mul (omega arith) (omega arith) in
    omega arith

pub mid_above : (n m p u : ℕ) → 0 < p → n < (2 * m + 1) * (2 * m + 1) → (m + 1) * p ≤ u → n * (p * p) < (m * p + u) ^ 2
mid_above n m p u h k l =
    let g : (2 * m + 1) * p * ((2 * m + 1) * p) ≤ (m * p + u) * (m * p + u) = mul-le-mul (omega arith) (omega arith) in
    let i : n * (p * p) < (2 * m + 1) * (2 * m + 1) * (p * p) = mul-lt-mul_of_pos_right k (mul-pos h h) in
    omega (arith, square (m * p + u))

pub mid_below : (n m p u : ℕ) → 0 < p → (2 * m + 1) * (2 * m + 1) < n → u ≤ m * p → (suc m * p + u) ^ 2 < n * (p * p)
mid_below n m p u h k l =
    let g : (suc m * p + u) * (suc m * p + u) ≤ (2 * m + 1) * p * ((2 * m + 1) * p) = mul-le-mul (omega arith) (omega arith) in
    let i : (2 * m + 1) * (2 * m + 1) * (p * p) < n * (p * p) = mul-lt-mul_of_pos_right k (mul-pos h h) in
    omega (arith, square (suc m * p + u))

-- where n is no less than the square of 2 m, as where m is a power of two, nothing below m is as near
pub end_below : (n m p u : ℕ) → 2 * m * (2 * m) ≤ n → u < m * p → (m * p + u) ^ 2 < n * (p * p)
end_below n m p u k l =
    let g : (m * p + u) * (m * p + u) < 2 * (m * p) * (2 * (m * p)) = square_lt (m * p + u) (2 * (m * p)) (omega arith) in
    let i : 2 * m * (2 * m) * (p * p) ≤ n * (p * p) = mul-le-mul_right (p * p) k in
    omega (arith, square (m * p + u))

-- ---- 54 digits of the root of w * 4 ^ 27, one at a time

-- After i of them: q and r are the root of the number's first i pairs of digits, and rest holds the pairs of w to come,
-- the next at 2 ^ 52.
pub record First (w i q r rest : ℕ) : Type 0 where
  pub few : i ≤ 54
  pub coming : rest < 2 ^ 54
  pub parts : (q * q + r) * 2 ^ 54 + rest ≡ w * 4 ^ i
  pub least : r ≤ 2 * q
  pub narrow : q + 1 ≤ 2 ^ i

pub first_none : (w : ℕ) → w < 2 ^ 54 → First w 0 0 0 w
first_none w h = record { few = omega arith; coming = h; parts = omega arith; least = omega arith; narrow = omega arith }

pub first_narrow : {w i q r rest : ℕ} → First w i q r rest → q < 2 ^ 54
first_narrow h = omega (arith, h.narrow, pow_mono h.few)

pub first_more : (w i q r rest q' r' : ℕ) → i < 54 → First w i q r rest → IsRoot (4 * (q * q + r) + rest / 2 ^ 52) q' r' → q' ≤ 2 * q + 1
    → First w (i + 1) q' r' (rest % 2 ^ 52 * 4)
first_more w i q r rest q' r' l h k n =
    let e : w * 4 ^ (i + 1) ≡ 4 * (w * 4 ^ i) = rw (add-one i, pow-succ' 4 i) (mul_left_comm w 4 (4 ^ i)) in
    let f : 2 ^ (i + 1) ≡ 2 * 2 ^ i = rw (add-one i) (pow-succ' 2 i) in
    record {
      few = omega arith;
      coming = omega (arith, h.coming);
      parts = omega (arith, h.parts, h.coming, k.whole);
      least = k.least;
      narrow = omega (arith, h.narrow);
    }

pub first_all : (w q r rest : ℕ) → w < 2 ^ 54 → First w 54 q r rest → q ≡ root_cut 54 (w * 4 ^ 27)
first_all w q r rest h k = root-cut_is 54 (w * 4 ^ 27) q r (omega arith) (record { whole = omega (arith, k.parts, k.coming); least = k.least })

-- ---- the same 54 digits from the first 27

-- s has 27 digits and r is left. The quotient d of one division, with u left, is the next 27, or one more.
module _ (s r : ℕ) (low : 2 ^ 26 ≤ s) (least : r ≤ 2 * s) where
  abbrev d : ℕ
  d = r * 2 ^ 26 / s

  abbrev u : ℕ
  u = r * 2 ^ 26 % s

  parts : d * s + u ≡ r * 2 ^ 26
  parts = div-add-mod' (r * 2 ^ 26) s

  pub second_left : u < s
  second_left = mod-lt (r * 2 ^ 26) (omega arith)

  pub second_few : d ≤ 2 ^ 27
  second_few =
      let h : d < 2 ^ 27 + 1 = lt_of_not-le (λ g. over g) in
      omega arith
    where
      over : 2 ^ 27 + 1 ≤ d → ⊥
      over g =
          let h : (2 ^ 27 + 1) * s ≤ d * s = mul-le-mul_right s g in
          omega (arith, parts)

  pub second_square : d * d ≤ 2 ^ 27 * d
  second_square = mul-le-mul_right d second_few

  pub second_kept : d * d ≤ u * 2 ^ 28 → Cut ((s * s + r) * 4 ^ 27) (s * 2 ^ 27 + d)
  second_kept h = record { low = omega (arith, parts); high = omega (arith, parts, second_left) }

  pub second_less : u * 2 ^ 28 < d * d → Cut ((s * s + r) * 4 ^ 27) (s * 2 ^ 27 + d - 1)
  second_less h = at (s * 2 ^ 27 + d - 1) (omega arith)
    where
      at : (q : ℕ) → q + 1 ≡ s * 2 ^ 27 + d → Cut ((s * s + r) * 4 ^ 27) q
      at q e =
          let f : (q + 1) * (q + 1) ≡ (s * 2 ^ 27 + d) * (s * 2 ^ 27 + d) = ap (λ (a : ℕ). a * a) e in
          record { low = omega (arith, parts, second_few, second_square); high = omega (arith, parts) }

-- what is cut of w * 4 ^ 27 is what `root_cut` gives
pub cut_is : (w q : ℕ) → w < 2 ^ 54 → Cut (w * 4 ^ 27) q → (q ≡ root_cut 54 (w * 4 ^ 27)) × (q < 2 ^ 54)
cut_is w q h k = (cut_unique (w * 4 ^ 27) q (root_cut 54 (w * 4 ^ 27)) k (root-cut 54 (w * 4 ^ 27) (omega arith)), lt_of_not-le (λ g. big g))
  where
    big : 2 ^ 54 ≤ q → ⊥
    big g = omega (arith, k.low, mul-le-mul g g)
