-- A significand moved up: by one place for an odd exponent, and a subnormal's until its first digit stands at 2 ^ 52.
use Rattle.std.specs.Prelude.{ℕ, zero, suc, ◌+◌, ◌*◌, ◌-◌, ◌≤◌, ◌<◌, ◌^◌, ◌%◌, ◌≡◌, refl}
use Rattle.std.proofs.Common.{sym, ap, ◌∙◌, subst, arith, le_trans, le_of_eq, lt_of_not-le, lt_of_lt_of_le, lt_of_le_of_lt, mul-le-mul_left, mul-le-mul_right, mod-eq_of_lt, lit≤, pow-add, pow_mono, shl_lt}
use Rattle.std.specs.Int.Count.{count_leading_zeros}
use Rattle.std.proofs.lemmas.Nat.{leading_top}
use Rattle.std.specs.Float.Ieee.{size}
use Rattle.std.specs.Float.Ieee.Digits.{size-lt, size-le, size_reaches}

pub bit_power : (r : ℕ) → r < 2 → 2 ^ r ≡ r + 1
bit_power zero h = refl
bit_power (suc zero) h = refl
bit_power (suc (suc r)) h = absurd (none r h)
  where
    none : (r : ℕ) → suc (suc r) < 2 → ⊥
    none r h = omega arith

-- moved up by one place, or left, it has 54 digits
pub moved_lt : (t a : ℕ) → t < 2 ^ 53 → a ≤ 2 → t * a < 2 ^ 54
moved_lt t a h b =
    let g : t * a ≤ t * 2 = mul-le-mul_left t b in
    omega arith

-- a number of fewer than 53 digits, moved up until it has 53
module _ (t : ℕ) (pos : 0 < t) (few : t < 2 ^ 52) where
  pub size_few : size t ≤ 52
  size_few = size-le t 52 few

  size_pos : 0 < size t
  size_pos = lt_of_not-le (λ g. none g)
    where
      none : size t ≤ 0 → ⊥
      none g = omega (arith, size-lt t, pow_mono g)

  pub shifted_low : 2 ^ 52 ≤ t * 2 ^ (53 - size t)
  shifted_low =
      let a : 2 ^ (size t - 1) ≤ t = size_reaches t (size t - 1) (omega (arith, size_pos)) in
      let b : size t - 1 + (53 - size t) ≡ 52 = omega (arith, size_pos, size_few) in
      le_trans (le_of_eq (ap (λ (x : ℕ). 2 ^ x) (sym b) ∙ pow-add 2 (size t - 1) (53 - size t))) (mul-le-mul_right (2 ^ (53 - size t)) a)

  pub shifted_high : t * 2 ^ (53 - size t) < 2 ^ 53
  shifted_high =
      let b : size t + (53 - size t) ≡ 53 = omega (arith, size_few) in
      subst (λ (x : ℕ). t * 2 ^ (53 - size t) < 2 ^ x) b (shl_lt (size t) (53 - size t) (size-lt t))

  -- moved by less it has no more digits, and none is lost
  pub shifted_few : (s : ℕ) → s ≤ 53 - size t → t * 2 ^ s % 2 ^ 64 < 2 ^ 53
  shifted_few s h =
      let a : t * 2 ^ s < 2 ^ 53 = lt_of_le_of_lt (mul-le-mul_left t (pow_mono h)) shifted_high in
      omega arith

  -- the zeros in front of it, of 64 places
  pub leading_size : count_leading_zeros 64 t + size t ≡ 64
  leading_size =
      let k = leading_top 64 t pos (lt_of_lt_of_le few (lit≤ tt)) in
      let above : (size t ≤ k.0 → ⊥) = λ g. let h : 2 ^ size t ≤ 2 ^ k.0 = pow_mono g in omega (arith, size-lt t, k.2) in
      omega (arith, size-le t (suc k.0) k.3, k.1)

  pub shifted_is : (s : ℕ) → s ≡ 53 - size t → t * 2 ^ s % 2 ^ 64 ≡ t * 2 ^ (53 - size t)
  shifted_is s e = ap (λ (a : ℕ). t * 2 ^ a % 2 ^ 64) e ∙ mod-eq_of_lt (lt_of_lt_of_le shifted_high (lit≤ tt))
