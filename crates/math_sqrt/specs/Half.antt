-- A float of m * 2 ^ k units is nearest to the root of x, where n at the scale 2 ^ k is 4 x and m is half of n's root,
-- rounded.
use Rattle.std.specs.Prelude.{ℕ, suc, ◌+◌, ◌*◌, ◌-◌, ◌≤◌, ◌<◌, ◌^◌, ◌≡◌, Bool, false, T, Float}
use Rattle.std.proofs.Common.{sym, subst, ⊎_elim, arith, eq-or-lt_of_le, pow_pos}
use Rattle.std.specs.Float.{nan, inf, fin, binary64}
use Rattle.std.specs.Float.Ieee.{fits}
use Rattle.std.specs.Float.Ieee.Exact.{HasValue}
use Rattle.definitions.specs.Real.{units_of, is_finite, negative, NearestRoot}
use Rattle.math_sqrt.specs.Root.{mid_above, mid_below, end_below}
use Rattle.math_sqrt.specs.Value.{units_of_value, Digits, digits_of, next_up, next_down}

finite_of : (x : Float) (s : Bool) (a c : ℕ) → HasValue x s a c → T (is_finite x)
finite_of nan s a c h = absurd h
finite_of (inf t) s a c h = absurd h
finite_of (fin t m e) s a c h = tt

pub sign_of : (x : Float) (s : Bool) (a c : ℕ) → HasValue x s a c → negative x ≡ s
sign_of nan s a c h = absurd h
sign_of (inf t) s a c h = absurd h
sign_of (fin t m e) s a c h = h.0

-- what is asked of n and m
pub record Half (n m : ℕ) : Type 0 where
  pub large : 2 ^ 106 ≤ n
  pub first : 2 ^ 52 ≤ m
  pub high : n < (2 * m + 1) * (2 * m + 1)
  pub low : (j : ℕ) → m ≡ suc j → (2 * j + 1) * (2 * j + 1) < n

module _ (n m k : ℕ) (h : Half n m) where
  above_half : (u : ℕ) → Digits u → m * 2 ^ k < u → n * (2 ^ k * 2 ^ k) < (m * 2 ^ k + u) ^ 2
  above_half u d l = mid_above n m (2 ^ k) u (pow_pos k) h.high (next_up u m k d h.first l)

  below_half : (u : ℕ) → Digits u → u < m * 2 ^ k → (m * 2 ^ k + u) ^ 2 < n * (2 ^ k * 2 ^ k)
  below_half u d l = ⊎_elim at_end_lem inside (eq-or-lt_of_le h.first)
    where
      at_end_lem : 2 ^ 52 ≡ m → (m * 2 ^ k + u) ^ 2 < n * (2 ^ k * 2 ^ k)
      at_end_lem e = end_below n m (2 ^ k) u (subst (λ (a : ℕ). 2 * a * (2 * a) ≤ n) e h.large) l

      inside : 2 ^ 52 < m → (m * 2 ^ k + u) ^ 2 < n * (2 ^ k * 2 ^ k)
      inside g =
          let e : suc (m - 1) ≡ m = omega arith in
          let d' : u ≤ (m - 1) * 2 ^ k = next_down u (m - 1) k d (omega arith) (subst (λ (a : ℕ). u < a * 2 ^ k) (sym e) l) in
          subst (λ (a : ℕ). (a * 2 ^ k + u) ^ 2 < n * (2 ^ k * 2 ^ k)) e (mid_below n (m - 1) (2 ^ k) u (pow_pos k) (h.low (m - 1) (sym e)) d')

  pub nearest_half : (x r : Float) → T (fits binary64 r) → HasValue r false (m * 2 ^ k) (2 ^ 1074) → 4 * (units_of x * 2 ^ 1074) ≡ n * (2 ^ k * 2 ^ k) → NearestRoot x r
  nearest_half x r f v e =
      let s = units_of_value r false (m * 2 ^ k) v in
      record {
        fit = f;
        finite = finite_of r false (m * 2 ^ k) (2 ^ 1074) v;
        sign = sign_of r false (m * 2 ^ k) (2 ^ 1074) v;
        above = λ y g i l. rw (e, s) (above_half (units_of y) (digits_of y g i) (subst (λ (a : ℕ). a < units_of y) s l));
        below = λ y g i l. rw (e, s) (below_half (units_of y) (digits_of y g i) (subst (λ (a : ℕ). units_of y < a) s l));
      }
