-- The two readings of "nearest whole number, ties away from zero" agree: what `round_away` computes is nearest, and only
-- one float is.
use Rattle.std.specs.Prelude.{ℕ, suc, ◌+◌, ◌*◌, ◌/◌, ◌^◌, ◌≤◌, ◌<◌, ◌≡◌, refl, Bool, T, ℤ, pos, negsuc, Float}
use Rattle.std.proofs.Common.{sym, ap, ◌∙◌, subst, arith, mul-one, mul-le-mul_right, mul-lt-mul_of_pos_right, lt_of_mul-lt-mul_right, le_antisymm, le_of_suc-le-suc, mul-div_cancel, div-mul-le_self}
use Rattle.std.proofs.Math.Nat.{eq_of_mul-eq-mul_right, lt-div-mul-add}
use Rattle.std.specs.Float.{nan, inf, fin, binary64}
use Rattle.std.specs.Float.Ieee.{up, down, round, fits}
use Rattle.std.specs.Float.Ieee.Fits.{down_pos, round-fits}
use Rattle.std.specs.Float.Ieee.Exact.{HasValue}
use Rattle.std.specs.Float.Ieee.Back.{round_whole, whole_unique}
use Rattle.definitions.specs.Real.{units_of, is_finite, negative, IsRound, round_away}
use Rattle.laws.specs.Floats.{Fit, fit_of, divides, whole_value}
use Rattle.math_round.specs.Value.{nearest_part, nearest_part_le}

-- ---- units of 2 ^ -1074

whole_quotient : (M D Q : ℕ) → 0 < D → M * (D * Q) / D ≡ M * Q
whole_quotient M D Q p = ap (λ y. y / D) (turn M D Q) ∙ mul-div_cancel (M * Q) p
  where
    turn : (M D Q : ℕ) → M * (D * Q) ≡ M * Q * D
    turn M D Q = omega arith

pub units_are : (s : Bool) (m : ℕ) (e : ℤ) (q : ℕ) → 2 ^ 1074 ≡ down e * q → units_of (fin s m e) ≡ m * up e * q
unfolding units_of
units_are s m e q h = ap (λ y. m * up e * y / down e) h ∙ whole_quotient (m * up e) (down e) q (down_pos e)

-- a whole value in units, and back
units_of_whole : (r : Float) (s : Bool) (n : ℕ) → HasValue r s n 1 → T (is_finite r) × (negative r ≡ s) × (units_of r ≡ n * 2 ^ 1074)
unfolding units_of
units_of_whole nan s n h = absurd h
units_of_whole (inf t) s n h = absurd h
units_of_whole (fin t m e) s n h = (tt, h.0, at (m * up e) (down e) (2 ^ 1074) (down_pos e) (sym (mul-one (m * up e)) ∙ h.1))
  where
    at : (M D U : ℕ) → 0 < D → M ≡ n * D → M * U / D ≡ n * U
    at M D U p e = ap (λ y. y * U / D) e ∙ ap (λ y. y / D) (turn n D U) ∙ mul-div_cancel (n * U) p
      where
        turn : (n D U : ℕ) → n * D * U ≡ n * U * D
        turn n D U = omega arith

whole_of_units : (r : Float) (n : ℕ) → T (fits binary64 r) → T (is_finite r) → units_of r ≡ n * 2 ^ 1074 → HasValue r (negative r) n 1
whole_of_units nan n f t h = absurd t
whole_of_units (inf s) n f t h = absurd t
whole_of_units (fin s m e) n f t h =
    let d = divides e (fit_of s m e f).fine in
    (refl, at (m * up e) (down e) d.q (2 ^ 1074) d.some d.is (sym (units_are s m e d.q d.is) ∙ h))
  where
    turn : (M D Q : ℕ) → M * Q ≡ n * (D * Q) → M * 1 * Q ≡ n * D * Q
    turn M D Q h = omega arith

    at : (M D Q U : ℕ) → 0 < Q → U ≡ D * Q → M * Q ≡ n * U → M * 1 ≡ n * D
    at M D Q U p u h = eq_of_mul-eq-mul_right Q p (M * 1) (n * D) (turn M D Q (h ∙ ap (λ y. n * y) u))

-- ---- the theorems
-- the cut magnitude and a half is the value of a float
rounded_value : (s : Bool) (m : ℕ) (e : ℤ) → Fit m e
    → HasValue (round binary64 s ((2 * (m * up e) + down e) / (2 * down e)) 1) s ((2 * (m * up e) + down e) / (2 * down e)) 1
rounded_value s m (pos k) f =
    let half : m * 2 ^ k ≡ (2 * (m * 2 ^ k) + 1) / (2 * 1) = omega arith in
    subst (λ n. HasValue (round binary64 s n 1) s n 1) half (whole_value s m k f.digits f.is_in_range)
rounded_value s m (negsuc k) f = round_whole binary64 s (nearest_part (m * 1) (suc k)) (nearest_part_le (m * 1) (suc k) (2 ^ 53) (omega (arith, f.digits)))

-- with a float's magnitude M / D in Q units to the 1 / D, and N for (M / D + 1 / 2), cut
near_above : (M D Q N U X R : ℕ) → U ≡ D * Q → X ≡ M * Q → R ≡ N * U → N * (2 * D) ≤ 2 * M + D → 2 * R ≤ 2 * X + U
near_above M D Q N U X R u x r h = rw (r, x, u) (omega (arith, mul-le-mul_right Q h))

near_below : (M D Q N U X R : ℕ) → 0 < Q → U ≡ D * Q → X ≡ M * Q → R ≡ N * U → 2 * M + D < N * (2 * D) + 2 * D → 2 * X < 2 * R + U
near_below M D Q N U X R p u x r h = rw (r, x, u) (omega (arith, mul-lt-mul_of_pos_right {k = Q} h p))

pub round_is_nearest : (x : Float) → T (fits binary64 x) → IsRound x (round_away x)
unfolding IsRound round_away
round_is_nearest nan f = refl
round_is_nearest (inf s) f = refl
round_is_nearest (fin s m e) f =
    let M = m * up e in
    let D = down e in
    let N = (2 * M + D) / (2 * D) in
    let r = round binary64 s N 1 in
    let d = divides e (fit_of s m e f).fine in
    let v = units_of_whole r s N (rounded_value s m e (fit_of s m e f)) in
    let x = units_are s m e d.q d.is in
    record {
      fit = round-fits binary64 s N 1;
      finite = v.0;
      sign = v.1;
      whole = (N, v.2);
      above = near_above M D d.q N (2 ^ 1074) (units_of (fin s m e)) (units_of r) d.is x v.2 (div-mul-le_self (2 * M + D) (2 * D));
      below =
          near_below M D d.q N (2 ^ 1074) (units_of (fin s m e)) (units_of r) d.some d.is x v.2
          (lt-div-mul-add {a = 2 * M + D} {b = 2 * D} (omega (arith, down_pos e)));
    }

-- of two whole numbers of units U, each within a half of X as `NearestWhole` says, the first is not the larger
not_above : (n k U X R S : ℕ) → R ≡ n * U → S ≡ k * U → 2 * R ≤ 2 * X + U → 2 * X < 2 * S + U → n ≤ k
not_above n k U X R S r s a b = le_of_suc-le-suc (lt_of_mul-lt-mul_right U {m = n} {n = suc k} (at n k U X (rw r at a) (rw s at b)))
  where
    at : (n k U X : ℕ) → 2 * (n * U) ≤ 2 * X + U → 2 * X < 2 * (k * U) + U → n * U < suc k * U
    at n k U X a b = omega arith

pub round_unique : (x r s : Float) → IsRound x r → IsRound x s → r ≡ s
unfolding IsRound
round_unique nan r s p q = p ∙ sym q
round_unique (inf t) r s p q = p ∙ sym q
round_unique (fin t m e) r s p q =
    let X = units_of (fin t m e) in
    let n = p.whole.0 in
    let k = q.whole.0 in
    let same : n ≡ k =
    le_antisymm
    (not_above n k (2 ^ 1074) X (units_of r) (units_of s) p.whole.1 q.whole.1 p.above q.below)
    (not_above k n (2 ^ 1074) X (units_of s) (units_of r) q.whole.1 p.whole.1 q.above p.below) in
    let v : HasValue r t n 1 = rw p.sign at (whole_of_units r n p.fit p.finite p.whole.1) in
    let w : HasValue s t k 1 = rw q.sign at (whole_of_units s k q.fit q.finite q.whole.1) in
    whole_unique binary64 r s t n p.fit q.fit v (rw (← same) at w)
