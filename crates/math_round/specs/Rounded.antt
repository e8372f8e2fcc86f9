-- What a float of each case is rounded to.
use Rattle.std.specs.Prelude.{ℕ, suc, ◌+◌, ◌*◌, ◌/◌, ◌^◌, ◌≤◌, ◌<◌, ◌≡◌, refl, T, Float}
use Rattle.std.proofs.Common.{ap, ◌∙◌, subst, inl, inr, arith, le_of_suc-le-suc, le_antisymm, le_of_lt, le-div_iff_mul-le, div-lt_iff_lt-mul, pow_pos}
use Rattle.std.specs.Float.{nan, inf, fin, binary64}
use Rattle.std.specs.Float.Ieee.{up, down, round, fits}
use Rattle.std.specs.Float.Ieee.Exact.{HasValue}
use Rattle.definitions.specs.Real.{units_of, is_finite, negative, round_away, IsRound}
use Rattle.laws.specs.Floats.{fit_of, divides}
use Rattle.math_round.specs.Value.{round_away_by_value}
use Rattle.math_round.specs.Nearest.{units_are, round_is_nearest, round_unique}
use Rattle.math_round.specs.Cases.{Special, Nearest, Tie, HalfWay}

-- a finite float's value in units
own_units : (x : Float) → T (fits binary64 x) → T (is_finite x) → HasValue x (negative x) (units_of x) (2 ^ 1074)
own_units nan f t = absurd t
own_units (inf s) f t = absurd t
own_units (fin s m e) f t =
    let d = divides e (fit_of s m e f).fine in
    (refl, rw (units_are s m e d.q d.is) (ap (λ (y : ℕ). m * up e * y) d.is ∙ turn (m * up e) (down e) d.q))
  where
    turn : (M D Q : ℕ) → M * (D * Q) ≡ M * Q * D
    turn M D Q = omega arith

-- half a unit above is rounded up
settled_by :
    (x : Float) (n : ℕ) → T (fits binary64 x) → T (is_finite x) → 2 * (n * 2 ^ 1074) ≤ 2 * units_of x + 2 ^ 1074 →
    2 * units_of x < 2 * (n * 2 ^ 1074) + 2 ^ 1074 → round_away x ≡ round binary64 (negative x) n 1
settled_by x n f t a b =
    round_away_by_value x (negative x) (units_of x) (2 ^ 1074) (pow_pos 1074) (own_units x f t)
    ∙ ap (λ (k : ℕ). round binary64 (negative x) k 1) (cut (units_of x) (2 ^ 1074) (pow_pos 1074) a b)
  where
    cut : (X U : ℕ) → 0 < U → 2 * (n * U) ≤ 2 * X + U → 2 * X < 2 * (n * U) + U → (2 * X + U) / (2 * U) ≡ n
    cut X U p a b =
        let o : 0 < 2 * U = omega arith in
        le_antisymm
        (le_of_suc-le-suc ((div-lt_iff_lt-mul {k = 2 * U} {x = 2 * X + U} {y = suc n} o).1 (omega arith)))
        ((le-div_iff_mul-le {k = 2 * U} {x = n} {y = 2 * X + U} o).1 (omega arith))

-- a float that is a whole number
pub whole_is_its_own :
    (x : Float) (n : ℕ) → T (fits binary64 x) → T (is_finite x) → units_of x ≡ n * 2 ^ 1074 → round_away x ≡ x
unfolding IsRound
whole_is_its_own nan n f t e = absurd t
whole_is_its_own (inf s) n f t e = absurd t
whole_is_its_own (fin s m e) n f t h =
    round_unique (fin s m e) (round_away (fin s m e)) (fin s m e) (round_is_nearest (fin s m e) f)
    (record {
      fit = f;
      finite = tt;
      sign = refl;
      whole = (n, h);
      above = at (units_of (fin s m e)) (2 ^ 1074);
      below = lt (units_of (fin s m e)) (2 ^ 1074) (pow_pos 1074);
    })
  where
    at : (X U : ℕ) → 2 * X ≤ 2 * X + U
    at X U = omega arith

    lt : (X U : ℕ) → 0 < U → 2 * X < 2 * X + U
    lt X U p = omega arith

pub special_is_its_own : (x : Float) → T (fits binary64 x) → Special x → round_away x ≡ x
unfolding round_away
special_is_its_own nan f h = refl
special_is_its_own (inf s) f h = refl
special_is_its_own (fin s m e) f (inl h) = absurd (subst T h tt)
special_is_its_own (fin s m e) f (inr h) = whole_is_its_own (fin s m e) 0 f tt h

-- to it, with the sign of x
pub nearest_is_rounded :
    (x : Float) → T (fits binary64 x) → (h : Nearest x) → round_away x ≡ round binary64 (negative x) h.n 1
nearest_is_rounded x f h = settled_by x h.n f h.finite (le_of_lt h.near.above) h.near.below

-- to the one away from zero, with the sign of x
pub tie_is_rounded :
    (x : Float) → T (fits binary64 x) → (h : Tie x) → round_away x ≡ round binary64 (negative x) (suc h.n) 1
tie_is_rounded x f h =
    let w = at (2 ^ 1074) (units_of x) h.n (pow_pos 1074) h.half_way in
    settled_by x (suc h.n) f h.finite w.0 w.1
  where
    at : (U X n : ℕ) → 0 < U → HalfWay U X n → (2 * (suc n * U) ≤ 2 * X + U) × (2 * X < 2 * (suc n * U) + U)
    at U X n p e = (omega (arith, e), omega (arith, e))
