-- Each float is in just one of the cases, and is settled by just one step.
use Rattle.std.specs.Prelude.{ℕ, suc, ◌*◌, ◌/◌, ◌%◌, ◌^◌, ◌≤◌, ◌<◌, ◌≡◌, refl, ◌⊎◌, T, Float, Option, None, Some}
use Rattle.std.proofs.Common.{inl, inr, arith, lt_of_not-le, lit<, pow_pos}
use Rattle.std.proofs.Math.Decide.{dec_le}
use Rattle.std.specs.Float.{nan, inf, fin}
use Rattle.definitions.specs.Real.{units_of, is_finite}
use Rattle.math_round.specs.Cases.{Special, Nearest, Tie, StepOf, JustOne, special_not_nearest, above_zero, special_not_tie, not_both, rest_below, rest_above, rest-half, compared, IsSettled}

-- ---- just one

nearest_not_tie : (x : Float) → Nearest x → Tie x → ⊥
nearest_not_tie x h t = not_both (2 ^ 1074) (units_of x) h.n t.n h.near t.half_way

some_case : (x : Float) → T (is_finite x) → 0 < units_of x → Nearest x ⊎ Tie x
some_case x f o = by (compared (2 * (X % U)) U)
  where
    X : ℕ
    X = units_of x

    U : ℕ
    U = 2 ^ 1074

    one : (n : ℕ) → n ≡ n * 1
    one n = omega arith

    by : (2 * (X % U) < U) ⊎ ((U < 2 * (X % U)) ⊎ (2 * (X % U) ≡ U)) → Nearest x ⊎ Tie x
    by (inl h) =
        let w = rest_below X U 1 U X (pow_pos 1074) (lit< tt) (one X) (one U) h in
        inl (record { finite = f; not_zero = o; n = X / U; near = w })
    by (inr (inl h)) =
        let w = rest_above X U 1 U X (pow_pos 1074) (lit< tt) (one X) (one U) h in
        inl (record { finite = f; not_zero = o; n = suc (X / U); near = w })
    by (inr (inr h)) =
        let w = rest-half X U 1 U X (pow_pos 1074) (lit< tt) (one X) (one U) h in
        inr (record { finite = f; n = X / U; half_way = w })

some : (x : Float) → Special x ⊎ (Nearest x ⊎ Tie x)
some nan = inl (inl refl)
some (inf s) = inl (inl refl)
some (fin s m e) = by (dec_le 1 (units_of (fin s m e)))
  where
    by : Dec (1 ≤ units_of (fin s m e)) → Special (fin s m e) ⊎ (Nearest (fin s m e) ⊎ Tie (fin s m e))
    by (yes h) = inr (some_case (fin s m e) tt h)
    by (no n) = inl (inr (none (units_of (fin s m e)) (lt_of_not-le n)))
      where
        none : (X : ℕ) → X < 1 → X ≡ 0
        none X h = omega arith

-- each float, and so each f64, is in just one of the cases
pub just_one : (x : Float) → JustOne (Special x) (Nearest x) (Tie x)
just_one x =
    record {
      some = some x;
      not_first_second = special_not_nearest x;
      not_first_third = special_not_tie x;
      not_second_third = nearest_not_tie x;
    }

-- ---- settled by just one

by_its_case : (A : Type 0) (x : Float) (t : Option Float) → StepOf A x t → IsSettled t → A
by_its_case A x (Some r) h s = h.0
by_its_case A x None h s = absurd s

settles_its_case : (A : Type 0) (x : Float) (t : Option Float) → StepOf A x t → A → IsSettled t
settles_its_case A x (Some r) h a = tt
settles_its_case A x None h a = absurd (h a)

-- "each f64 that rounding takes is settled by just one of the three": of the steps' own contracts
pub settled_by_just_one :
    (x : Float) (a b c : Option Float) → StepOf (Special x) x a → StepOf (Nearest x) x b → StepOf (Tie x) x c →
    JustOne (IsSettled a) (IsSettled b) (IsSettled c)
settled_by_just_one x a b c p q r =
    record {
      some = by (just_one x).some;
      not_first_second = λ s t. (just_one x).not_first_second (of_a s) (of_b t);
      not_first_third = λ s t. (just_one x).not_first_third (of_a s) (of_c t);
      not_second_third = λ s t. (just_one x).not_second_third (of_b s) (of_c t);
    }
  where
    of_a : IsSettled a → Special x
    of_a = by_its_case (Special x) x a p

    of_b : IsSettled b → Nearest x
    of_b = by_its_case (Nearest x) x b q

    of_c : IsSettled c → Tie x
    of_c = by_its_case (Tie x) x c r

    by : Special x ⊎ (Nearest x ⊎ Tie x) → IsSettled a ⊎ (IsSettled b ⊎ IsSettled c)
    by (inl h) = inl (settles_its_case (Special x) x a p h)
    by (inr (inl h)) = inr (inl (settles_its_case (Nearest x) x b q h))
    by (inr (inr h)) = inr (inr (settles_its_case (Tie x) x c r h))

-- ---- for the code

-- no zero, and finite
pub ordinary : (x : Float) → (Special x → ⊥) → T (is_finite x) × (0 < units_of x)
ordinary x h = by (just_one x).some
  where
    by : Special x ⊎ (Nearest x ⊎ Tie x) → T (is_finite x) × (0 < units_of x)
    by (inl s) = absurd (h s)
    by (inr (inl c)) = (c.finite, c.not_zero)
    by (inr (inr c)) = (c.finite, above_zero (2 ^ 1074) (units_of x) c.n (pow_pos 1074) c.half_way)
