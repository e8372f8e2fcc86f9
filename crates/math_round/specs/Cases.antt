-- The cases of rounding to a whole number, in the order of IEEE 754's text: special values, nearest, then the tie. That
-- each float is in just one of them stands in proofs/OneCase.antt.
use Rattle.std.specs.Prelude.{ℕ, suc, ◌+◌, ◌*◌, ◌-◌, ◌/◌, ◌%◌, ◌^◌, ◌≤◌, ◌<◌, ◌≡◌, false, ◌⊎◌, T, Float, Option, None, Some}
use Rattle.std.proofs.Common.{sym, ap, ◌∙◌, subst, inl, inr, arith, le_antisymm, lt_of_not-le, mod-lt, mul-le-mul_right, mul-lt-mul_of_pos_right, lt_of_mul-lt-mul_right, pow_pos}
use Rattle.std.proofs.Math.Nat.{mod-add-div'}
use Rattle.std.proofs.Math.Decide.{dec_le}
use Rattle.definitions.specs.Real.{units_of, is_finite, round_away}

-- ---- the cases

-- "a special value being a zero or not finite"
abbrev pub Special : Float → Type 0
Special x = (is_finite x ≡ false) ⊎ (units_of x ≡ 0)

-- where U units make 1: the whole number n is less than a half from X units, on either side
pub record Within (U X n : ℕ) : Type 0 where
  pub above : 2 * (n * U) < 2 * X + U
  pub below : 2 * X < 2 * (n * U) + U

-- and: X units are half way between n and n + 1
abbrev pub HalfWay : ℕ → ℕ → ℕ → Type 0
HalfWay U X n = 2 * X ≡ (2 * n + 1) * U

-- nearest: a magnitude above 0 with a whole number n that is nearer than every other
pub record Nearest (x : Float) : Type 0 where
  pub finite : T (is_finite x)
  pub not_zero : 0 < units_of x
  pub n : ℕ
  pub near : Within (2 ^ 1074) (units_of x) n

-- "a tie half way between two neighbouring whole numbers"
pub record Tie (x : Float) : Type 0 where
  pub finite : T (is_finite x)
  pub n : ℕ
  pub half_way : HalfWay (2 ^ 1074) (units_of x) n

-- what the step of the case A says of x: what x is rounded to where A is so; where it is not, nothing
abbrev pub StepOf : Type 0 → Float → Option Float → Type 0
StepOf A x (Some r) = A × (r ≡ round_away x)
StepOf A x None = A → ⊥

-- ---- just one

-- one of the three, and no two of them
pub record JustOne (A B C : Type 0) : Type 0 where
  pub some : A ⊎ (B ⊎ C)
  pub not_first_second : A → B → ⊥
  pub not_first_third : A → C → ⊥
  pub not_second_third : B → C → ⊥

pub special_not_nearest : (x : Float) → Special x → Nearest x → ⊥
special_not_nearest x (inl e) h = subst T e h.finite
special_not_nearest x (inr e) h = omega (arith, e, h.not_zero)

pub above_zero : (U X n : ℕ) → 0 < U → HalfWay U X n → 0 < X
above_zero U X n p h = omega (arith, h)

-- zero is not half way
pub special_not_tie : (x : Float) → Special x → Tie x → ⊥
special_not_tie x (inl e) h = subst T e h.finite
special_not_tie x (inr e) h = omega (arith, e, above_zero (2 ^ 1074) (units_of x) h.n (pow_pos 1074) h.half_way)

-- n would be more than k and less than k + 1
pub not_both : (U X n k : ℕ) → Within U X n → HalfWay U X k → ⊥
not_both U X n k h e =
    let less : n < suc k = lt_of_mul-lt-mul_right U {m = n} {n = suc k} (omega (arith, h.above, e)) in
    let more : k < n = lt_of_mul-lt-mul_right U {m = k} {n = n} (omega (arith, h.below, e)) in
    omega arith

-- D / P of A units each, where U are P of them: by the rest of that division X is nearest to a whole number or half way
-- between two.
module _ (D P A U X : ℕ) (p : 0 < P) (o : 0 < A) (x : X ≡ D * A) (u : U ≡ P * A) where
  parts : X ≡ (D % P + D / P * P) * A
  parts = x ∙ ap (λ (y : ℕ). y * A) (sym (mod-add-div' D P))

  pub rest_below : 2 * (D % P) < P → Within U X (D / P)
  rest_below h =
      let k = mul-lt-mul_of_pos_right {k = A} h o in
      rw (parts, u) (record { above = omega (arith, k); below = omega (arith, k) })

  pub rest_above : P < 2 * (D % P) → Within U X (suc (D / P))
  rest_above h =
      let k = mul-lt-mul_of_pos_right {k = A} h o in
      let l = mul-lt-mul_of_pos_right {k = A} (mod-lt D p) o in
      rw (parts, u) (record { above = omega (arith, k); below = omega (arith, l) })

  pub rest-half : 2 * (D % P) ≡ P → HalfWay U X (D / P)
  rest-half h = rw (parts, u) (omega (arith, ap (λ (y : ℕ). y * A) h))

pub compared : (a b : ℕ) → (a < b) ⊎ ((b < a) ⊎ (a ≡ b))
compared a b = by (dec_le b a) (dec_le a b)
  where
    by : Dec (b ≤ a) → Dec (a ≤ b) → (a < b) ⊎ ((b < a) ⊎ (a ≡ b))
    by (no n) d = inl (lt_of_not-le n)
    by (yes h) (no n) = inr (inl (lt_of_not-le n))
    by (yes h) (yes k) = inr (inr (le_antisymm k h))

-- ---- settled by just one

abbrev pub IsSettled : Option Float → Type 0
IsSettled (Some r) = Unit {0}
IsSettled None = ⊥

-- ---- the cases by distances

abbrev pub apart : ℕ → ℕ → ℕ
apart a b = a - b + (b - a)

-- n is nearer than every other whole number; those of the other sign are further off than 0
pub nearer_than_every_other :
    (x : Float) (h : Nearest x) (k : ℕ) → (k ≡ h.n → ⊥) →
    apart (units_of x) (h.n * 2 ^ 1074) < apart (units_of x) (k * 2 ^ 1074)
nearer_than_every_other x h k d =
    by (2 ^ 1074) (units_of x) h.n h.near (compared k h.n) d
  where
    by :
        (U X n : ℕ) → Within U X n → (k < n) ⊎ ((n < k) ⊎ (k ≡ n)) → (k ≡ n → ⊥) →
        apart X (n * U) < apart X (k * U)
    by U X n h (inl l) d = omega (arith, h.above, h.below, mul-le-mul_right U l)
    by U X n h (inr (inl l)) d = omega (arith, h.above, h.below, mul-le-mul_right U l)
    by U X n h (inr (inr e)) d = absurd (d e)

-- n and n + 1 are as near
pub as_near :
    (x : Float) (h : Tie x) → apart (units_of x) (h.n * 2 ^ 1074) ≡ apart (units_of x) (suc h.n * 2 ^ 1074)
as_near x h = at (2 ^ 1074) (units_of x) h.n h.half_way
  where
    at : (U X n : ℕ) → HalfWay U X n → apart X (n * U) ≡ apart X (suc n * U)
    at U X n e = omega (arith, e)

-- ---- for the code

-- a whole number is its own nearest
pub whole_within : (U X n : ℕ) → 0 < U → X ≡ n * U → Within U X n
whole_within U X n p e = record { above = omega (arith, e); below = omega (arith, e) }
