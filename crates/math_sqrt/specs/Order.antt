-- The order of floats, as the kit's `le` and `lt` have it: -0 equals +0, and a NaN is neither at most nor below
-- another.
use Rattle.std.specs.Prelude.{ℕ, zero, suc, ◌+◌, ◌*◌, ◌≤◌, ◌<◌, ◌≡◌, refl, Bool, true, false, not, ◌&&◌, ◌||◌, ◌⊎◌, T, eqb, ℤ, Float}
use Rattle.std.proofs.Common.{sym, ap, subst, inl, inr, ⊎_elim, arith, lt_irrefl, lt_of_lt_of_le, lt_of_mul-lt-mul_right, eq-zero-or-pos, mul-pos, mul-le-mul_right, mul-lt-mul_of_pos_right, ltb-true, eqb-true, lt-ltb, le-ltb}
use Rattle.std.proofs.lemmas.Bool.{false≢true}
use Rattle.std.specs.Float.{nan, inf, fin}
use Rattle.std.specs.Float.Ieee.{up, down, below, level, lt, le}
use Rattle.std.specs.Float.Ieee.Fits.{up_pos, down_pos}
use Rattle.std.specs.Float.Ieee.Positive.{first_pos}
use Rattle.definitions.specs.Real.{is_finite, negative}

-- ±a ≤ ±b and ±a < ±b
abbrev AtMost : Bool → ℕ → Bool → ℕ → Type 0
AtMost false a false b = a ≤ b
AtMost false a true b = a + b ≡ 0
AtMost true a false b = Unit {0}
AtMost true a true b = b ≤ a

abbrev Under : Bool → ℕ → Bool → ℕ → Type 0
Under false a false b = a < b
Under false a true b = ⊥
Under true a false b = 0 < a + b
Under true a true b = b < a

below_under : (s t : Bool) (a b : ℕ) → below s a t b ≡ true → Under s a t b
below_under false false a b h = ltb-true a b h
below_under false true a b h = absurd (false≢true h)
below_under true false a b h = ltb-true 0 (a + b) h
below_under true true a b h = ltb-true b a h

under_below : (s t : Bool) (a b : ℕ) → Under s a t b → below s a t b ≡ true
under_below false false a b h = lt-ltb a b h
under_below false true a b h = absurd h
under_below true false a b h = lt-ltb 0 (a + b) h
under_below true true a b h = lt-ltb b a h

or_split : (x y : Bool) → (x || y) ≡ true → (x ≡ true) ⊎ (y ≡ true)
or_split true y h = inl refl
or_split false y h = inr h

and_first : (x y : Bool) → (x && y) ≡ true → x ≡ true
and_first true y h = refl
and_first false y h = absurd (false≢true h)

and_second : (x y : Bool) → (x && y) ≡ true → y ≡ true
and_second true y h = h
and_second false y h = absurd (false≢true h)

level_at_most : (s t : Bool) (a b : ℕ) → level s a t b ≡ true → AtMost s a t b
level_at_most false false a b h = omega (arith, eqb-true a b (and_first (eqb a b) true h))
level_at_most false true a b h = omega (arith, eqb-true a b (and_first (eqb a b) (eqb a 0) h), eqb-true a 0 (and_second (eqb a b) (eqb a 0) h))
level_at_most true false a b h = tt
level_at_most true true a b h = omega (arith, eqb-true a b (and_first (eqb a b) true h))

under_at_most : (s t : Bool) (a b : ℕ) → Under s a t b → AtMost s a t b
under_at_most false false a b h = omega arith
under_at_most false true a b h = absurd h
under_at_most true false a b h = tt
under_at_most true true a b h = omega arith

-- of two floats that are finite
le_at_most : (s t : Bool) (m n : ℕ) (e d : ℤ) → le (fin s m e) (fin t n d) ≡ true → AtMost s (m * up e * down d) t (n * up d * down e)
unfolding le
le_at_most s t m n e d h =
    ⊎_elim (λ k. under_at_most s t _ _ (below_under s t _ _ k)) (λ k. level_at_most s t _ _ k)
    (or_split (below s (m * up e * down d) t (n * up d * down e)) (level s (m * up e * down d) t (n * up d * down e)) h)

-- x = ±a / c, y = ±b / d and z = ±g / h: x ≤ y < z, so x < z
module _ (a b g c d h : ℕ) (C : 0 < c) (D : 0 < d) (H : 0 < h) where
  rising : a * d ≤ b * c → b * h < g * d → a * h < g * c
  rising k l =
      let p : a * d * h ≤ b * c * h = mul-le-mul_right h k in
      let q : b * h * c < g * d * c = mul-lt-mul_of_pos_right l C in
      let r : a * h * d < g * c * d = omega arith in
      lt_of_mul-lt-mul_right d r

  falling : b * c ≤ a * d → g * d < b * h → g * c < a * h
  falling k l =
      let p : b * c * h ≤ a * d * h = mul-le-mul_right h k in
      let q : g * d * c < b * h * c = mul-lt-mul_of_pos_right l C in
      let r : g * c * d < a * h * d = omega arith in
      lt_of_mul-lt-mul_right d r

  -- where y is 0, so is x
  none : a * d + b * c ≡ 0 → 0 < b * h + g * d → a * h < g * c
  none k l = ⊎_elim low (λ p. absurd (over p)) (eq-zero-or-pos a)
    where
      over : 0 < a → ⊥
      over p = omega (arith, mul-pos p D)

      middle : 0 < b → ⊥
      middle p = omega (arith, mul-pos p C)

      high : 0 < g
      high = ⊎_elim (λ z. absurd (middle (first_pos b h (omega (arith, ap (λ (x : ℕ). x * d) z))))) (λ p. p) (eq-zero-or-pos g)

      low : a ≡ 0 → a * h < g * c
      low z = omega (arith, ap (λ (x : ℕ). x * h) z, mul-pos high C)

  below_all : (s t v : Bool) → AtMost s (a * d) t (b * c) → Under t (b * h) v (g * d) → Under s (a * h) v (g * c)
  below_all false false false k l = rising k l
  below_all false false true k l = absurd l
  below_all false true false k l = none k l
  below_all false true true k l = absurd (lt_irrefl 0 (lt_of_lt_of_le (mul-pos (first_pos b h (omega arith)) C) (omega arith)))
  below_all true false false k l = omega (arith, mul-pos (first_pos g d (omega arith)) C)
  below_all true false true k l = absurd l
  below_all true true false k l = ⊎_elim (λ z. by_first (first_pos b h (omega (arith, ap (λ (x : ℕ). x * d) z)))) (λ p. omega (arith, mul-pos p C)) (eq-zero-or-pos g)
    where
      by_first : 0 < b → 0 < a * h + g * c
      by_first p = omega (arith, mul-pos (first_pos a d (omega (arith, mul-pos p C))) H)
  below_all true true true k l = falling k l

-- a float at most another that is below a third is below it
pub le_lt_trans : (x y z : Float) → le x y ≡ true → lt y z ≡ true → lt x z ≡ true
unfolding le lt
le_lt_trans nan y z h k = absurd (false≢true h)
le_lt_trans (inf s) nan z h k = absurd (false≢true k)
le_lt_trans (inf false) (inf false) z h k = k
le_lt_trans (inf false) (inf true) z h k = absurd (false≢true h)
le_lt_trans (inf false) (fin t n d) z h k = absurd (false≢true h)
le_lt_trans (inf true) (inf t) nan h k = absurd (false≢true k)
le_lt_trans (inf true) (inf t) (inf v) h k = and_second t (not v) k
le_lt_trans (inf true) (inf t) (fin v l f) h k = refl
le_lt_trans (inf true) (fin t n d) nan h k = absurd (false≢true k)
le_lt_trans (inf true) (fin t n d) (inf v) h k = k
le_lt_trans (inf true) (fin t n d) (fin v l f) h k = refl
le_lt_trans (fin s m e) nan z h k = absurd (false≢true k)
le_lt_trans (fin s m e) (inf true) z h k = absurd (false≢true h)
le_lt_trans (fin s m e) (inf false) nan h k = absurd (false≢true k)
le_lt_trans (fin s m e) (inf false) (inf v) h k = absurd (false≢true k)
le_lt_trans (fin s m e) (inf false) (fin v l f) h k = absurd (false≢true k)
le_lt_trans (fin s m e) (fin t n d) nan h k = absurd (false≢true k)
le_lt_trans (fin s m e) (fin t n d) (inf v) h k = k
le_lt_trans (fin s m e) (fin t n d) (fin v l f) h k =
    under_below s v _ _
    (below_all (m * up e) (n * up d) (l * up f) (down e) (down d) (down f) (down_pos e) (down_pos d) (down_pos f) s t v (le_at_most s t m n e d h) (below_under t v _ _ k))

pub not_below_itself : (x : Float) → lt x x ≡ false
unfolding lt
not_below_itself nan = refl
not_below_itself (inf false) = refl
not_below_itself (inf true) = refl
not_below_itself (fin false m e) = le-ltb (m * up e * down e) (m * up e * down e) (omega arith)
not_below_itself (fin true m e) = le-ltb (m * up e * down e) (m * up e * down e) (omega arith)

pub nan_not_above : (p : Float) → le p nan ≡ false
unfolding le
nan_not_above nan = refl
nan_not_above (inf s) = refl
nan_not_above (fin s m e) = refl

-- ---- zeros and +infinity

pub zero-le : (s : Bool) (e : ℤ) (r : Float) → T (is_finite r) → negative r ≡ false → le (fin s zero e) r ≡ true
unfolding le
zero-le s e nan f n = absurd f
zero-le s e (inf t) f n = absurd f
zero-le s e (fin true m d) f n = absurd (false≢true (sym n))
zero-le s e (fin false m d) f n = by s (0 * up e * down d) (m * up d * down e) (omega arith)
  where
    none : (s : Bool) (b : ℕ) → (below s 0 false b || level s 0 false b) ≡ true
    none false zero = refl
    none true zero = refl
    none false (suc n) = rw (lt-ltb 0 (suc n) (omega arith))
    none true (suc n) = rw (lt-ltb 0 (0 + suc n) (omega arith))

    by : (s : Bool) (a b : ℕ) → a ≡ 0 → (below s a false b || level s a false b) ≡ true
    by s a b z = subst (λ (c : ℕ). (below s c false b || level s c false b) ≡ true) (sym z) (none s b)

pub finite_le : (r : Float) → T (is_finite r) → le r (inf false) ≡ true
unfolding le
finite_le nan f = absurd f
finite_le (inf s) f = absurd f
finite_le (fin s m e) f = refl

-- neither is a zero at most a negative number, nor a positive number at most a zero or a negative one
above_zero : (m : ℕ) (e d : ℤ) → 0 < suc m * up e * down d
above_zero m e d = mul-pos (mul-pos (omega arith) (up_pos e)) (down_pos d)

pub zero_not_le : (s : Bool) (n : ℕ) (e d : ℤ) → le (fin s zero e) (fin true (suc n) d) ≡ true → ⊥
zero_not_le s n e d h = by s (0 * up e * down d) (suc n * up d * down e) (omega arith) (above_zero n d e) (le_at_most s true zero (suc n) e d h)
  where
    by : (s : Bool) (a b : ℕ) → a ≡ 0 → 0 < b → AtMost s a true b → ⊥
    by false a b z p k = omega arith
    by true a b z p k = omega arith

pub positive_not_le : (t : Bool) (m n : ℕ) (e d : ℤ) → (t ≡ false → n ≡ 0) → le (fin false (suc m) e) (fin t n d) ≡ true → ⊥
positive_not_le true m n e d z h = omega (arith, above_zero m e d, le_at_most false true (suc m) n e d h)
positive_not_le false m n e d z h =
    let w : n * up d * down e ≡ 0 * up d * down e = ap (λ (x : ℕ). x * up d * down e) (z refl) in
    omega (arith, above_zero m e d, le_at_most false false (suc m) n e d h)
