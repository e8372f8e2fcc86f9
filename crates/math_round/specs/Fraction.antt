-- What a float is off a whole number, by sums alone. From 2 ^ 52 to 2 ^ 53 the floats are the whole numbers: a sum
-- that comes to lie there is one, and what it is more than a number in the middle of them is a whole number beside d.
-- If d is less than a half off that, it is the one that d is rounded to.
use Rattle.std.specs.Prelude.{ℕ, zero, suc, ◌+◌, ◌*◌, ◌-◌, ◌/◌, ◌^◌, ◌≤◌, ◌<◌, ◌≡◌, refl, Bool, true, false, not, cond, ◌&&◌, ◌⊎◌, T, ltb, ℤ, pos, negsuc, Float}
use Rattle.std.proofs.Math.Path.{sym, ap}
use Rattle.std.proofs.Common.{◌∙◌, subst, inl, inr, ⊎_elim, mul-pos, zero-mul, zero-lt-suc, le_of_suc-le-suc, le_antisymm, lt_of_not-le, le-div_iff_mul-le, div-lt_iff_lt-mul, ltb-true, ltb-false, ltb→lt, lit<, pow_mono}
use native.Mathlib.Omega.{arith}
use Rattle.std.proofs.Math.Decide.{dec_le}
use Rattle.std.specs.Float.{nan, inf, fin}
use Rattle.std.specs.Float.Ieee.{binary64, up, down, round, sum, add, sub, neg, lt, le, fits, of_bits}
use Rattle.std.specs.Float.Ieee.Fits.{up_pos, down_pos, add-fits, and_l, and_r}
use Rattle.std.specs.Float.Ieee.Exact.{HasValue}
use Rattle.std.specs.Float.Ieee.Back.{round_whole}
use Rattle.std.specs.Float.Ieee.Order.{round_mono}
use Rattle.std.specs.Float.Ieee.Scale.{round_same}
use Rattle.std.specs.Float.Ieee.Positive.{positive, above_of_le, between, le→cross}
use Rattle.definitions.specs.Real.{zero_f, round_away}
use Rattle.math_round.specs.Value.{neg_round}
use Rattle.laws.specs.Floats.{fit_of, own_value}
use Rattle.math_round.specs.Sums.{add_at, plus_nothing, neg_value, scaled}

-- ---- literals of the code

-- 2 ^ 52, 2 ^ 53, and the number in the middle
abbrev pub least : Float
least = of_bits binary64 0x4330000000000000

abbrev pub greatest : Float
greatest = of_bits binary64 0x4340000000000000

abbrev pub middle : Float
middle = of_bits binary64 0x4338000000000000

abbrev pub half : Float
half = of_bits binary64 0x3FE0000000000000

abbrev pub minus_half : Float
minus_half = neg half

pub least_is : least ≡ fin false 1 (pos 52)
unfolding of_bits
least_is = refl

pub greatest_is : greatest ≡ fin false 1 (pos 53)
unfolding of_bits
greatest_is = refl

middle_is : middle ≡ fin false 3 (pos 51)
unfolding of_bits
middle_is = refl

half_is : half ≡ fin false 1 (negsuc 0)
unfolding of_bits
half_is = refl

minus_half_is : minus_half ≡ fin true 1 (negsuc 0)
unfolding of_bits neg
minus_half_is = refl

zero_is : zero_f ≡ fin false 0 (pos 0)
unfolding of_bits
zero_is = refl

half-rounded : round binary64 false 1 2 ≡ fin false 1 (negsuc 0)
unfolding round
half-rounded = refl

-- ---- what the code works out

-- among the floats that are the whole numbers; -0 is 0 by then
abbrev pub pushed : Float → Float
pushed d = add binary64 (add binary64 d zero_f) middle

abbrev pub whole_beside : Float → Float
whole_beside d = sub binary64 (pushed d) middle

abbrev pub off_whole : Float → Float
off_whole d = sub binary64 (add binary64 d zero_f) (whole_beside d)

-- whether that is what d is off the number it is rounded to
abbrev pub settles : Float → Bool
settles d =
    le least (pushed d) && le (pushed d) greatest && lt minus_half (off_whole d) && lt (off_whole d) half

-- ---- a float between is a whole number

whole_between :
    (u : Float) → T (fits binary64 u) → T (le least u) → T (le u greatest) →
    (n : ℕ) × HasValue u false n 1 × (n ≤ 2 ^ 53)
whole_between u f h k = by u f low high (between (fin false 1 (pos 52)) u (fin false 1 (pos 53)) tt tt low high)
  where
    low : T (le (fin false 1 (pos 52)) u)
    low = subst (λ (z : Float). T (le z u)) least_is h

    high : T (le u (fin false 1 (pos 53)))
    high = subst (λ (z : Float). T (le u z)) greatest_is k

    too_few : (m D : ℕ) → m < 2 ^ 53 → 2 ≤ D → 1 * 2 ^ 52 * D ≤ m * 1 * 1 → ⊥
    too_few m D a b c = omega (arith, a, b, c)

    two : (k : ℕ) → 2 ≤ 2 ^ suc k
    two k = pow_mono {i = 1} {j = suc k} (omega arith)

    by :
        (u : Float) → T (fits binary64 u) → T (le (fin false 1 (pos 52)) u) → T (le u (fin false 1 (pos 53))) →
        T (positive u) →
        (n : ℕ) × HasValue u false n 1 × (n ≤ 2 ^ 53)
    by nan f h k p = absurd p
    by (inf s) f h k p = absurd p
    by (fin true m e) f h k p = absurd p
    by (fin false m (pos e)) f h k p =
        (m * 2 ^ e, (refl, refl), omega (arith, le→cross (fin false m (pos e)) (fin false 1 (pos 53)) p tt k))
    by (fin false m (negsuc e)) f h k p =
        absurd
        (too_few m (2 ^ suc e) (fit_of false m (negsuc e) f).digits (two e)
        (le→cross (fin false 1 (pos 52)) (fin false m (negsuc e)) tt p h))

-- ---- a sum under a half is of terms under a half

not_under : (y : Float) → T (le (fin false 1 (negsuc 0)) y) → T (lt y (fin false 1 (negsuc 0))) → ⊥
unfolding le lt
not_under nan h l = absurd l
not_under (inf true) h l = absurd h
not_under (inf false) h l = absurd l
not_under (fin true n d) h l = absurd (above_of_le (fin false 1 (negsuc 0)) (fin true n d) tt h)
not_under (fin false n d) h l =
    let p = above_of_le (fin false 1 (negsuc 0)) (fin false n d) tt h in
    let c = le→cross (fin false 1 (negsuc 0)) (fin false n d) tt p h in
    let b = ltb→lt (n * up d * 2) (1 * 1 * down d) l in
    omega (arith, c, b)

not_over : (y : Float) → T (le (fin false 1 (negsuc 0)) y) → T (lt (fin true 1 (negsuc 0)) (neg y)) → ⊥
unfolding le lt neg
not_over nan h l = absurd h
not_over (inf true) h l = absurd h
not_over (inf false) h l = absurd l
not_over (fin true n d) h l = absurd (above_of_le (fin false 1 (negsuc 0)) (fin true n d) tt h)
not_over (fin false n d) h l =
    let p = above_of_le (fin false 1 (negsuc 0)) (fin false n d) tt h in
    let c = le→cross (fin false 1 (negsuc 0)) (fin false n d) tt p h in
    let b = ltb→lt (n * up d * 2) (1 * 1 * down d) l in
    omega (arith, c, b)

-- between -1/2 and 1/2
abbrev Small : Float → Type 0
Small t = T (lt minus_half t) × T (lt t half)

small : (s : Bool) (q c : ℕ) → 0 < c → Small (round binary64 s q c) → 2 * q < c
small s q c p h = by (dec_le c (2 * q))
  where
    large : c ≤ 2 * q → T (le (fin false 1 (negsuc 0)) (round binary64 false q c))
    large g =
        subst (λ (z : Float). T (le z (round binary64 false q c))) half-rounded
        (round_mono binary64 1 2 q c (lit< tt) p (omega arith))

    never : (s : Bool) → Small (round binary64 s q c) → c ≤ 2 * q → ⊥
    never false h g =
        not_under (round binary64 false q c) (large g)
        (subst (λ (z : Float). T (lt (round binary64 false q c) z)) half_is h.1)
    never true h g =
        not_over (round binary64 false q c) (large g)
        (subst (λ (z : Float). T (lt z (neg (round binary64 false q c)))) minus_half_is
        (subst (λ (z : Float). T (lt minus_half z)) (sym (neg_round q c)) h.0))

    by : Dec (c ≤ 2 * q) → 2 * q < c
    by (yes g) = absurd (never s h g)
    by (no n) = lt_of_not-le n

-- ---- the whole number beside

-- as a float of some sign
pub record Beside (w : Float) : Type 0 where
  pub sign : Bool
  pub number : ℕ
  pub is : HasValue w sign number 1
  pub few : number ≤ 2 ^ 53

beside : (u : Float) → T (fits binary64 u) → T (le least u) → T (le u greatest) → Beside (sub binary64 u middle)
unfolding sub sum
beside u f h k =
    let (n, v, few) = whole_between u f h k in
    let m = 3 * 2 ^ 51 in
    let opposite : HasValue (neg middle) true m 1 =
    neg_value middle false m 1 (subst (λ (z : Float). HasValue z false m 1) (sym middle_is) (refl, refl)) in
    let sum_is : sub binary64 u middle ≡ sum binary64 false n true m 1 =
    add_at u (neg middle) false true n m 1 (lit< tt) v opposite in
    let found = by n few (ltb n m) in
    record {
      sign = found.0;
      number = found.1;
      is = subst (λ (z : Float). HasValue z found.0 found.1 1) (sym sum_is) found.2;
      few = found.3;
    }
  where
    by :
        (n : ℕ) → n ≤ 2 ^ 53 → (b : Bool) →
        (s : Bool)
        × (k : ℕ)
        × HasValue (cond b (round binary64 true (3 * 2 ^ 51 - n) 1) (round binary64 false (n - 3 * 2 ^ 51) 1)) s k 1
        × (k ≤ 2 ^ 53)
    by n h true = (true, 3 * 2 ^ 51 - n, round_whole binary64 true (3 * 2 ^ 51 - n) (omega arith), omega arith)
    by n h false =
        (false, n - 3 * 2 ^ 51, round_whole binary64 false (n - 3 * 2 ^ 51) (omega (arith, h)), omega (arith, h))

-- ---- the number that a / c is rounded to

nearest_number : (a n c : ℕ) → 0 < c → 2 * (n * c - a) < c → 2 * (a - n * c) < c → (2 * a + c) / (2 * c) ≡ n
nearest_number a n c p above below =
    le_antisymm
    (le_of_suc-le-suc
    ((div-lt_iff_lt-mul {k = 2 * c} {x = 2 * a + c} {y = suc n} (omega arith)).1 (omega (arith, below))))
    ((le-div_iff_mul-le {k = 2 * c} {x = n} {y = 2 * a + c} (omega arith)).1 (omega (arith, above)))

-- the sum of a / c and ±x / c, by its signs
chosen :
    (t u : Bool) (a x c : ℕ) → 0 < c → (b : Bool) → ltb a x ≡ b →
    Small (cond b (round binary64 t (x - a) c) (round binary64 u (a - x) c)) → (2 * (x - a) < c) × (2 * (a - x) < c)
chosen t u a x c p true e h = (small t (x - a) c p h, omega (arith, p, ltb-true a x e))
chosen t u a x c p false e h = (omega (arith, p, ltb-false a x e), small u (a - x) c p h)

apart : (s : Bool) (a x c : ℕ) → 0 < c → Small (sum binary64 s a (not s) x c) → (2 * (x - a) < c) × (2 * (a - x) < c)
unfolding sum
apart true a x c p h = chosen false (ltb x a) a x c p (ltb a x) refl h
apart false a x c p h = chosen true false a x c p (ltb a x) refl h

together : (s : Bool) (a x c : ℕ) → 0 < c → Small (sum binary64 s a s x c) → 2 * (a + x) < c
unfolding sum
together true a x c p h = small true (a + x) c p h
together false a x c p h = small false (a + x) c p h

same_or_not : (s t : Bool) → (t ≡ s) ⊎ (not t ≡ s)
same_or_not true true = inl refl
same_or_not true false = inr refl
same_or_not false true = inr refl
same_or_not false false = inl refl

-- ---- a float that is not 0

module _ (s : Bool) (m : ℕ) (e : ℤ) (f : T (fits binary64 (fin s (suc m) e))) where
  abbrev d : Float
  d = fin s (suc m) e

  abbrev a : ℕ
  a = suc m * up e

  abbrev c : ℕ
  c = down e

  some : 0 < a
  some = mul-pos (zero-lt-suc m) (up_pos e)

  own : HasValue (add binary64 d zero_f) s a c
  own =
      subst (λ (z : Float). HasValue z s a c)
      (sym
      (add_at d zero_f s false a 0 c (down_pos e) (refl, refl)
      (subst (λ (z : Float). HasValue z false 0 c) (sym zero_is) (refl, zero-mul c ∙ sym (zero-mul 1)))
      ∙ plus_nothing s false a c some))
      (own_value s (suc m) e f)

  -- less a whole number
  less_whole :
      (x w : Float) (t : Bool) (n : ℕ) → HasValue x s a c → HasValue w t n 1 →
      sub binary64 x w ≡ sum binary64 s a (not t) (n * c) c
  unfolding sub
  less_whole x w t n v h =
      add_at x (neg w) s (not t) a (n * c) c (down_pos e) v (scaled (neg w) (not t) n c (neg_value w t n 1 h))

  rounded : (n : ℕ) → (2 * a + c) / (2 * c) ≡ n → round_away d ≡ round binary64 s n 1
  unfolding round_away
  rounded n h = ap (λ (k : ℕ). round binary64 s k 1) h

  -- d less the number n that it is rounded to
  off_rounded :
      (n : ℕ) → n ≤ 2 ^ 53 → (2 * a + c) / (2 * c) ≡ n →
      sub binary64 d (round_away d) ≡ sum binary64 s a (not s) (n * c) c
  off_rounded n few h =
      ap (sub binary64 d) (rounded n h)
      ∙ less_whole d (round binary64 s n 1) s n (refl, refl) (round_whole binary64 s n few)

  -- a whole number of d's sign
  same_sign :
      (n : ℕ) → n ≤ 2 ^ 53 → Small (sum binary64 s a (not s) (n * c) c) →
      sum binary64 s a (not s) (n * c) c ≡ sub binary64 d (round_away d)
  same_sign n few h =
      let near = apart s a (n * c) c (down_pos e) h in
      sym (off_rounded n few (nearest_number a n c (down_pos e) near.0 near.1))

  -- of the other sign it is 0
  none : (n : ℕ) → 2 * (a + n * c) < c → n ≡ 0
  none zero h = refl
  none (suc k) h = absurd (over a k c h)
    where
      over : (a k c : ℕ) → 2 * (a + suc k * c) < c → ⊥
      over a k c h = omega arith

  other_sign :
      (n : ℕ) → n ≤ 2 ^ 53 → Small (sum binary64 s a s (n * c) c) →
      sum binary64 s a s (n * c) c ≡ sub binary64 d (round_away d)
  other_sign n few h =
      let near = together s a (n * c) c (down_pos e) h in
      let zero-c : n * c ≡ 0 = ap (λ (k : ℕ). k * c) (none n near) ∙ zero-mul c in
      let cut : (2 * a + c) / (2 * c) ≡ n =
      nearest_number a n c (down_pos e) (omega (arith, zero-c, near)) (omega (arith, zero-c, near)) in
      ap (λ (x : ℕ). sum binary64 s a s x c) zero-c
      ∙ plus_nothing s s a c some
      ∙ sym (plus_nothing s (not s) a c some)
      ∙ ap (λ (x : ℕ). sum binary64 s a (not s) x c) (sym zero-c)
      ∙ sym (off_rounded n few cut)

  pub off_number :
      T (le least (pushed d)) → T (le (pushed d) greatest) → Small (off_whole d) →
      off_whole d ≡ sub binary64 d (round_away d)
  off_number l g h =
      let b = beside (pushed d) (add-fits binary64 (add binary64 d zero_f) middle) l g in
      let is = less_whole (add binary64 d zero_f) (whole_beside d) b.sign b.number own b.is in
      ⊎_elim
      (λ (q : b.sign ≡ s).
      let at = is ∙ ap (λ (t : Bool). sum binary64 s a (not t) (b.number * c) c) q in
      at ∙ same_sign b.number b.few (subst Small at h))
      (λ (q : not b.sign ≡ s).
      let at = is ∙ ap (λ (t : Bool). sum binary64 s a t (b.number * c) c) q in
      at ∙ other_sign b.number b.few (subst Small at h))
      (same_or_not s b.sign)

-- ---- a zero, of either sign

plain-zero : (c : ℕ) → 0 < c → round binary64 false 0 c ≡ fin false 0 (pos 0)
unfolding round
plain-zero c p = round_same binary64 false 0 c 0 1 p (lit< tt) (zero-mul 1 ∙ sym (zero-mul c))

zero_and_zero : (s : Bool) (c : ℕ) → sum binary64 s 0 false 0 c ≡ round binary64 false 0 c
unfolding sum
zero_and_zero true c = refl
zero_and_zero false c = refl

zero_less_zero : (s : Bool) (c : ℕ) → sum binary64 s 0 (not s) 0 c ≡ round binary64 false 0 c
unfolding sum
zero_less_zero true c = refl
zero_less_zero false c = refl

zero_off_whole :
    sub binary64 (fin false 0 (pos 0)) (sub binary64 (add binary64 (fin false 0 (pos 0)) middle) middle)
    ≡ fin false 0 (pos 0)
unfolding sub of_bits
zero_off_whole = refl

module _ (s : Bool) (e : ℤ) where
  value : HasValue (fin s 0 e) s 0 (down e)
  value = (refl, ap (λ (z : ℕ). z * down e) (zero-mul (up e)))

  with_nothing : add binary64 (fin s 0 e) zero_f ≡ fin false 0 (pos 0)
  with_nothing =
      add_at (fin s 0 e) zero_f s false 0 0 (down e) (down_pos e) value
      (subst (λ (z : Float). HasValue z false 0 (down e)) (sym zero_is) (refl, zero-mul (down e) ∙ sym (zero-mul 1)))
      ∙ zero_and_zero s (down e)
      ∙ plain-zero (down e) (down_pos e)

  round_zero : round_away (fin s 0 e) ≡ round binary64 s 0 1
  unfolding round_away
  round_zero =
      ap (λ (k : ℕ). round binary64 s k 1)
      (nearest_number (0 * up e) 0 (down e) (down_pos e) (none (0 * up e) (down e) (zero-mul (up e)) (down_pos e)).0
      (none (0 * up e) (down e) (zero-mul (up e)) (down_pos e)).1)
    where
      none : (a c : ℕ) → a ≡ 0 → 0 < c → (2 * (0 * c - a) < c) × (2 * (a - 0 * c) < c)
      none a c q p = (omega arith, omega arith)

  pub off_zero : off_whole (fin s 0 e) ≡ sub binary64 (fin s 0 e) (round_away (fin s 0 e))
  unfolding sub
  off_zero =
      ap (λ (p : Float). sub binary64 p (sub binary64 (add binary64 p middle) middle)) with_nothing
      ∙ zero_off_whole
      ∙ sym (plain-zero (down e) (down_pos e))
      ∙ sym (zero_less_zero s (down e))
      ∙ sym
      (add_at (fin s 0 e) (neg (round binary64 s 0 1)) s (not s) 0 0 (down e) (down_pos e) value
      (subst (λ (n : ℕ). HasValue (neg (round binary64 s 0 1)) (not s) n (down e)) (zero-mul (down e))
      (scaled (neg (round binary64 s 0 1)) (not s) 0 (down e)
      (neg_value (round binary64 s 0 1) s 0 1 (round_whole binary64 s 0 (omega arith))))))
      ∙ sym (ap (sub binary64 (fin s 0 e)) round_zero)

-- ---- the theorem

pub pushed_far : (s : Bool) → pushed (inf s) ≡ inf s
unfolding add
pushed_far s = λ i. add binary64 (add binary64 (inf s) (zero_is i)) (middle_is i)

-- what four tests that pass say
pub record Passed (d : Float) : Type 0 where
  pub above : T (le least (pushed d))
  pub below : T (le (pushed d) greatest)
  pub small : Small (off_whole d)

pub passed : (d : Float) → settles d ≡ true → Passed d
passed d h =
    let all : T (settles d) = subst T (sym h) tt in
    let a = le least (pushed d) in
    let b = le (pushed d) greatest in
    let u = lt minus_half (off_whole d) in
    let v = lt (off_whole d) half in
    let three = and_l (a && b && u) v all in
    let two = and_l (a && b) u three in
    record { above = and_l a b two; below = and_r a b two; small = (and_r (a && b) u three, and_r (a && b && u) v all) }
