-- Sums of floats by the values of their terms, whatever fractions these are written as.
use Rattle.std.specs.Prelude.{ℕ, ◌+◌, ◌*◌, ◌-◌, ◌≤◌, ◌<◌, ◌≡◌, refl, Bool, not, cond, ◌&&◌, ltb, Float}
use Rattle.std.proofs.Common.{sym, ap, ◌∙◌, arith, mul-one, mul_comm, mul_assoc, mul_right_comm, mul-pos, add-zero, le_trans, le_of_eq, mul-le-mul_right, le_of_mul-le-mul_right, lt_of_not-le, lt-ltb, le-ltb}
use Rattle.std.proofs.Math.Bool.{true, false}
use Rattle.std.proofs.Math.Nat.{mul-sub}
use Rattle.std.proofs.Math.Decide.{dec_le}
use Rattle.std.specs.Float.{nan, inf, fin, binary64}
use Rattle.std.specs.Float.Ieee.{up, down, round, sum, add, neg}
use Rattle.std.specs.Float.Ieee.Fits.{down_pos}
use Rattle.std.specs.Float.Ieee.Exact.{HasValue}
use Rattle.std.specs.Float.Ieee.Scale.{round_same}

-- ---- fractions of one denominator, C or c

module _ (A B C a b c : ℕ) (P : 0 < C) (p : 0 < c) (e : A * c ≡ a * C) (f : B * c ≡ b * C) where
  order : ltb A B ≡ ltb a b
  order = by (dec_le b a)
    where
      by : Dec (b ≤ a) → ltb A B ≡ ltb a b
      by (yes h) =
          le-ltb A B
          (le_of_mul-le-mul_right (le_trans (le_of_eq f) (le_trans (mul-le-mul_right C h) (le_of_eq (sym e)))) p)
          ∙ sym (le-ltb a b h)
      by (no n) =
          lt-ltb A B
          (lt_of_not-le
          (λ (g : B ≤ A).
          n (le_of_mul-le-mul_right (le_trans (le_of_eq (sym f)) (le_trans (mul-le-mul_right c g) (le_of_eq e))) P)))
          ∙ sym (lt-ltb a b (lt_of_not-le n))

  less : (B - A) * c ≡ (b - a) * C
  less =
      let x : c * B ≡ C * b = mul_comm c B ∙ f ∙ mul_comm b C in
      let y : c * A ≡ C * a = mul_comm c A ∙ e ∙ mul_comm a C in
      mul_comm (B - A) c ∙ mul-sub c B A ∙ (λ i. x i - y i) ∙ sym (mul-sub C b a) ∙ mul_comm C (b - a)

  more : (A + B) * c ≡ (a + b) * C
  more = omega (arith, e, f)

  like : (s : Bool) → round binary64 s (A + B) C ≡ round binary64 s (a + b) c
  like s = round_same binary64 s (A + B) C (a + b) c P p more

module _ (A B C a b c : ℕ) (P : 0 < C) (p : 0 < c) (e : A * c ≡ a * C) (f : B * c ≡ b * C) where
  unlike :
      (s t : Bool) →
      cond (ltb A B) (round binary64 t (B - A) C) (round binary64 (s && ltb B A) (A - B) C)
      ≡ cond (ltb a b) (round binary64 t (b - a) c) (round binary64 (s && ltb b a) (a - b) c)
  unlike s t =
      let below = round_same binary64 t (B - A) C (b - a) c P p (less A B C a b c P p e f) in
      let above =
      ap (λ (o : Bool). round binary64 (s && o) (A - B) C) (order B A C b a c P p f e)
      ∙ round_same binary64 (s && ltb b a) (A - B) C (a - b) c P p (less B A C b a c P p f e) in
      λ i. cond (order A B C a b c P p e f i) (below i) (above i)

  sum_same : (s t : Bool) → sum binary64 s A t B C ≡ sum binary64 s a t b c
  unfolding sum
  sum_same true true = like A B C a b c P p e f true
  sum_same false false = like A B C a b c P p e f false
  sum_same true false = unlike true false
  sum_same false true = unlike false true

-- ---- the sum of two floats

pub add_at :
    (x y : Float) (s t : Bool) (a b c : ℕ) → 0 < c → HasValue x s a c → HasValue y t b c →
    add binary64 x y ≡ sum binary64 s a t b c
unfolding add
add_at nan y s t a b c p v w = absurd v
add_at (inf r) y s t a b c p v w = absurd v
add_at (fin r m e) nan s t a b c p v w = absurd w
add_at (fin r m e) (inf q) s t a b c p v w = absurd w
add_at (fin r m e) (fin q n d) s t a b c p v w =
    (λ i. sum binary64 (v.0 i) (m * up e * down d) (w.0 i) (n * up d * down e) (down e * down d))
    ∙ sum_same (m * up e * down d) (n * up d * down e) (down e * down d) a b c (mul-pos (down_pos e) (down_pos d)) p
    (mul_right_comm (m * up e) (down d) c ∙ ap (λ (z : ℕ). z * down d) v.1 ∙ mul_assoc a (down e) (down d))
    (mul_right_comm (n * up d) (down e) c
    ∙ ap (λ (z : ℕ). z * down e) w.1
    ∙ mul_assoc b (down d) (down e)
    ∙ ap (λ (z : ℕ). b * z) (mul_comm (down d) (down e)))
    s t

-- nothing added, whatever its sign
pub plus_nothing : (s t : Bool) (a c : ℕ) → 0 < a → sum binary64 s a t 0 c ≡ round binary64 s a c
unfolding sum
plus_nothing s t a c h = by s t
  where
    both : (s : Bool) → round binary64 s (a + 0) c ≡ round binary64 s a c
    both s = ap (λ (n : ℕ). round binary64 s n c) (add-zero a)

    and_so : (s : Bool) → (s && true) ≡ s
    and_so true = refl
    and_so false = refl

    sign : (s : Bool) → (s && ltb 0 a) ≡ s
    sign s = ap (λ (o : Bool). s && o) (lt-ltb 0 a h) ∙ and_so s

    rest : a - 0 ≡ a
    rest = omega arith

    one :
        (s t : Bool) →
        cond (ltb a 0) (round binary64 t (0 - a) c) (round binary64 (s && ltb 0 a) (a - 0) c) ≡ round binary64 s a c
    one s t =
        ap (λ (o : Bool). cond o (round binary64 t (0 - a) c) (round binary64 (s && ltb 0 a) (a - 0) c))
        (le-ltb a 0 (omega arith))
        ∙ (λ i. round binary64 (sign s i) (rest i) c)

    by : (s t : Bool) → sum binary64 s a t 0 c ≡ round binary64 s a c
    by true true = both true
    by false false = both false
    by true false = one true false
    by false true = one false true

-- ---- values

pub neg_value : (x : Float) (s : Bool) (a c : ℕ) → HasValue x s a c → HasValue (neg x) (not s) a c
unfolding neg
neg_value nan s a c v = absurd v
neg_value (inf t) s a c v = absurd v
neg_value (fin t m e) s a c v = (ap not v.0, v.1)

-- a whole number as a fraction
pub scaled : (x : Float) (s : Bool) (n c : ℕ) → HasValue x s n 1 → HasValue x s (n * c) c
scaled nan s n c v = absurd v
scaled (inf t) s n c v = absurd v
scaled (fin t m e) s n c v =
    (v.0, ap (λ (z : ℕ). z * c) (sym (mul-one (m * up e)) ∙ v.1) ∙ mul_right_comm n (down e) c)
