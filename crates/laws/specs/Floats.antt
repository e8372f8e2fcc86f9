-- Floats by their values: what fits the format is known by its sign and its value, and is not rounded.
use Rattle.std.specs.Prelude.{ℕ, zero, suc, ◌+◌, ◌*◌, ◌-◌, ◌/◌, ◌%◌, ◌^◌, ◌≤◌, ◌<◌, ◌≡◌, refl, Bool, cond, ◌&&◌, T, eqb, ltb, leb, ℤ, pos, negsuc, Float}
use Rattle.std.proofs.Common.{sym, ◌∙◌, subst, arith, mul-one, mul-pos, mul_right_comm, le_trans, lt_irrefl, lt_of_lt_of_le, lt_of_not-le, eqb→eq, ltb→lt, leb→le, lit≤, lit<, pow-add, pow_pos, pow_mono, shl_lt}
use Rattle.std.proofs.Math.Path.{ap}
use Rattle.std.proofs.Math.Decide.{dec_le}
use Rattle.std.proofs.Math.Pow.{pow-lt}
use Rattle.std.specs.Float.{nan, inf, fin, binary64}
use Rattle.std.specs.Float.Ieee.{up, down, size, round, fits, of_bits, to_bits}
use Rattle.std.specs.Float.Ieee.Bits.{of_bits-to_bits}
use Rattle.std.specs.Float.Ieee.Exact.{HasValue, round_exact}
use Rattle.std.specs.Float.Ieee.Fits.{down_pos, and_l, and_r}
use Rattle.std.specs.Float.Ieee.Nearest.{div_same}

-- what `fits` says of m * 2 ^ e
pub record Fit (m : ℕ) (e : ℤ) : Type 0 where
  pub digits : m < 2 ^ 53
  pub fine : down e ≤ 2 ^ 1074
  pub is_in_range : m * up e < 2 ^ 1024 * down e

zero_fine : (e : ℤ) → up e * down e ≡ 1 → down e ≤ 1
zero_fine (pos k) h = lit≤ tt
zero_fine (negsuc k) h = at (2 ^ suc k) h
  where
    at : (d : ℕ) → 1 * d ≡ 1 → d ≤ 1
    at d h = omega arith

pub fit_of : (s : Bool) (m : ℕ) (e : ℤ) → T (fits binary64 (fin s m e)) → Fit m e
unfolding fits
fit_of s zero e t =
    record {
      digits = lit< tt;
      fine = le_trans (zero_fine e (eqb→eq (up e * down e) 1 t)) (lit≤ tt);
      is_in_range = subst (λ y. y < 2 ^ 1024 * down e) (sym (nothing (up e))) (mul-pos (pow_pos 1024) (down_pos e));
    }
  where
    nothing : (a : ℕ) → 0 * a ≡ 0
    nothing a = omega arith
fit_of s (suc m) e t =
    let odd = eqb (suc m % 2) 1 in
    let digits = ltb (suc m) (2 ^ 53) in
    let fine = leb (down e) (2 ^ 1074) in
    let range = ltb (suc m * up e) (2 ^ 1024 * down e) in
    let t₃ = and_l (odd && digits && fine) range t in
    record {
      digits = ltb→lt (suc m) (2 ^ 53) (and_r odd digits (and_l (odd && digits) fine t₃));
      fine = leb→le (down e) (2 ^ 1074) (and_r (odd && digits) fine t₃);
      is_in_range = ltb→lt (suc m * up e) (2 ^ 1024 * down e) (and_r (odd && digits && fine) range t);
    }

-- a denominator that fits divides 2 ^ 1074
pub record Divides (d : ℕ) : Type 0 where
  pub q : ℕ
  pub is : 2 ^ 1074 ≡ d * q
  pub some : 0 < q

unfoldable pub divides : (e : ℤ) → down e ≤ 2 ^ 1074 → Divides (down e)
divides (pos k) h = record { q = 2 ^ 1074; is = refl; some = pow_pos 1074 }
divides (negsuc k) h = record { q = 2 ^ (1074 - suc k); is = at 1074 h; some = pow_pos (1074 - suc k) }
  where
    few : (l : ℕ) → 2 ^ suc k ≤ 2 ^ l → suc k ≤ l
    few l h = by (dec_le (suc k) l)
      where
        by : Dec (suc k ≤ l) → suc k ≤ l
        by (yes p) = p
        by (no n) = absurd (lt_irrefl (2 ^ l) (lt_of_lt_of_le (pow-lt (lt_of_not-le n)) h))

    at : (l : ℕ) → 2 ^ suc k ≤ 2 ^ l → 2 ^ l ≡ 2 ^ suc k * 2 ^ (l - suc k)
    at l h =
        let p = few l h in
        let e : l ≡ suc k + (l - suc k) = omega arith in
        ap (λ y. 2 ^ y) e ∙ pow-add 2 (suc k) (l - suc k)

-- ---- a float is known by its sign and its value

same_value :
    (s : Bool) (m n : ℕ) (e d : ℤ) → T (fits binary64 (fin s m e)) → T (fits binary64 (fin s n d)) →
    m * up e * down d ≡ n * up d * down e → fin s m e ≡ fin s n d
same_value s m n e d f g h =
    sym (of_bits-to_bits binary64 (fin s m e) f)
    ∙ ap (of_bits binary64) bits
    ∙ of_bits-to_bits binary64 (fin s n d) g
  where
    -- the pattern of a sign and of units of 2 ^ -1074
    pattern : ℕ → ℕ
    pattern u = cond s (2 ^ 63) 0 + (size u - 53) * 2 ^ 52 + u / 2 ^ (size u - 53)

    cross : m * up e * 2 ^ 1074 * down d ≡ n * up d * 2 ^ 1074 * down e
    cross =
        mul_right_comm (m * up e) (2 ^ 1074) (down d)
        ∙ ap (λ (k : ℕ). k * 2 ^ 1074) h
        ∙ mul_right_comm (n * up d) (down e) (2 ^ 1074)

    units : m * up e * 2 ^ 1074 / down e ≡ n * up d * 2 ^ 1074 / down d
    units = div_same (m * up e * 2 ^ 1074) (down e) (n * up d * 2 ^ 1074) (down d) (down_pos e) (down_pos d) cross

    bits : to_bits binary64 (fin s m e) ≡ to_bits binary64 (fin s n d)
    bits = unfold to_bits in ap pattern units

pub by_value :
    (y : Float) (s : Bool) (m : ℕ) (e : ℤ) → T (fits binary64 y) → T (fits binary64 (fin s m e)) →
    HasValue y s (m * up e) (down e) → y ≡ fin s m e
by_value nan s m e f g v = absurd v
by_value (inf t) s m e f g v = absurd v
by_value (fin t n d) s m e f g v =
    ap (λ (b : Bool). fin b n d) v.0
    ∙ same_value s n m d e (subst (λ (b : Bool). T (fits binary64 (fin b n d))) v.0 f) g v.1

-- ---- what is not rounded

assoc_one : (a b c : ℕ) → a * b * c ≡ a * (b * c) * 1
assoc_one a b c = omega arith

-- a whole number of at most 53 leading digits, in the range, is a float's value
pub whole_value :
    (g : Bool) (n k : ℕ) → n < 2 ^ 53 → n * 2 ^ k < 2 ^ 1024 →
    HasValue (round binary64 g (n * 2 ^ k) 1) g (n * 2 ^ k) 1
whole_value g n k h l =
    let eq : n * 2 ^ k * 2 ^ 1074 ≡ n * 2 ^ (k + 1074) * 1 = rw (pow-add 2 k 1074) (assoc_one n (2 ^ k) (2 ^ 1074)) in
    let big : n * 2 ^ (k + 1074) < 2 ^ 2098 =
    subst (λ y. y < 2 ^ 2098) (eq ∙ mul-one (n * 2 ^ (k + 1074))) (shl_lt 1024 1074 l) in
    round_exact binary64 g (n * 2 ^ k) 1 n (k + 1074) (omega arith) h big eq

-- a float's own value is not rounded
pub own_value :
    (s : Bool) (m : ℕ) (e : ℤ) → T (fits binary64 (fin s m e)) →
    HasValue (round binary64 s (m * up e) (down e)) s (m * up e) (down e)
unfolding divides
own_value s m (pos k) f = let g = fit_of s m (pos k) f in whole_value s m k g.digits g.is_in_range
own_value s m (negsuc k) f =
    let g = fit_of s m (negsuc k) f in
    let d = divides (negsuc k) g.fine in
    round_exact binary64 s (m * 1) (2 ^ suc k) m (1074 - suc k) (down_pos (negsuc k)) g.digits
    (lt_of_lt_of_le (shl_lt 53 (1074 - suc k) g.digits)
    (pow_mono {i = 53 + (1074 - suc k)} {j = 2098} (within (suc k))))
    (ap (λ (z : ℕ). m * 1 * z) d.is ∙ turn m (2 ^ suc k) d.q)
  where
    within : (k : ℕ) → 53 + (1074 - k) ≤ 2098
    within k = omega arith

    turn : (m D Q : ℕ) → m * 1 * (D * Q) ≡ m * Q * D
    turn m D Q = omega arith
