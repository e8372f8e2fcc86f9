-- `round_away` depends on a float's value alone; the sign of a rounded number and its pattern.
use Prim.Native.Nat.{ℕ, zero, suc, ◌+◌, ◌*◌, ◌-◌, ◌/◌, ◌%◌, ◌^◌, ◌≤◌, ◌<◌, compare}
use Rattle.std.specs.Prelude.{◌≡◌, refl, Bool, true, false, not, cond, T, ltb, Float}
use Rattle.std.proofs.Common.{sym, ap, ◌∙◌, subst, arith, add-zero, mul-le-mul, le_of_suc-le-suc, div-lt_iff_lt-mul, pow_pos}
use Rattle.std.specs.Float.{nan, inf, fin, binary64}
use Rattle.std.specs.Int.{from_bool}
use Rattle.std.specs.Float.Ieee.{up, down, size, nearest, round, odd, units, neg, low, is_nan, to_bits}
use Rattle.std.specs.Float.Ieee.Fits.{down_pos, round_is}
use Rattle.std.specs.Float.Ieee.Exact.{HasValue}
use Rattle.std.specs.Float.Ieee.Back.{round_whole}
use Rattle.std.specs.Float.Ieee.Nearest.{div_same}
use Rattle.definitions.specs.Real.{round_away}

cross : (M D a c : ℕ) → M * c ≡ a * D → (2 * M + D) * (2 * c) ≡ (2 * a + c) * (2 * D)
cross M D a c h = omega arith

pub round_away_by_value : (x : Float) (s : Bool) (a c : ℕ) → 0 < c → HasValue x s a c → round_away x ≡ round binary64 s ((2 * a + c) / (2 * c)) 1
unfolding round_away
round_away_by_value nan s a c p h = absurd h
round_away_by_value (inf t) s a c p h = absurd h
round_away_by_value (fin t m e) s a c p h =
    rw (
      h.0,
      div_same (2 * (m * up e) + down e) (2 * down e) (2 * a + c) (2 * c) (omega (arith, down_pos e)) (omega arith) (cross (m * up e) (down e) a c h.1),
    )

-- the whole number nearest to d / 2 ^ s, a half up
abbrev pub nearest_part : ℕ → ℕ → ℕ
nearest_part d s = (2 * d + 2 ^ s) / (2 * 2 ^ s)

pub nearest_part_le : (d s b : ℕ) → d ≤ b → nearest_part d s ≤ b
nearest_part_le d s b h =
    le_of_suc-le-suc ((div-lt_iff_lt-mul {k = 2 * 2 ^ s} {x = 2 * d + 2 ^ s} {y = suc b} (omega (arith, pow_pos s))).1 (room (2 ^ s) (pow_pos s)))
  where
    room : (p : ℕ) → 0 < p → 2 * d + p < suc b * (2 * p)
    room p o = omega (arith, mul-le-mul h o)

-- ---- the sign goes through
neg_odd : (d q k l : ℕ) → neg (odd d false q k l) ≡ odd d true q k l
unfolding neg odd
neg_odd d zero k l = refl
neg_odd d (suc q) k l = refl

neg_units : (q k : ℕ) → neg (units binary64 false q k) ≡ units binary64 true q k
unfolding neg units
neg_units q k = by (ltb (q * 2 ^ k) (2 ^ (1074 + 1024)))
  where
    by : (b : Bool) → neg (cond b (odd 54 false q k 1074) (inf false)) ≡ cond b (odd 54 true q k 1074) (inf true)
    by true = neg_odd 54 q k 1074
    by false = refl

pub neg_round : (a c : ℕ) → neg (round binary64 false a c) ≡ round binary64 true a c
neg_round a c =
    let n = a * 2 ^ low binary64 in
    let k = size (n / c) - 53 in
    ap neg (round_is binary64 false a c)
    ∙ neg_units (nearest (n / (c * 2 ^ k)) (compare (n % (c * 2 ^ k) * 2) (c * 2 ^ k))) k
    ∙ sym (round_is binary64 true a c)

-- a float that is a whole number is a number
pub whole_number : (v : Float) (g : Bool) (n : ℕ) → HasValue v g n 1 → T (not (is_nan v))
unfolding is_nan
whole_number nan g n h = absurd h
whole_number (inf s) g n h = tt
whole_number (fin s m e) g n h = tt

-- the sign is the highest bit
neg_bits : (v : Float) (n : ℕ) → HasValue v false n 1 → to_bits binary64 v + 2 ^ 63 ≡ to_bits binary64 (neg v)
unfolding neg to_bits
neg_bits nan n h = absurd h
neg_bits (inf s) n h = absurd h
neg_bits (fin true m e) n h = absurd (subst T h.0 tt)
neg_bits (fin false m e) n h =
    let u = m * up e * 2 ^ 1074 / down e in
    let k = size u - 53 in
    above (k * 2 ^ 52) (u / 2 ^ k)
  where
    above : (a b : ℕ) → 0 + a + b + 2 ^ 63 ≡ 2 ^ 63 + a + b
    above a b = omega arith

pub signed_bits : (n : ℕ) (g : Bool) → n ≤ 2 ^ 53
    → to_bits binary64 (round binary64 false n 1) + from_bool g * 2 ^ 63 ≡ to_bits binary64 (round binary64 g n 1)
signed_bits n false h = add-zero (to_bits binary64 (round binary64 false n 1))
signed_bits n true h = neg_bits (round binary64 false n 1) n (round_whole binary64 false n h) ∙ ap (to_bits binary64) (neg_round n 1)
