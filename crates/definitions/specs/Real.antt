-- "Arithmetic that replaces nalgebra": binary64 of the kit's IEEE 754 account, bit for bit. `≡` tells -0 from +0.
use Rattle.std.specs.Prelude.{ℕ, zero, suc, ◌+◌, ◌-◌, ◌*◌, ◌/◌, ◌%◌, ◌^◌, ◌≤◌, ◌<◌, ◌≡◌, Bool, true, false, ◌&&◌, cond, get_or, T, leb, ℤ, Float}
use mathlib.Core.List.{List, [], ◌∷◌, foldl}
use Rattle.std.proofs.Math.Option.{Option, none, some}
use Rattle.std.specs.Float.{nan, inf, fin, binary64}
use Rattle.std.specs.Float.Ieee.{up, down, size, round, add, sub, mul, div, lt, of_int, of_bits, to_bits, fits}
use Rattle.definitions.specs.declared.Position.{Position}
use Rattle.definitions.specs.Matrix.{Matrix, at, mat, cofactor, det, next, after}

abbrev pub RealMatrix : Type 0
RealMatrix = List (List Float)

-- a literal of the code is its bit pattern
abbrev pub zero_f : Float
zero_f = of_bits binary64 0

abbrev pub one_f : Float
one_f = of_bits binary64 0x3FF0000000000000

-- ---- sums

-- "In a row sum every product and sum is rounded once, left to right. Row sums begin with the first product"
abbrev pub row_sum : Float → Float → Float → Float → Float → Float → Float
row_sum a b c x y z = add binary64 (add binary64 (mul binary64 a x) (mul binary64 b y)) (mul binary64 c z)

abbrev pub at_f : RealMatrix → ℕ → ℕ → Float
at_f m i j = get_or (get_or m i []) j nan

abbrev pub mul_f : RealMatrix → RealMatrix → RealMatrix
mul_f a b = mat (λ i j. row_sum (at_f a i 0) (at_f a i 1) (at_f a i 2) (at_f b 0 j) (at_f b 1 j) (at_f b 2 j))

abbrev pub transpose_f : RealMatrix → RealMatrix
transpose_f m = mat (λ i j. at_f m j i)

-- a matrix times a position
abbrev pub apply_f : RealMatrix → Position → Position
apply_f m p =
    record {
      x = row_sum (at_f m 0 0) (at_f m 0 1) (at_f m 0 2) p.x p.y p.z;
      y = row_sum (at_f m 1 0) (at_f m 1 1) (at_f m 1 2) p.x p.y p.z;
      z = row_sum (at_f m 2 0) (at_f m 2 1) (at_f m 2 2) p.x p.y p.z;
    }

-- coordinate by coordinate
abbrev pub add_p : Position → Position → Position
add_p p q = record { x = add binary64 p.x q.x; y = add binary64 p.y q.y; z = add binary64 p.z q.z }

abbrev pub sub_p : Position → Position → Position
sub_p p q = record { x = sub binary64 p.x q.x; y = sub binary64 p.y q.y; z = sub binary64 p.z q.z }

abbrev pub map_p : (Float → Float) → Position → Position
map_p f p = record { x = f p.x; y = f p.y; z = f p.z }

abbrev pub origin : Position
origin = record { x = zero_f; y = zero_f; z = zero_f }

-- "sums over rotations or targets begin at 0"
abbrev pub sum_p : List Position → Position
sum_p = foldl add_p origin

abbrev pub add_m : RealMatrix → RealMatrix → RealMatrix
add_m a b = mat (λ i j. add binary64 (at_f a i j) (at_f b i j))

abbrev pub sum_m : List RealMatrix → RealMatrix
sum_m = foldl add_m (mat (λ i j. zero_f))

-- a whole number, and a matrix of them, as floats
abbrev pub real_of : ℤ → Float
real_of k = of_int binary64 k

abbrev pub real : Matrix → RealMatrix
real m = mat (λ i j. real_of (at m i j))

-- "the float inverse of C is cofactor / determinant, one division an entry": 0 over a negative determinant is -0
abbrev pub inverse_of_c : Matrix → RealMatrix
inverse_of_c c = mat (λ i j. div binary64 (real_of (cofactor c j i)) (real_of (det c)))

-- ---- rounding to a whole number

-- The magnitude of a finite float in units of 2 ^ -1074, of which each is a whole number; 1 is 2 ^ 1074 of them.
unfoldable pub units_of : Float → ℕ
units_of nan = 0
units_of (inf s) = 0
units_of (fin s m e) = m * up e * 2 ^ 1074 / down e

abbrev pub is_finite : Float → Bool
is_finite nan = false
is_finite (inf s) = false
is_finite (fin s m e) = true

-- whether the sign is minus; a NaN has none
abbrev pub negative : Float → Bool
negative nan = false
negative (inf s) = s
negative (fin s m e) = s

-- "nearest whole number, ties away from zero, sign of zero retained", as IEEE 754's roundToIntegralTiesToAway has it of
-- a finite x, about magnitudes:
-- r is whole, no further than a half above |x|, less than a half below it (at a half below, the other neighbour is the
-- one away from zero), with x's sign.
pub record NearestWhole (x r : Float) : Type 0 where
  pub fit : T (fits binary64 r)
  pub finite : T (is_finite r)
  pub sign : negative r ≡ negative x
  pub whole : (n : ℕ) × (units_of r ≡ n * 2 ^ 1074)
  pub above : 2 * units_of r ≤ 2 * units_of x + 2 ^ 1074
  pub below : 2 * units_of x < 2 * units_of r + 2 ^ 1074

-- r is what `round` gives of x; a NaN and an infinity are themselves
unfoldable pub IsRound : Float → Float → Type 0
IsRound nan r = r ≡ nan
IsRound (inf s) r = r ≡ inf s
IsRound (fin s m e) r = NearestWhole (fin s m e) r

-- the same computed: the magnitude and a half, cut to a whole number
unfoldable pub round_away : Float → Float
round_away nan = nan
round_away (inf s) = inf s
round_away (fin s m e) = round binary64 s ((2 * (m * up e) + down e) / (2 * down e)) 1

-- ---- square root

-- "Square root is IEEE 754's correctly rounded one", of a finite x above 0: r is finite and above 0, and x lies
-- strictly between the squares of the mid-points
-- from r to any other float y that is finite and not negative. So no other float is as near to the root of x.
pub record NearestRoot (x r : Float) : Type 0 where
  pub fit : T (fits binary64 r)
  pub finite : T (is_finite r)
  pub sign : negative r ≡ false
  pub above :
      (y : Float) → T (fits binary64 y) → T (is_finite y) → units_of r < units_of y →
      4 * (units_of x * 2 ^ 1074) < (units_of r + units_of y) ^ 2
  pub below :
      (y : Float) → T (fits binary64 y) → T (is_finite y) → units_of y < units_of r →
      (units_of r + units_of y) ^ 2 < 4 * (units_of x * 2 ^ 1074)

-- r is the square root of x; a zero and +infinity are their own, and what is below 0 has none
unfoldable pub IsSqrt : Float → Float → Type 0
IsSqrt nan r = r ≡ nan
IsSqrt (inf false) r = r ≡ inf false
IsSqrt (inf true) r = r ≡ nan
IsSqrt (fin s zero e) r = r ≡ fin s zero e
IsSqrt (fin false (suc m) e) r = NearestRoot (fin false (suc m) e) r
IsSqrt (fin true (suc m) e) r = r ≡ nan

-- The same computed. The whole root of n, cut, for an n below 4 ^ d: a binary digit a step.
unfoldable pub root_cut : ℕ → ℕ → ℕ
root_cut zero n = 0
root_cut (suc d) n = let q = root_cut d (n / 4) in cond (leb ((2 * q + 1) * (2 * q + 1)) n) (2 * q + 1) (2 * q)

-- For the significand t from 2 ^ 52 below 2 ^ 53 and the exponent's field y - 1073, the pattern of the root: 54 digits
-- of it, the last rounded away.
unfoldable pub root_pattern : ℕ → ℕ → ℕ
unfolding root_cut
root_pattern t y = (y / 2 - 26) * 2 ^ 52 + (root_cut 54 (t * 2 ^ (y % 2) * 4 ^ 27) + 1) / 2

-- by the pattern's two fields; the digits of a subnormal are moved up until the first stands at 2 ^ 52
unfoldable pub root_of_fields : ℕ → ℕ → ℕ
unfolding root_pattern size
root_of_fields zero t = root_pattern (t * 2 ^ (53 - size t)) (1074 - (53 - size t))
root_of_fields (suc x) t = root_pattern (2 ^ 52 + t) (suc x + 1073)

unfoldable pub sqrt : Float → Float
unfolding root_of_fields
sqrt nan = nan
sqrt (inf false) = inf false
sqrt (inf true) = nan
sqrt (fin s zero e) = fin s zero e
sqrt (fin false (suc m) e) =
    let b = to_bits binary64 (fin false (suc m) e) in
    of_bits binary64 (root_of_fields (b / 2 ^ 52) (b % 2 ^ 52))
sqrt (fin true (suc m) e) = nan

-- "Norm is the root of (a² + b²) + c²"
abbrev pub norm : Position → Float
norm p = sqrt (row_sum p.x p.y p.z p.x p.y p.z)

-- ---- factors, determinant, inverse

-- the lower triangle, row by row
abbrev pub lower : Float → Float → Float → Float → Float → Float → RealMatrix
lower a b c d e f = (a ∷ zero_f ∷ zero_f ∷ []) ∷ (b ∷ c ∷ zero_f ∷ []) ∷ (d ∷ e ∷ f ∷ []) ∷ []

-- "a pivot not above 0": a NaN is not above 0
abbrev pub above0 : Float → Bool
above0 x = lt zero_f x

-- "Cholesky works row by row on the lower triangle: subtract earlier products in index order, then root or divide."
-- None where it "meets a pivot not above 0".
unfoldable pub cholesky : RealMatrix → Option RealMatrix
cholesky g =
    let l00 = sqrt (at_f g 0 0) in
    let l10 = div binary64 (at_f g 1 0) l00 in
    let p1 = sub binary64 (at_f g 1 1) (mul binary64 l10 l10) in
    let l11 = sqrt p1 in
    let l20 = div binary64 (at_f g 2 0) l00 in
    let l21 = div binary64 (sub binary64 (at_f g 2 1) (mul binary64 l20 l10)) l11 in
    let p2 = sub binary64 (sub binary64 (at_f g 2 2) (mul binary64 l20 l20)) (mul binary64 l21 l21) in
    cond (above0 (at_f g 0 0) && above0 p1 && above0 p2) (some (lower l00 l10 l11 l20 l21 (sqrt p2))) none

-- a b - c d
abbrev pub minor_f : Float → Float → Float → Float → Float
minor_f a b c d = sub binary64 (mul binary64 a b) (mul binary64 c d)

-- "A float determinant is m11(m22 m33 - m32 m23) - m12(m21 m33 - m31 m23) + m13(m21 m32 - m31 m22)"
abbrev pub det_f : RealMatrix → Float
det_f m =
    add binary64
    (sub binary64
    (mul binary64 (at_f m 0 0) (minor_f (at_f m 1 1) (at_f m 2 2) (at_f m 2 1) (at_f m 1 2)))
    (mul binary64 (at_f m 0 1) (minor_f (at_f m 1 0) (at_f m 2 2) (at_f m 2 0) (at_f m 1 2))))
    (mul binary64 (at_f m 0 2) (minor_f (at_f m 1 0) (at_f m 2 1) (at_f m 2 0) (at_f m 1 1)))

-- the cofactor of the entry in row i and column j, "a signed difference of two products": the sign is that of the
-- cyclic order
abbrev pub cofactor_f : RealMatrix → ℕ → ℕ → Float
cofactor_f m i j =
    minor_f (at_f m (next i) (next j)) (at_f m (after i) (after j)) (at_f m (after i) (next j)) (at_f m (next i) (after j))

-- "A float inverse divides each cofactor by that determinant"
abbrev pub inverse_f : RealMatrix → RealMatrix
inverse_f m = mat (λ i j. div binary64 (cofactor_f m j i) (det_f m))
