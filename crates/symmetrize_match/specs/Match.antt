-- The match of a candidate whose space is worked out already, as the code has it: M, L, R and D's diagonal as floats.
-- It is the definitions' match: `match_is`.
use Rattle.std.specs.Prelude.{ℕ, zero, suc, ◌*◌, ◌^◌, ◌≤◌, ◌<◌, ◌≡◌, Bool, true, false, ◌&&◌, length, get_or, ℤ, pos, negsuc, nat_abs, Float}
use Rattle.std.proofs.Math.Path.{refl, ap}
use Rattle.std.proofs.Common.{sym, ◌∙◌, subst, mul-pos, zero-lt-suc, arith, ne_eqb}
use Rattle.std.proofs.Math.Bool.{cond}
use mathlib.Core.List.{List, [], ◌∷◌, map}
use Rattle.std.specs.Float.{nan, inf, fin, binary64}
use Rattle.std.specs.Float.Ieee.{up, down, round, div, eq, lt, le, of_int, of_bits}
use Rattle.std.specs.Float.Ieee.Fits.{down_pos}
use Rattle.std.specs.Float.Ieee.Exact.{HasValue}
use Rattle.std.specs.Float.Ieee.Back.{round_whole}
use Rattle.definitions.specs.declared.Position.{Position}
use Rattle.std.specs.Prelude.{Option, Some, None}
use Rattle.definitions.specs.declared.Fit.{Fit}
use Rattle.definitions.specs.Matrix.{Matrix, at}
use Rattle.definitions.specs.Real.{RealMatrix, zero_f, real_of, real, row_sum, apply_f, add_p, sub_p, sqrt}
use Rattle.definitions.specs.Cell.{point_of}
use Rattle.definitions.specs.Wyckoff.{Space, quotient, quotients, residual, distance, fits_at, match_from, match_of, offsets}
use Rattle.symmetrize_match.specs.declared.RealSpace.{RealSpace}

-- ---- the definitions over floats

abbrev pub space_of : RealMatrix → Position → Position → RealMatrix → RealMatrix → RealSpace
space_of matrix shift diagonal left right = record { matrix = matrix; shift = shift; diagonal = diagonal; left = left; right = right }

-- "divide by dᵢ, or 0 where dᵢ is 0"
unfoldable pub quotient_real : Float → Float → Float
quotient_real d b = cond (eq d zero_f) zero_f (div binary64 b d)

abbrev pub quotients_real : Position → Position → Position
quotients_real d b = record { x = quotient_real d.x b.x; y = quotient_real d.y b.y; z = quotient_real d.z b.z }

-- "t = (o + p) - q; b = L·t; divide by dᵢ ..": what R is applied to
unfoldable pub divided_real : RealSpace → Position → Position → Position
divided_real s o p = quotients_real s.diagonal (apply_f s.left (sub_p (add_p o p) s.shift))

-- "y = R·that", and M·y
unfoldable pub moved_real : RealSpace → Position → Position → Position
moved_real s o p = apply_f s.matrix (apply_f s.right (divided_real s o p))

-- "e = ((M·y + q) - p) - o"
unfoldable pub residual_real : RealSpace → Position → Position → Position
residual_real s o p = sub_p (sub_p (add_p (moved_real s o p) s.shift) p) o

-- (a² + b²) + c²
abbrev pub square : Position → Float
square w = row_sum w.x w.y w.z w.x w.y w.z

-- of basis·e: "norm" is its root
unfoldable pub square_real : RealMatrix → RealSpace → Position → Position → Float
square_real basis s p o = square (apply_f basis (residual_real s o p))

abbrev pub fit : ℕ → Float → Fit
fit k d = record { place = k; distance = d }

-- the first of the squares whose root is strictly below symprec, their places counted from k
unfoldable pub first_near : Float → ℕ → List Float → Option Fit
first_near symprec k [] = None
first_near symprec k (a ∷ l) = cond (lt (sqrt a) symprec) (Some (fit k (sqrt a))) (first_near symprec (suc k) l)

-- what is no less than b has a root that is not below symprec
pub record IsBound (symprec b : Float) : Type 0 where
  pub above : le zero_f b ≡ true
  pub root : lt (sqrt b) symprec ≡ false

unfoldable pub squares_real : RealMatrix → RealSpace → Position → List Float
squares_real basis s p = map (λ o. square_real basis s p (point_of o)) offsets

unfoldable pub match_real : RealMatrix → Float → RealSpace → Position → Option Fit
match_real basis symprec s p = first_near symprec 0 (squares_real basis s p)

-- ---- offsets in columns

-- every dᵢ is 0
abbrev pub zero_diagonal : Position → Bool
zero_diagonal d = eq d.x zero_f && eq d.y zero_f && eq d.z zero_f

-- a row times a position
abbrev pub row_times : List Float → Position → Float
row_times r p = row_sum (get_or r 0 nan) (get_or r 1 nan) (get_or r 2 nan) p.x p.y p.z

-- a number for each of n places
pub record Column (n : ℕ) (f : ℕ → Float) (l : List Float) : Type 0 where
  pub long : length l ≡ n
  pub each : (i : ℕ) → i < n → get_or l i nan ≡ f i

-- the position at place i of three lists of coordinates
abbrev pub cell : List Float → List Float → List Float → ℕ → Position
cell xs ys zs i = record { x = get_or xs i nan; y = get_or ys i nan; z = get_or zs i nan }

-- a position for each of n places, an axis a column
pub record Columns (n : ℕ) (f : ℕ → Position) (xs ys zs : List Float) : Type 0 where
  pub x : Column n (λ i. (f i).x) xs
  pub y : Column n (λ i. (f i).y) ys
  pub z : Column n (λ i. (f i).z) zs

-- the match by squares, one for each of n places, counted from k
pub record NearColumn (symprec : Float) (k n : ℕ) (f : ℕ → Float) (r : Option Fit) : Type 0 where
  pub squares : List Float
  pub column : Column n f squares
  pub near : r ≡ first_near symprec k squares

-- ---- they are the definitions of document 01

-- a space's whole numbers as floats
abbrev pub diagonal_of : Matrix → Position
diagonal_of d = record { x = real_of (at d 0 0); y = real_of (at d 1 1); z = real_of (at d 2 2) }

abbrev pub real_space : Space → RealSpace
real_space s = space_of (real s.matrix) s.shift (diagonal_of s.snf.d) (real s.snf.l) (real s.snf.r)

zero_is : zero_f ≡ fin false zero (pos 0)
unfolding of_bits
zero_is = refl

zero_whole : real_of (pos 0) ≡ zero_f
unfolding of_int of_bits round
zero_whole = refl

-- a float whose magnitude is a whole number above 0 is no zero
value_not_zero : (x : Float) (s : Bool) (n : ℕ) → HasValue x s (suc n) 1 → eq x (fin false zero (pos 0)) ≡ false
unfolding eq
value_not_zero nan s n v = absurd v
value_not_zero (inf t) s n v = absurd v
value_not_zero (fin t m e) s n v = rw (ne_eqb (m * up e * 1) (0 * down e) differ)
  where
    differ : m * up e * 1 ≡ 0 * down e → ⊥
    differ h = let k : 0 < suc n * down e = mul-pos (zero-lt-suc n) (down_pos e) in omega (arith, v.1)

-- a whole number that a float counts
abbrev pub Counted : ℤ → Type 0
Counted z = nat_abs z ≤ 2 ^ 53

not_zero : (s : Bool) (n : ℕ) → suc n ≤ 2 ^ 53 → eq (round binary64 s (suc n) 1) zero_f ≡ false
not_zero s n h = subst (λ z. eq (round binary64 s (suc n) 1) z ≡ false) (sym zero_is) (value_not_zero (round binary64 s (suc n) 1) s n (round_whole binary64 s (suc n) h))

zero_equals : eq zero_f zero_f ≡ true
unfolding eq of_bits
zero_equals = refl

quotient_is : (d : ℤ) (b : Float) → Counted d → quotient_real (real_of d) b ≡ quotient d b
unfolding quotient_real of_int
quotient_is (pos zero) b h = rw zero_whole (ap (λ t. cond t zero_f (div binary64 b zero_f)) zero_equals)
quotient_is (pos (suc n)) b h = ap (λ t. cond t zero_f (div binary64 b (real_of (pos (suc n))))) (not_zero false n h)
quotient_is (negsuc n) b h = ap (λ t. cond t zero_f (div binary64 b (real_of (negsuc n)))) (not_zero true n h)

by_cases : (b : Bool) (m n : Option Fit) → cond b m n ≡ elim b [ true ↦ m | false ↦ n ]
by_cases true m n = refl
by_cases false m n = refl

-- D's diagonal
abbrev pub CountedDiagonal : Matrix → Type 0
CountedDiagonal d = Counted (at d 0 0) × Counted (at d 1 1) × Counted (at d 2 2)

module _ (s : Space) (counted : CountedDiagonal s.snf.d) where
  quotients_are : (b : Position) → quotients_real (diagonal_of s.snf.d) b ≡ quotients s.snf.d b
  quotients_are b = λ i.
      record {
        x = quotient_is (at s.snf.d 0 0) b.x counted.0 i;
        y = quotient_is (at s.snf.d 1 1) b.y counted.1 i;
        z = quotient_is (at s.snf.d 2 2) b.z counted.2 i;
      }

  residual_is : (o p : Position) → residual_real (real_space s) o p ≡ residual s o p
  unfolding residual_real moved_real divided_real residual
  residual_is o p =
      ap (λ v. sub_p (sub_p (add_p (apply_f (real s.matrix) (apply_f (real s.snf.r) v)) s.shift) p) o)
      (quotients_are (apply_f (real s.snf.l) (sub_p (add_p o p) s.shift)))

  module _ (basis : RealMatrix) (symprec : Float) (p : Position) where
    distance_is : (o : List ℤ) → sqrt (square_real basis (real_space s) p (point_of o)) ≡ distance basis s p o
    unfolding square_real distance
    distance_is o = ap (λ e. sqrt (square (apply_f basis e))) (residual_is (point_of o) p)

    from_is : (k : ℕ) (os : List (List ℤ)) → first_near symprec k (map (λ o. square_real basis (real_space s) p (point_of o)) os) ≡ match_from basis symprec s p k os
    unfolding first_near match_from fits_at
    from_is k [] = refl
    from_is k (o ∷ os) =
        ap (λ a. cond (lt a symprec) (Some (fit k a)) (first_near symprec (suc k) (map (λ o. square_real basis (real_space s) p (point_of o)) os))) (distance_is o)
        ∙ ap (cond (lt (distance basis s p o) symprec) (Some (fit k (distance basis s p o)))) (from_is (suc k) os)
        ∙ by_cases (lt (distance basis s p o) symprec) (Some (fit k (distance basis s p o))) (match_from basis symprec s p (suc k) os)

    pub match_is : match_real basis symprec (real_space s) p ≡ match_of basis symprec s p
    unfolding match_real squares_real match_of
    match_is = from_is 0 offsets
