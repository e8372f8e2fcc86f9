-- How large minors are: those of numbers of 16 bits fit 32, and those of 8 bits 16, so the inverse of a matrix of 8 bits has 16.
use Prim.Native.Nat.{ℕ, zero, suc, ◌+◌, ◌*◌, ◌≤◌, ◌<◌, zero-le}
use mathlib.Core.Path.{subst}
use native.Mathlib.Omega.{arith}
use native.Mathlib.Nat.{mul-le-mul, mul_comm, mul-lt-mul_of_pos_right, le_of_suc-le-suc}
use lib.IntN.{ℤ, pos, negsuc, neg_ℤ, nat_abs, ◌-ℤ◌, ◌*ℤ◌}
use lib.Signed.{mag}
use mir.Syntax.{w8, w16, w32}
use mir.Val.{SFits}
use Rattle.definitions.specs.Matrix.{Matrix, at, minor, cofactor, det, next, after, unit, inverse}
use Rattle.math_matrix.specs.Bounds.{abs_less, abs-sub, abs-mul_le, fits_abs}
use Rattle.math_matrix.proofs.Sizes.{Bound, mat-all, unit-abs}

-- u at the most, -v at the least
module _ (u v : ℕ) where
  abbrev Between : ℤ → Type 0
  Between (pos n) = n ≤ u
  Between (negsuc n) = n < v

  below_0 : (n : ℕ) → n ≤ v → Between (neg_ℤ (pos n))
  below_0 zero h = omega arith
  below_0 (suc n) h = omega arith

  less : v < u → (x y : ℤ) → Between x → Between y → nat_abs (x -ℤ y) < u + u
  less h (pos a) (pos b) f g = omega (arith, abs_less a b u f g)
  less h (pos a) (negsuc b) f g = omega (arith, abs-sub (pos a) (negsuc b))
  less h (negsuc a) (pos b) f g = omega (arith, abs-sub (negsuc a) (pos b))
  less h (negsuc a) (negsuc b) f g = omega (arith, abs-sub (negsuc a) (negsuc b))

-- numbers from -(m + 1) to m: a product is (m + 1)² at the most, and above -(m + 1)² since none is m + 1
module _ (m : ℕ) where
  between : (a b : ℤ) → mag a < suc m → mag b < suc m → Between (suc m * suc m) (m * suc m) (a *ℤ b)
  between (pos a) (pos b) f g =
      let h : a ≤ suc m = omega arith in
      let k : b ≤ suc m = omega arith in
      mul-le-mul h k
  between (pos a) (negsuc b) f g = below_0 (suc m * suc m) (m * suc m) (a * suc b) (mul-le-mul (le_of_suc-le-suc f) g)
  between (negsuc a) (pos b) f g =
      below_0 (suc m * suc m) (m * suc m) (suc a * b)
      (subst (λ k. suc a * b ≤ k) (mul_comm (suc m) m) (mul-le-mul f (le_of_suc-le-suc g)))
  between (negsuc a) (negsuc b) f g = mul-le-mul f g

  minor-abs :
      (a b c d : ℤ) → mag a < suc m → mag b < suc m → mag c < suc m → mag d < suc m →
      nat_abs (minor a b c d) < suc m * suc m + suc m * suc m
  minor-abs a b c d f g h k =
      let one : m < suc m = omega arith in
      let some : 0 < suc m = omega arith in
      less (suc m * suc m) (m * suc m) (mul-lt-mul_of_pos_right one some) (a *ℤ d) (b *ℤ c) (between a d f k) (between b c g h)

pub minor_fits : {a b c d : ℤ} → SFits w16 a → SFits w16 b → SFits w16 c → SFits w16 d → SFits w32 (minor a b c d)
minor_fits {a} {b} {c} {d} f g h k = fits_abs w32 (minor a b c d) (minor-abs 32767 a b c d f.sfits g.sfits h.sfits k.sfits)

pub inverse_small : (t : Matrix) → ((i j : ℕ) → SFits w8 (at t i j)) → Bound 32767 (inverse t)
inverse_small t f =
    mat-all (λ z. nat_abs z ≤ 32767) (λ i j. unit (det t) *ℤ cofactor t j i) zero-le
    (λ i j. abs-mul_le (unit (det t)) (cofactor t j i) 1 32767 (unit-abs (det t)) (small j i))
  where
    small : (i j : ℕ) → nat_abs (cofactor t i j) ≤ 32767
    small i j =
        le_of_suc-le-suc
        (minor-abs 127 (at t (next i) (next j)) (at t (next i) (after j)) (at t (after i) (next j)) (at t (after i) (after j))
        (f (next i) (next j)).sfits (f (next i) (after j)).sfits (f (after i) (next j)).sfits (f (after i) (after j)).sfits)
