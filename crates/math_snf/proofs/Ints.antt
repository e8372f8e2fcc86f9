-- Whole numbers in bits, and tests of their sign.
use Prim.Native.Nat.{ℕ, ◌<◌, ◌^◌, zero-le}
use mathlib.Core.Path.{◌≡◌, refl, sym, ap, ◌∙◌}
use native.Mathlib.Omega.{arith}
use lib.IntN.{ℤ, pos, negsuc, nat_abs}
use mathlib.Core.Bool.{true, false}
use borrow.Author.Tests.{le-leb}
use Rattle.math_matrix.specs.Bounds.{back}
use lib.Signed.{mag, le_z}
use mir.Syntax.{w32}
use mir.Val.{hbits, to_z, of_z}

pub zero_32 : (z : ℤ) → mag z < 2 ^ hbits w32 → of_z w32 z ≡ 0 → z ≡ pos 0
zero_32 z h e = sym (back w32 z h) ∙ ap (to_z w32) e

-- a test of the sign
pub not_below_0 : (z : ℤ) → le_z (pos 0) z ≡ true → z ≡ pos (nat_abs z)
not_below_0 (pos n) e = refl
not_below_0 (negsuc n) e = let x : ◌≡◌ {A = ℕ} 0 1 = cc in absurd (omega arith)

pub below_0 : (z : ℤ) → le_z (pos 0) z ≡ false → z ≡ negsuc (mag z)
below_0 (pos n) e = let x : ◌≡◌ {A = ℕ} 0 1 = cc (le-leb 0 n zero-le) in absurd (omega arith)
below_0 (negsuc n) e = refl
