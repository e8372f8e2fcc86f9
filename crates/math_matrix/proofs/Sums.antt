-- What a function computes fits its width, so it is read back as it was computed.
use Prim.Native.Nat.{ℕ, ◌≤◌, ◌<◌, ◌^◌}
use mathlib.Core.Path.{◌≡◌, sym, subst, ◌∙◌}
use mathlib.Core.List.{List}
use native.Mathlib.Omega.{arith}
use lib.IntN.{ℤ, nat_abs, ◌+ℤ◌, ◌*ℤ◌}
use lib.Signed.{mag}
use mir.Syntax.{Width, w16, w32, w64}
use mir.Val.{SFits, hbits, to_z, of_z}
use mir.ValLaws.{to_z-of_z}
use Rattle.definitions.specs.Matrix.{item}
use Rattle.math_matrix.specs.Bounds.{abs-add, abs-mul_le, abs_fits, fits_abs, back}
use Rattle.math_matrix.specs.Rows.{dot_of}
use Rattle.math_matrix.proofs.Sizes.{dot-abs}

-- what is read of a number stored in the width w
abbrev pub read : Width → ℤ → ℤ
read w z = to_z w (of_z w z)

-- a number is what it is known to be, where that fits
pub is_fits : {w : Width} {z v : ℤ} → z ≡ v → SFits w v → SFits w z
is_fits {w} e f = subst (SFits w) (sym e) f

pub is_back : (w : Width) {z v : ℤ} → z ≡ v → SFits w v → read w z ≡ v
is_back w {z} e f = to_z-of_z w z (is_fits e f) ∙ e

-- the result of a call is what it ensures
pub told : (w : Width) {z v : ℤ} → mag z < 2 ^ hbits w → z ≡ v → read w z ≡ v
told w {z} h e = back w z h ∙ e

-- a number of the width v as one of the width w, which holds it
pub cast_fits : (v w : Width) {z : ℤ} → SFits v z → SFits w z → SFits w (read v z)
cast_fits v w {z} f g = is_fits (to_z-of_z v z f) g

pub cast_back : (v w : Width) {z : ℤ} → SFits v z → SFits w z → read w (read v z) ≡ z
cast_back v w {z} f g = is_back w (to_z-of_z v z f) g

-- ---- products

-- the result z of a call that multiplies stored numbers
pub told_product : (u v w : Width) {a b z : ℤ} → SFits u a → SFits v b → mag z < 2 ^ hbits w → z ≡ read u a *ℤ read v b → read w z ≡ a *ℤ b
told_product u v w {a} {b} f g h e = told w h (e ∙ (λ i. to_z-of_z u a f i *ℤ to_z-of_z v b g i))

-- ---- the sums of the products p, q and r of the rows x and a

module _ (x a : List ℤ) (f : (j : ℕ) → SFits w32 (item x j)) (g : (j : ℕ) → SFits w16 (item a j)) where
  k : (j : ℕ) → nat_abs (item x j) ≤ 2147483648
  k j = abs_fits w32 (item x j) (f j)

  l : (j : ℕ) → nat_abs (item a j) ≤ 32768
  l j = abs_fits w16 (item a j) (g j)

  two_fit : SFits w64 (item x 0 *ℤ item a 0 +ℤ item x 1 *ℤ item a 1)
  two_fit =
      let small : (j : ℕ) → nat_abs (item x j *ℤ item a j) ≤ 70368744177664 = λ j. abs-mul_le (item x j) (item a j) 2147483648 32768 (k j) (l j) in
      fits_abs w64 _ (omega (arith, small 0, small 1, abs-add (item x 0 *ℤ item a 0) (item x 1 *ℤ item a 1)))

  dot_fits : SFits w64 (dot_of x a)
  dot_fits =
      fits_abs w64 _ (omega (arith, dot-abs 2147483648 32768 (item x 0) (item x 1) (item x 2) (item a 0) (item a 1) (item a 2) (k 0) (k 1) (k 2) (l 0) (l 1) (l 2)))

  module _ {p q : ℤ} (d : p ≡ item x 0 *ℤ item a 0) (e : q ≡ item x 1 *ℤ item a 1) where
    pub sum-two : SFits w64 (p +ℤ q)
    sum-two = is_fits (λ i. d i +ℤ e i) two_fit

    module _ {r : ℤ} (o : r ≡ item x 2 *ℤ item a 2) where
      sum-all : read w64 (p +ℤ q) +ℤ r ≡ dot_of x a
      sum-all = λ i. is_back w64 (λ i. d i +ℤ e i) two_fit i +ℤ o i

      pub sum-three : SFits w64 (read w64 (p +ℤ q) +ℤ r)
      sum-three = is_fits sum-all dot_fits

      pub sum_is : read w64 (read w64 (p +ℤ q) +ℤ r) ≡ dot_of x a
      sum_is = is_back w64 sum-all dot_fits
