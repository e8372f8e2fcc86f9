-- How large the entries of a matrix make its cofactors, its determinant and its inverse.
use Prim.Native.Nat.{ℕ, zero, suc, ◌*◌, ◌≤◌, zero-le}
use mathlib.Core.Path.{◌≡◌, refl}
use mathlib.Core.Bool.{Bool, true, false, cond}
use native.Mathlib.Omega.{arith}
use lib.Dec.{eqb}
use lib.IntN.{ℤ, pos, nat_abs, ◌+ℤ◌, ◌*ℤ◌}
use borrow.Author.Tests.{eqb-true}
use Rattle.definitions.specs.Matrix.{Matrix, at, mat, item, three, dot, mul_m, cofactor, det, next, after, unit}
use Rattle.math_matrix.specs.Bounds.{abs-add, abs-sub, abs-mul_le}

-- no entry is larger than n
abbrev pub Bound : ℕ → Matrix → Type 0
Bound n m = (i j : ℕ) → nat_abs (at m i j) ≤ n

pub dot-abs : (n k : ℕ) (x y z a b c : ℤ) → nat_abs x ≤ n → nat_abs y ≤ n → nat_abs z ≤ n → nat_abs a ≤ k → nat_abs b ≤ k → nat_abs c ≤ k → nat_abs (dot x y z a b c) ≤ 3 * (n * k)
dot-abs n k x y z a b c f g h u v w =
    let p = abs-mul_le x a n k f u in
    let q = abs-mul_le y b n k g v in
    let r = abs-mul_le z c n k h w in
    omega (arith, abs-add (x *ℤ a) (y *ℤ b), abs-add (x *ℤ a +ℤ y *ℤ b) (z *ℤ c))

cofactor-abs : (n : ℕ) (m : Matrix) → Bound n m → (i j : ℕ) → nat_abs (cofactor m i j) ≤ 2 * (n * n)
cofactor-abs n m h i j =
    let p = abs-mul_le (at m (next i) (next j)) (at m (after i) (after j)) n n (h (next i) (next j)) (h (after i) (after j)) in
    let q = abs-mul_le (at m (next i) (after j)) (at m (after i) (next j)) n n (h (next i) (after j)) (h (after i) (next j)) in
    omega (arith, abs-sub (at m (next i) (next j) *ℤ at m (after i) (after j)) (at m (next i) (after j) *ℤ at m (after i) (next j)))

pub det-abs : (n : ℕ) (m : Matrix) → Bound n m → nat_abs (det m) ≤ 3 * (n * (2 * (n * n)))
det-abs n m h =
    let k = cofactor-abs n m h in
    dot-abs n (2 * (n * n)) (at m 0 0) (at m 0 1) (at m 0 2) (cofactor m 0 0) (cofactor m 0 1) (cofactor m 0 2) (h 0 0) (h 0 1) (h 0 2) (k 0 0) (k 0 1) (k 0 2)

-- what holds of 0 and of three numbers holds of each item
three-all : (P : ℤ → Type 0) (f : ℕ → ℤ) → P (pos 0) → ((j : ℕ) → P (f j)) → (j : ℕ) → P (item (three f) j)
three-all P f z h zero = h 0
three-all P f z h (suc zero) = h 1
three-all P f z h (suc (suc zero)) = h 2
three-all P f z h (suc (suc (suc j))) = z

pub mat-all : (P : ℤ → Type 0) (f : ℕ → ℕ → ℤ) → P (pos 0) → ((i j : ℕ) → P (f i j)) → (i j : ℕ) → P (at (mat f) i j)
mat-all P f z h zero = three-all P (f 0) z (h 0)
mat-all P f z h (suc zero) = three-all P (f 1) z (h 1)
mat-all P f z h (suc (suc zero)) = three-all P (f 2) z (h 2)
mat-all P f z h (suc (suc (suc i))) = λ j. z

pub unit-abs : (z : ℤ) → nat_abs (unit z) ≤ 1
unit-abs z = by (eqb (nat_abs z) 1) refl
  where
    by : (b : Bool) → eqb (nat_abs z) 1 ≡ b → nat_abs (cond b z (pos 0)) ≤ 1
    by true e = omega (arith, eqb-true (nat_abs z) 1 e)
    by false e = omega arith

-- 16 bits times 8 fit 32
pub product_small : (a b : Matrix) → Bound 32768 a → Bound 128 b → Bound 2147483647 (mul_m a b)
product_small a b l g =
    mat-all
    (λ z. nat_abs z ≤ 2147483647)
    (λ i j. dot (at a i 0) (at a i 1) (at a i 2) (at b 0 j) (at b 1 j) (at b 2 j))
    zero-le
    (λ i j. omega (arith, dot-abs 32768 128 (at a i 0) (at a i 1) (at a i 2) (at b 0 j) (at b 1 j) (at b 2 j) (l i 0) (l i 1) (l i 2) (g 0 j) (g 1 j) (g 2 j)))
