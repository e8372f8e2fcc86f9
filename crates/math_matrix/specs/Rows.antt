-- What the functions on rows give.
use Rattle.std.specs.Prelude.{ℕ, suc, ◌≡◌, Bool, cond, List, [], ◌∷◌, ℤ, pos, negsuc, ◌*ℤ◌}
use Rattle.std.proofs.Common.{ap, arith, ne_eqb}
use Rattle.definitions.specs.Matrix.{Matrix, at, item, three, dot, minor, det, next, after, unit}
use Rattle.math_matrix.specs.Solve.{Expr, var, con, ◌⊖◌, ◌⊗◌, solve}
use Rattle.math_matrix.specs.Exprs.{entries, entries_e, dot_e, cofactor_e, det_e}

abbrev A : ℕ → ℕ → Expr
A = entries_e 0

-- the minors of the columns a and b, which is their vector product
abbrev pub cross_of : List ℤ → List ℤ → List ℤ
cross_of a b = three (λ i. minor (item a (next i)) (item b (next i)) (item a (after i)) (item b (after i)))

-- a row times a column
abbrev pub dot_of : List ℤ → List ℤ → ℤ
dot_of x a = dot (item x 0) (item x 1) (item x 2) (item a 0) (item a 1) (item a 2)

abbrev pub column : Matrix → ℕ → List ℤ
column m j = three (λ i. at m i j)

-- the determinant along the first column
pub det_minors : (m : Matrix) → dot_of (cross_of (column m 1) (column m 2)) (column m 0) ≡ det m
det_minors m = solve (entries m) (dot_e (cofactor_e A 0 0) (cofactor_e A 1 0) (cofactor_e A 2 0) (A 0 0) (A 1 0) (A 2 0)) (det_e A) tt

exchanged : (x y z w : ℤ) → minor y x w z ≡ negsuc 0 *ℤ minor x y z w
exchanged x y z w = solve (x ∷ y ∷ z ∷ w ∷ []) (var 1 ⊗ var 2 ⊖ var 0 ⊗ var 3) (con (negsuc 0) ⊗ (var 0 ⊗ var 3 ⊖ var 1 ⊗ var 2)) tt

-- the other way round with the other sign
pub cross_exchanged : (a b : List ℤ) → cross_of b a ≡ three (λ i. negsuc 0 *ℤ item (cross_of a b) i)
cross_exchanged a b = λ k. three (λ i. exchanged (item a (next i)) (item b (next i)) (item a (after i)) (item b (after i)) k)

pub unit_else : (k : ℤ) → (k ≡ pos 1 → ⊥) → (k ≡ negsuc 0 → ⊥) → unit k ≡ pos 0
unit_else (pos n) f g = ap (λ (b : Bool). cond b (pos n) (pos 0)) (ne_eqb n 1 (λ e. f (ap pos e)))
unit_else (negsuc n) f g = ap (λ (b : Bool). cond b (negsuc n) (pos 0)) (ne_eqb (suc n) 1 (λ e. let o : n ≡ 0 = omega arith in g (ap negsuc o)))
