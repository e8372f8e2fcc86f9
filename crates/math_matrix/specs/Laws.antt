-- The laws of three by three matrices. Most hold of any lists of lists, since Matrix's words read nine entries only and
-- give three rows of three.
use Rattle.std.specs.Prelude.{ℕ, ◌*◌, ◌<◌, ◌≡◌, refl, Bool, cond, List, [], ◌∷◌, ◌++◌, get_or, length, ℤ, pos, negsuc, nat_abs, ◌*ℤ◌}
use Rattle.std.proofs.Common.{sym, ap, ◌∙◌, arith, lit<, eq-eqb}
use Rattle.definitions.specs.Matrix.{Matrix, at, mat, item, three, identity, mul_m, transpose, apply, sub_v, cofactor, det, adjugate, inverse}
use Rattle.math_matrix.specs.Solve.{Expr, con, ◌⊖◌, ◌⊗◌, solve, one_left, one_right}
use Rattle.math_matrix.specs.Ring.{*ℤ-assoc}
use Rattle.math_matrix.specs.Exprs.{three_eq, solve_v, solve_m, entries, entries_e, items, items_e, mul_e, apply_e, cofactor_e, det_e}
use Rattle.math_matrix.specs.Bounds.{abs-mul}

abbrev A : ℕ → ℕ → Expr
A = entries_e 0

abbrev B : ℕ → ℕ → Expr
B = entries_e 9

abbrev C : ℕ → ℕ → Expr
C = entries_e 18

-- three rows of three
abbrev pub Three : Matrix → Type 0
Three m = m ≡ mat (at m)

pub mul_assoc : (a b c : Matrix) → mul_m (mul_m a b) c ≡ mul_m a (mul_m b c)
mul_assoc a b c = solve_m (entries a ++ entries b ++ entries c) (mul_e (mul_e A B) C) (mul_e A (mul_e B C)) tt

pub det-mul : (a b : Matrix) → det (mul_m a b) ≡ det a *ℤ det b
det-mul a b = solve (entries a ++ entries b) (det_e (mul_e A B)) (det_e A ⊗ det_e B) tt

abbrev I : ℕ → ℕ → Expr
I i j = con (at identity i j)

pub identity-mul : (m : Matrix) → Three m → mul_m identity m ≡ m
identity-mul m h = solve_m (entries m) (mul_e I A) A tt ∙ sym h

pub mul-identity : (m : Matrix) → Three m → mul_m m identity ≡ m
mul-identity m h = solve_m (entries m) (mul_e A I) A tt ∙ sym h

-- k times the identity
abbrev pub scalar : ℤ → Matrix
scalar k = mat (λ i j. k *ℤ at identity i j)

pub mul-adjugate : (m : Matrix) → mul_m m (adjugate m) ≡ scalar (det m)
mul-adjugate m = solve_m (entries m) (mul_e A (λ i j. cofactor_e A j i)) (λ i j. det_e A ⊗ I i j) tt

pub adjugate-mul : (m : Matrix) → mul_m (adjugate m) m ≡ scalar (det m)
adjugate-mul m = solve_m (entries m) (mul_e (λ i j. cofactor_e A j i) A) (λ i j. det_e A ⊗ I i j) tt

square-unit : (d : ℤ) → nat_abs d ≡ 1 → d *ℤ d ≡ pos 1
square-unit (pos n) e = ap (λ (k : ℕ). pos k *ℤ pos k) e
square-unit (negsuc n) e = ap (λ (k : ℕ). pos (k * k)) e

inverse_e : ℕ → ℕ → Expr
inverse_e i j = det_e A ⊗ cofactor_e A j i

inverse-unit : (m : Matrix) → nat_abs (det m) ≡ 1 → inverse m ≡ mat (λ i j. det m *ℤ cofactor m j i)
inverse-unit m e = ap (λ (b : Bool). mat (λ i j. cond b (det m) (pos 0) *ℤ cofactor m j i)) (eq-eqb (nat_abs (det m)) 1 e)

-- a matrix whose determinant is 1 or -1 times its inverse, on either side
pub mul-inverse : (m : Matrix) → nat_abs (det m) ≡ 1 → mul_m m (inverse m) ≡ identity
unfolding inverse_e
mul-inverse m e =
    ap (mul_m m) (inverse-unit m e)
    ∙ solve_m (entries m) (mul_e A inverse_e) (λ i j. det_e A ⊗ det_e A ⊗ I i j) tt
    ∙ ap scalar (square-unit (det m) e)

pub inverse-mul : (m : Matrix) → nat_abs (det m) ≡ 1 → mul_m (inverse m) m ≡ identity
unfolding inverse_e
inverse-mul m e =
    ap (λ (x : Matrix). mul_m x m) (inverse-unit m e)
    ∙ solve_m (entries m) (mul_e inverse_e A) (λ i j. det_e A ⊗ det_e A ⊗ I i j) tt
    ∙ ap scalar (square-unit (det m) e)

pub det-identity : det identity ≡ pos 1
det-identity = refl

pub det-transpose : (m : Matrix) → det (transpose m) ≡ det m
det-transpose m = solve (entries m) (det_e (λ i j. A j i)) (det_e A) tt

pub apply-mul : (a b : Matrix) (v : List ℤ) → apply (mul_m a b) v ≡ apply a (apply b v)
apply-mul a b v = solve_v (entries a ++ entries b ++ items v) (apply_e (mul_e A B) (items_e 18)) (apply_e A (apply_e B (items_e 18))) tt

pub apply-sub : (m : Matrix) (v w : List ℤ) → apply m (sub_v v w) ≡ sub_v (apply m v) (apply m w)
apply-sub m v w = solve_v (entries m ++ items v ++ items w) (apply_e A (λ i. items_e 9 i ⊖ items_e 12 i)) (λ i. apply_e A (items_e 9) i ⊖ apply_e A (items_e 12) i) tt

pub apply-identity : (v : List ℤ) → apply identity v ≡ three (item v)
apply-identity v = solve_v (items v) (apply_e I (items_e 0)) (items_e 0) tt

-- a matrix takes back what its inverse did, and its inverse what it did
pub apply-inverse : (m : Matrix) (v : List ℤ) → nat_abs (det m) ≡ 1 → apply m (apply (inverse m) v) ≡ three (item v)
apply-inverse m v e = sym (apply-mul m (inverse m) v) ∙ ap (λ (x : Matrix). apply x v) (mul-inverse m e) ∙ apply-identity v

pub inverse-apply : (m : Matrix) (v : List ℤ) → nat_abs (det m) ≡ 1 → apply (inverse m) (apply m v) ≡ three (item v)
inverse-apply m v e = sym (apply-mul (inverse m) m v) ∙ ap (λ (x : Matrix). apply x v) (inverse-mul m e) ∙ apply-identity v

pub det-inverse : (m : Matrix) → nat_abs (det m) ≡ 1 → det (inverse m) ≡ det m
det-inverse m e =
    sym (one_left (det (inverse m)))
    ∙ ap (λ z. z *ℤ det (inverse m)) (sym (square-unit (det m) e))
    ∙ *ℤ-assoc (det m) (det m) (det (inverse m))
    ∙ ap (λ z. det m *ℤ z) (sym (det-mul m (inverse m)) ∙ ap det (mul-inverse m e))
    ∙ one_right (det m)

-- a product of two such matrices is one
pub unit-mul : (a b : Matrix) → nat_abs (det a) ≡ 1 → nat_abs (det b) ≡ 1 → nat_abs (det (mul_m a b)) ≡ 1
unit-mul a b p q = ap nat_abs (det-mul a b) ∙ abs-mul (det a) (det b) ∙ (λ i. p i * q i)

-- no other matrix is its inverse
pub inverse_unique : (m x : Matrix) → nat_abs (det m) ≡ 1 → Three x → mul_m m x ≡ identity → x ≡ inverse m
inverse_unique m x e h p =
    sym (identity-mul x h)
    ∙ ap (λ (y : Matrix). mul_m y x) (sym (inverse-mul m e))
    ∙ mul_assoc (inverse m) m x
    ∙ ap (mul_m (inverse m)) p
    ∙ mul-identity (inverse m) refl

-- (AB)⁻¹ = B⁻¹A⁻¹
pub inverse_product :
    (a b : Matrix) → nat_abs (det a) ≡ 1 → nat_abs (det b) ≡ 1 → inverse (mul_m a b) ≡ mul_m (inverse b) (inverse a)
inverse_product a b p q = sym (inverse_unique (mul_m a b) (mul_m (inverse b) (inverse a)) (unit-mul a b p q) refl back)
  where
    inner : mul_m b (mul_m (inverse b) (inverse a)) ≡ inverse a
    inner =
        sym (mul_assoc b (inverse b) (inverse a))
        ∙ ap (λ (x : Matrix). mul_m x (inverse a)) (mul-inverse b q)
        ∙ identity-mul (inverse a) refl

    back : mul_m (mul_m a b) (mul_m (inverse b) (inverse a)) ≡ identity
    back = mul_assoc a b (mul_m (inverse b) (inverse a)) ∙ ap (mul_m a) inner ∙ mul-inverse a p

of_length : {A : Type 0} (l : List A) (d : A) → length l ≡ 3 → l ≡ three (λ i. get_or l i d)
of_length [] d e = absurd (omega arith)
of_length (a ∷ []) d e = absurd (omega arith)
of_length (a ∷ b ∷ []) d e = absurd (omega arith)
of_length (a ∷ b ∷ c ∷ []) d e = refl
of_length (a ∷ b ∷ c ∷ x ∷ l) d e = absurd (omega arith)

-- three lists of three are such a matrix, of whatever type; z is what a row has past its end
pub three_rows_by :
    {A : Type 0} (z : A) (m : List (List A)) → length m ≡ 3 → ((i : ℕ) → i < 3 → length (get_or m i []) ≡ 3) →
    m ≡ mat (λ i j. get_or (get_or m i []) j z)
three_rows_by z m h g =
    of_length m [] h
    ∙ three_eq (λ i. get_or m i []) (λ i. three (λ j. get_or (get_or m i []) j z))
    (of_length (get_or m 0 []) z (g 0 (lit< tt)))
    (of_length (get_or m 1 []) z (g 1 (lit< tt)))
    (of_length (get_or m 2 []) z (g 2 (lit< tt)))

-- three lists of three numbers
pub three_rows : (m : Matrix) → length m ≡ 3 → ((i : ℕ) → i < 3 → length (get_or m i []) ≡ 3) → Three m
three_rows m h g = three_rows_by (pos 0) m h g
