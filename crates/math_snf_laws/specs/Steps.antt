-- The steps of a pass as products with matrices of determinant 1 or -1.
use Rattle.std.specs.Prelude.{ℕ, ◌<◌, ◌≤◌, ◌≡◌, refl, cond, [], ◌∷◌, T, eqb, ℤ, pos, nat_abs}
use Rattle.std.proofs.Common.{sym, ap, ◌∙◌, arith}
use Rattle.definitions.specs.Matrix.{Matrix, at, mat, identity, mul_m, det}
use Rattle.definitions.specs.Snf.{swapped, swap_rows, swap_columns, negate_column, less_row, less_column}
use Rattle.math_matrix.specs.Solve.{Expr, var, con, ◌⊖◌, ◌⊗◌, minus, eval, solve}
use Rattle.math_matrix.specs.Exprs.{agree_m, solve_m, entries, entries_e, mul_e, det_e}

-- s ≤ i < 3: the rows and columns that stage s works on
pub data In : ℕ → ℕ → Type 0 where
  i00 : In 0 0
  i01 : In 0 1
  i02 : In 0 2
  i11 : In 1 1
  i12 : In 1 2
  i22 : In 2 2

pub self : {s i : ℕ} → In s i → In s s
self i00 = i00
self i01 = i00
self i02 = i00
self i11 = i11
self i12 = i11
self i22 = i22

-- s < i < 3: those that it clears
pub data Behind : ℕ → ℕ → Type 0 where
  b01 : Behind 0 1
  b02 : Behind 0 2
  b12 : Behind 1 2

pub wide : {s i : ℕ} → In s i → In 0 i
wide i00 = i00
wide i01 = i01
wide i02 = i02
wide i11 = i01
wide i12 = i02
wide i22 = i02

pub in_le : {s i : ℕ} → In s i → (s ≤ i) × (i < 3)
in_le i00 = omega arith
in_le i01 = omega arith
in_le i02 = omega arith
in_le i11 = omega arith
in_le i12 = omega arith
in_le i22 = omega arith

pub behind_in : {s i : ℕ} → Behind s i → In s i
behind_in b01 = i01
behind_in b02 = i02
behind_in b12 = i12

pub behind_lt : {s i : ℕ} → Behind s i → s < i
behind_lt b01 = omega arith
behind_lt b02 = omega arith
behind_lt b12 = omega arith

-- op is a product from the left, or from the right, with a matrix of determinant 1 or -1
pub record RowOp (op : Matrix → Matrix) : Type 0 where
  pub factor : Matrix
  pub is : (x : Matrix) → op x ≡ mul_m factor x
  pub unit : nat_abs (det factor) ≡ 1

pub record ColumnOp (op : Matrix → Matrix) : Type 0 where
  pub factor : Matrix
  pub is : (x : Matrix) → op x ≡ mul_m x factor
  pub unit : nat_abs (det factor) ≡ 1

-- the variables: k, then the nine entries
abbrev K : Expr
K = var 0

abbrev X : ℕ → ℕ → Expr
X = entries_e 1

abbrev I : ℕ → ℕ → Expr
I i j = con (at identity i j)

abbrev Change : Type 0
Change = (ℕ → ℕ → Expr) → ℕ → ℕ → Expr

module _ (k : ℤ) (op : Matrix → Matrix) (e : Change) (is : (x : Matrix) → op x ≡ mat (λ i j. eval (k ∷ entries x) (e X i j))) (unit : nat_abs (det (op identity)) ≡ 1) where
  row_op : ((x : Matrix) → mul_m (op identity) x ≡ mat (λ i j. eval (k ∷ entries x) (mul_e (e I) X i j))) → T (agree_m (e X) (mul_e (e I) X)) → RowOp op
  row_op by t = record { factor = op identity; is = λ x. is x ∙ solve_m (k ∷ entries x) (e X) (mul_e (e I) X) t ∙ sym (by x); unit = unit }

  column_op : ((x : Matrix) → mul_m x (op identity) ≡ mat (λ i j. eval (k ∷ entries x) (mul_e X (e I) i j))) → T (agree_m (e X) (mul_e X (e I))) → ColumnOp op
  column_op by t = record { factor = op identity; is = λ x. is x ∙ solve_m (k ∷ entries x) (e X) (mul_e X (e I)) t ∙ sym (by x); unit = unit }

abbrev swap_rows_e : ℕ → ℕ → Change
swap_rows_e a b m i j = m (swapped a b i) j

abbrev swap_columns_e : ℕ → ℕ → Change
swap_columns_e a b m i j = m i (swapped a b j)

pub swap-rows : {s a : ℕ} → In s a → RowOp (swap_rows s a)
swap-rows i00 = row_op (pos 0) (swap_rows 0 0) (swap_rows_e 0 0) (λ x. refl) refl (λ x. refl) tt
swap-rows i01 = row_op (pos 0) (swap_rows 0 1) (swap_rows_e 0 1) (λ x. refl) refl (λ x. refl) tt
swap-rows i02 = row_op (pos 0) (swap_rows 0 2) (swap_rows_e 0 2) (λ x. refl) refl (λ x. refl) tt
swap-rows i11 = row_op (pos 0) (swap_rows 1 1) (swap_rows_e 1 1) (λ x. refl) refl (λ x. refl) tt
swap-rows i12 = row_op (pos 0) (swap_rows 1 2) (swap_rows_e 1 2) (λ x. refl) refl (λ x. refl) tt
swap-rows i22 = row_op (pos 0) (swap_rows 2 2) (swap_rows_e 2 2) (λ x. refl) refl (λ x. refl) tt

pub swap_columns_lem : {s a : ℕ} → In s a → ColumnOp (swap_columns s a)
swap_columns_lem i00 = column_op (pos 0) (swap_columns 0 0) (swap_columns_e 0 0) (λ x. refl) refl (λ x. refl) tt
swap_columns_lem i01 = column_op (pos 0) (swap_columns 0 1) (swap_columns_e 0 1) (λ x. refl) refl (λ x. refl) tt
swap_columns_lem i02 = column_op (pos 0) (swap_columns 0 2) (swap_columns_e 0 2) (λ x. refl) refl (λ x. refl) tt
swap_columns_lem i11 = column_op (pos 0) (swap_columns 1 1) (swap_columns_e 1 1) (λ x. refl) refl (λ x. refl) tt
swap_columns_lem i12 = column_op (pos 0) (swap_columns 1 2) (swap_columns_e 1 2) (λ x. refl) refl (λ x. refl) tt
swap_columns_lem i22 = column_op (pos 0) (swap_columns 2 2) (swap_columns_e 2 2) (λ x. refl) refl (λ x. refl) tt

abbrev negate_e : ℕ → Change
negate_e s m i j = cond (eqb j s) (minus (m i j)) (m i j)

pub negate_column_lem : {s : ℕ} → In s s → ColumnOp (negate_column s)
negate_column_lem i00 = column_op (pos 0) (negate_column 0) (negate_e 0) (λ x. refl) refl (λ x. refl) tt
negate_column_lem i11 = column_op (pos 0) (negate_column 1) (negate_e 1) (λ x. refl) refl (λ x. refl) tt
negate_column_lem i22 = column_op (pos 0) (negate_column 2) (negate_e 2) (λ x. refl) refl (λ x. refl) tt

abbrev less_row_e : ℕ → ℕ → Change
less_row_e i s m a b = cond (eqb a i) (m a b ⊖ K ⊗ m s b) (m a b)

abbrev less_column_e : ℕ → ℕ → Change
less_column_e j s m a b = cond (eqb b j) (m a b ⊖ K ⊗ m a s) (m a b)

pub less_row_lem : {s i : ℕ} → Behind s i → (k : ℤ) → RowOp (less_row i k s)
less_row_lem b01 k = row_op k (less_row 1 k 0) (less_row_e 1 0) (λ x. refl) (ap nat_abs (solve (k ∷ []) (det_e (less_row_e 1 0 I)) (con (pos 1)) tt)) (λ x. refl) tt
less_row_lem b02 k = row_op k (less_row 2 k 0) (less_row_e 2 0) (λ x. refl) (ap nat_abs (solve (k ∷ []) (det_e (less_row_e 2 0 I)) (con (pos 1)) tt)) (λ x. refl) tt
less_row_lem b12 k = row_op k (less_row 2 k 1) (less_row_e 2 1) (λ x. refl) (ap nat_abs (solve (k ∷ []) (det_e (less_row_e 2 1 I)) (con (pos 1)) tt)) (λ x. refl) tt

pub less_column_lem : {s i : ℕ} → Behind s i → (k : ℤ) → ColumnOp (less_column i k s)
less_column_lem b01 k = column_op k (less_column 1 k 0) (less_column_e 1 0) (λ x. refl) (ap nat_abs (solve (k ∷ []) (det_e (less_column_e 1 0 I)) (con (pos 1)) tt)) (λ x. refl) tt
less_column_lem b02 k = column_op k (less_column 2 k 0) (less_column_e 2 0) (λ x. refl) (ap nat_abs (solve (k ∷ []) (det_e (less_column_e 2 0 I)) (con (pos 1)) tt)) (λ x. refl) tt
less_column_lem b12 k = column_op k (less_column 2 k 1) (less_column_e 2 1) (λ x. refl) (ap nat_abs (solve (k ∷ []) (det_e (less_column_e 2 1 I)) (con (pos 1)) tt)) (λ x. refl) tt
