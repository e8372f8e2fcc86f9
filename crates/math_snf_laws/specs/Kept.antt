-- Every step keeps L M R = D, and keeps the determinants of L and R at 1 or -1.
use Rattle.std.specs.Prelude.{ℕ, ◌≡◌, refl, nat_abs}
use Rattle.std.proofs.Common.{sym, ap, ◌∙◌}
use Rattle.definitions.specs.Matrix.{Matrix, identity, mul_m, det}
use Rattle.definitions.specs.Snf.{State, start}
use Rattle.math_matrix.specs.Laws.{Three, mul_assoc, identity-mul, mul-identity, unit-mul}
use Rattle.math_snf_laws.specs.Steps.{RowOp, ColumnOp, swap-rows, swap_columns_lem, negate_column_lem, less_row_lem, less_column_lem}
use Rattle.math_snf_laws.specs.Stable.{on_rows, on_columns, Stable}

pub record Kept (m : Matrix) (t : State) : Type 0 where
  pub lmr : mul_m (mul_m t.l m) t.r ≡ t.d
  pub left : nat_abs (det t.l) ≡ 1
  pub right : nat_abs (det t.r) ≡ 1

pub kept_start : (m : Matrix) → Three m → Kept m (start m)
kept_start m h = record { lmr = ap (λ x. mul_m x identity) (identity-mul m h) ∙ mul-identity m h; left = refl; right = refl }

by_rows : {m : Matrix} {op : Matrix → Matrix} → RowOp op → (t : State) → Kept m t → Kept m (on_rows op t)
by_rows {m} {op} o t h =
    record {
      lmr =
          ap (λ x. mul_m (mul_m x m) t.r) (o.is t.l)
          ∙ ap (λ x. mul_m x t.r) (mul_assoc o.factor t.l m)
          ∙ mul_assoc o.factor (mul_m t.l m) t.r
          ∙ ap (mul_m o.factor) h.lmr
          ∙ sym (o.is t.d);
      left = ap (λ x. nat_abs (det x)) (o.is t.l) ∙ unit-mul o.factor t.l o.unit h.left;
      right = h.right;
    }

by_columns : {m : Matrix} {op : Matrix → Matrix} → ColumnOp op → (t : State) → Kept m t → Kept m (on_columns op t)
by_columns {m} {op} o t h =
    record {
      lmr =
          ap (λ x. mul_m (mul_m t.l m) x) (o.is t.r)
          ∙ sym (mul_assoc (mul_m t.l m) t.r o.factor)
          ∙ ap (λ x. mul_m x o.factor) h.lmr
          ∙ sym (o.is t.d);
      left = h.left;
      right = ap (λ x. nat_abs (det x)) (o.is t.r) ∙ unit-mul t.r o.factor h.right o.unit;
    }

pub kept : (m : Matrix) (s : ℕ) → Stable s (Kept m)
kept m s =
    record {
      swap-rows = λ a t h. by_rows (swap-rows a) t h;
      swap_columns_lem = λ a t h. by_columns (swap_columns_lem a) t h;
      negate = λ a t h. by_columns (negate_column_lem a) t h;
      less_row_lem = λ b k t h. by_rows (less_row_lem b k) t h;
      less_column_lem = λ b k t h. by_columns (less_column_lem b k) t h;
    }
