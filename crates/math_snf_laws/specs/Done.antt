-- The rows and columns before stage s hold nothing but the diagonal, and that is not below 0; stage s leaves them so.
use Rattle.std.specs.Prelude.{ℕ, suc, ◌<◌, ◌≡◌, refl, Bool, true, false, ◌⊎◌, T, ltb, pos}
use Rattle.std.proofs.Common.{sym, ◌∙◌, subst, inl, inr, arith, ltb-true, ltb-false}
use Rattle.std.specs.Int.Signed.{non_neg}
use Rattle.definitions.specs.Matrix.{Matrix, at}
use Rattle.math_snf_laws.specs.Steps.{In, i00, i11, i12, i22, wide, Behind, behind_in, b01, b02, b12}
use Rattle.math_snf_laws.specs.Stable.{Stable}
use Rattle.math_snf_laws.specs.Entries.{RowStays, ColumnStays, swap-rows_stay, swap_columns_stay, negate_stays, less_row_stays, less_column_stays}

pub record Done (s : ℕ) (d : Matrix) : Type 0 where
  pub row : (i j : ℕ) → In 0 i → i < s → In s j → at d i j ≡ pos 0
  pub column : (i j : ℕ) → In 0 i → i < s → In s j → at d j i ≡ pos 0
  pub off : (i j : ℕ) → In 0 i → In 0 j → i < s → j < s → (i ≡ j → ⊥) → at d i j ≡ pos 0
  pub diagonal : (i : ℕ) → In 0 i → i < s → T (non_neg (at d i i))

by_rows : {s : ℕ} {op : Matrix → Matrix} → RowStays s op → (d : Matrix) → Done s d → Done s (op d)
by_rows k d h =
    record {
      row = λ i j x l y. k.old d x (wide y) l ∙ h.row i j x l y;
      column = λ i j x l y. k.none d x (λ a z. h.column i a x l z) j y;
      off = λ i j x y l m n. k.old d x y l ∙ h.off i j x y l m n;
      diagonal = λ i x l. subst (λ z. T (non_neg z)) (sym (k.old d x x l)) (h.diagonal i x l);
    }

by_columns : {s : ℕ} {op : Matrix → Matrix} → ColumnStays s op → (d : Matrix) → Done s d → Done s (op d)
by_columns k d h =
    record {
      row = λ i j x l y. k.none d x (λ a z. h.row i a x l z) j y;
      column = λ i j x l y. k.old d (wide y) x l ∙ h.column i j x l y;
      off = λ i j x y l m n. k.old d x y m ∙ h.off i j x y l m n;
      diagonal = λ i x l. subst (λ z. T (non_neg z)) (sym (k.old d x x l)) (h.diagonal i x l);
    }

pub done : (s : ℕ) → Stable s (λ t. Done s t.d)
done s =
    record {
      swap-rows = λ a t h. by_rows (swap-rows_stay a) t.d h;
      swap_columns_lem = λ a t h. by_columns (swap_columns_stay a) t.d h;
      negate = λ a t h. by_columns (negate_stays s) t.d h;
      less_row_lem = λ b k t h. by_rows (less_row_stays b k) t.d h;
      less_column_lem = λ b k t h. by_columns (less_column_stays b k) t.d h;
    }

-- ---- one stage more

pub done_none : (d : Matrix) → Done 0 d
done_none d =
    record {
      row = λ i j x l y. absurd (omega arith);
      column = λ i j x l y. absurd (omega arith);
      off = λ i j x y l m n. absurd (omega arith);
      diagonal = λ i x l. absurd (omega arith);
    }

behind : {s j : ℕ} → In s s → In (suc s) j → Behind s j
behind i00 i11 = b01
behind i00 i12 = b02
behind i11 i22 = b12
behind {j = j} i22 x4 = elim x4 [ ]

below : {i s : ℕ} → i < suc s → (i < s) ⊎ (i ≡ s)
below {i} {s} l = go (ltb i s) refl
  where
    go : (b : Bool) → ltb i s ≡ b → (i < s) ⊎ (i ≡ s)
    go true e = inl (ltb-true i s e)
    go false e = inr (omega (arith, ltb-false i s e))

pub done_more : {s : ℕ} (d : Matrix) → In s s → Done s d → ((i : ℕ) → Behind s i → at d i s ≡ pos 0) → ((i : ℕ) → Behind s i → at d s i ≡ pos 0) → T (non_neg (at d s s)) → Done (suc s) d
done_more {s} d a h rows columns corner = record { row = by_row; column = by_column; off = by_off; diagonal = by_diagonal }
  where
    row_at : {i j : ℕ} → (i < s) ⊎ (i ≡ s) → In 0 i → Behind s j → at d i j ≡ pos 0
    row_at {i} {j} (inl l) x y = h.row i j x l (behind_in y)
    row_at {i} {j} (inr e) x y = subst (λ (k : ℕ). at d k j ≡ pos 0) (sym e) (columns j y)

    by_row : (i j : ℕ) → In 0 i → i < suc s → In (suc s) j → at d i j ≡ pos 0
    by_row i j x l y = row_at (below l) x (behind a y)

    column_at : {i j : ℕ} → (i < s) ⊎ (i ≡ s) → In 0 i → Behind s j → at d j i ≡ pos 0
    column_at {i} {j} (inl l) x y = h.column i j x l (behind_in y)
    column_at {i} {j} (inr e) x y = subst (λ (k : ℕ). at d j k ≡ pos 0) (sym e) (rows j y)

    by_column : (i j : ℕ) → In 0 i → i < suc s → In (suc s) j → at d j i ≡ pos 0
    by_column i j x l y = column_at (below l) x (behind a y)

    off_at : {i j : ℕ} → (i < s) ⊎ (i ≡ s) → (j < s) ⊎ (j ≡ s) → In 0 i → In 0 j → (i ≡ j → ⊥) → at d i j ≡ pos 0
    off_at {i} {j} (inl l) (inl m) x y n = h.off i j x y l m n
    off_at {i} {j} (inl l) (inr e) x y n = subst (λ (k : ℕ). at d i k ≡ pos 0) (sym e) (h.row i s x l a)
    off_at {i} {j} (inr e) (inl m) x y n = subst (λ (k : ℕ). at d k j ≡ pos 0) (sym e) (h.column j s y m a)
    off_at {i} {j} (inr e) (inr f) x y n = absurd (n (e ∙ sym f))

    by_off : (i j : ℕ) → In 0 i → In 0 j → i < suc s → j < suc s → (i ≡ j → ⊥) → at d i j ≡ pos 0
    by_off i j x y l m n = off_at (below l) (below m) x y n

    diagonal_at : {i : ℕ} → (i < s) ⊎ (i ≡ s) → In 0 i → T (non_neg (at d i i))
    diagonal_at {i} (inl l) x = h.diagonal i x l
    diagonal_at {i} (inr e) x = subst (λ (k : ℕ). T (non_neg (at d k k))) (sym e) corner

    by_diagonal : (i : ℕ) → In 0 i → i < suc s → T (non_neg (at d i i))
    by_diagonal i x l = diagonal_at (below l) x
