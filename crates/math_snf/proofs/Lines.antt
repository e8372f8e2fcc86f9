-- One line of a matrix, or one entry of a line, is written in place of the old one.
use Rattle.std.proofs.Common.{ℕ, zero, suc, ◌<◌, ◌≡◌, refl, ap, ap₂, List, [], ◌∷◌, length, set, get_or, arith}
use Rattle.std.specs.Prelude.{ℤ, ◌-ℤ◌, ◌*ℤ◌}
use Rattle.definitions.specs.Matrix.{Matrix, at, item, three}
use Rattle.definitions.specs.Snf.{row}
use Rattle.math_matrix.specs.Laws.{Three}
use Rattle.math_snf.specs.Step.{kept, kept_row, kept_line}

pub three_items : (x : List ℤ) → length x ≡ 3 → x ≡ three (item x)
three_items [] e = absurd (omega arith)
three_items (a ∷ []) e = absurd (omega arith)
three_items (a ∷ b ∷ []) e = absurd (omega arith)
three_items (a ∷ b ∷ c ∷ []) e = refl
three_items (a ∷ b ∷ c ∷ _ ∷ _) e = absurd (omega arith)

module _ (m : Matrix) (h : Three m) where
  pub row_of : (i : ℕ) → i < 3 → get_or m i [] ≡ row i m
  row_of zero l = ap (λ (x : Matrix). get_or x 0 []) h
  row_of (suc zero) l = ap (λ (x : Matrix). get_or x 1 []) h
  row_of (suc (suc zero)) l = ap (λ (x : Matrix). get_or x 2 []) h
  row_of (suc (suc (suc i))) l = absurd (omega arith)

  pub set_row : (k : ℤ) (s i : ℕ) (r : List ℤ) → i < 3 → r ≡ three (λ b. kept (at m i b -ℤ k *ℤ at m s b)) → set m i r ≡ kept_row i k s m
  unfolding kept_row
  set_row k s zero r l e = ap₂ (λ (x : Matrix) (y : List ℤ). set x 0 y) h e
  set_row k s (suc zero) r l e = ap₂ (λ (x : Matrix) (y : List ℤ). set x 1 y) h e
  set_row k s (suc (suc zero)) r l e = ap₂ (λ (x : Matrix) (y : List ℤ). set x 2 y) h e
  set_row k s (suc (suc (suc i))) r l e = absurd (omega arith)

pub set_entry : (x : List ℤ) → length x ≡ 3 → (k : ℤ) (s j : ℕ) (v : ℤ) → j < 3 → v ≡ kept (item x j -ℤ k *ℤ item x s) → set x j v ≡ kept_line j k s x
unfolding kept_line
set_entry x h k s zero v l e = ap₂ (λ (x : List ℤ) (y : ℤ). set x 0 y) (three_items x h) e
set_entry x h k s (suc zero) v l e = ap₂ (λ (x : List ℤ) (y : ℤ). set x 1 y) (three_items x h) e
set_entry x h k s (suc (suc zero)) v l e = ap₂ (λ (x : List ℤ) (y : ℤ). set x 2 y) (three_items x h) e
set_entry x h k s (suc (suc (suc j))) v l e = absurd (omega arith)
