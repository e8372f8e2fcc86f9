-- The entries after a step of stage s: rows and columns before s stay, and a part that is 0 stays 0.
use Rattle.std.specs.Prelude.{ℕ, ◌<◌, ◌≡◌, refl, Bool, true, false, cond, eqb, ℤ, pos, neg_ℤ, ◌-ℤ◌, ◌*ℤ◌}
use Rattle.std.proofs.Common.{ap, ◌∙◌, arith, ne_eqb}
use Rattle.std.proofs.Math.IntN.{*ℤ-zero}
use Rattle.definitions.specs.Matrix.{Matrix, at, mat}
use Rattle.definitions.specs.Snf.{swapped, swap_rows, swap_columns, negate_column, less_row, less_column}
use Rattle.math_snf_laws.specs.Steps.{In, i00, i01, i02, i11, i12, i22, self, wide, in_le, Behind, behind_lt}

pub at_mat : (f : ℕ → ℕ → ℤ) {i j : ℕ} → In 0 i → In 0 j → at (mat f) i j ≡ f i j
at_mat f i00 i00 = refl
at_mat f i00 i01 = refl
at_mat f i00 i02 = refl
at_mat f i01 i00 = refl
at_mat f i01 i01 = refl
at_mat f i01 i02 = refl
at_mat f i02 i00 = refl
at_mat f i02 i01 = refl
at_mat f i02 i02 = refl

-- ---- indices under a swap

pub swapped_in : {s a i : ℕ} → In s a → In s i → In s (swapped s a i)
swapped_in {s} {a} {i} x y = go (eqb i s) (eqb i a)
  where
    go : (b c : Bool) → In s (cond b a (cond c s i))
    go true c = x
    go false true = self x
    go false false = y

pub swapped_low : {s a i : ℕ} → In s a → i < s → swapped s a i ≡ i
swapped_low {s} {a} {i} x h =
    let g = in_le x in
    simp (ne_eqb i s (λ e. omega arith), ne_eqb i a (λ e. omega arith))

pub swapped_self : {s a : ℕ} → In s a → swapped s a s ≡ a
swapped_self i00 = refl
swapped_self i01 = refl
swapped_self i02 = refl
swapped_self i11 = refl
swapped_self i12 = refl
swapped_self i22 = refl

pub swapped_same : {s i : ℕ} → In s i → swapped s s i ≡ i
swapped_same i00 = refl
swapped_same i01 = refl
swapped_same i02 = refl
swapped_same i11 = refl
swapped_same i12 = refl
swapped_same i22 = refl

-- ---- what stays

pub record RowStays (s : ℕ) (op : Matrix → Matrix) : Type 0 where
  pub old : (d : Matrix) {a b : ℕ} → In 0 a → In 0 b → a < s → at (op d) a b ≡ at d a b
  pub none : (d : Matrix) {b : ℕ} → In 0 b → ((a : ℕ) → In s a → at d a b ≡ pos 0) → (a : ℕ) → In s a → at (op d) a b ≡ pos 0

pub record ColumnStays (s : ℕ) (op : Matrix → Matrix) : Type 0 where
  pub old : (d : Matrix) {a b : ℕ} → In 0 a → In 0 b → b < s → at (op d) a b ≡ at d a b
  pub none : (d : Matrix) {a : ℕ} → In 0 a → ((b : ℕ) → In s b → at d a b ≡ pos 0) → (b : ℕ) → In s b → at (op d) a b ≡ pos 0

pub swap-rows_stay : {s p : ℕ} → In s p → RowStays s (swap_rows s p)
swap-rows_stay {s} {p} q =
    record {
      old = λ d {a} {b} x y h. at_mat (λ i j. at d (swapped s p i) j) x y ∙ ap (λ (i : ℕ). at d i b) (swapped_low q h);
      none = λ d {b} y h a x. at_mat (λ i j. at d (swapped s p i) j) (wide x) y ∙ h (swapped s p a) (swapped_in q x);
    }

pub swap_columns_stay : {s p : ℕ} → In s p → ColumnStays s (swap_columns s p)
swap_columns_stay {s} {p} q =
    record {
      old = λ d {a} {b} x y h. at_mat (λ i j. at d i (swapped s p j)) x y ∙ ap (λ (j : ℕ). at d a j) (swapped_low q h);
      none = λ d {a} x h b y. at_mat (λ i j. at d i (swapped s p j)) x (wide y) ∙ h (swapped s p b) (swapped_in q y);
    }

negated_none : (b : Bool) (z : ℤ) → z ≡ pos 0 → cond b (neg_ℤ z) z ≡ pos 0
negated_none true z e = ap neg_ℤ e
negated_none false z e = e

pub negate_stays : (s : ℕ) → ColumnStays s (negate_column s)
negate_stays s =
    record {
      old = λ d {a} {b} x y h. at_mat (λ i j. cond (eqb j s) (neg_ℤ (at d i j)) (at d i j)) x y ∙ simp (ne_eqb b s (λ e. omega arith));
      none = λ d {a} x h b y. at_mat (λ i j. cond (eqb j s) (neg_ℤ (at d i j)) (at d i j)) x (wide y) ∙ negated_none (eqb b s) (at d a b) (h b y);
    }

less_none : (b : Bool) (k z w : ℤ) → z ≡ pos 0 → w ≡ pos 0 → cond b (z -ℤ k *ℤ w) z ≡ pos 0
less_none true k z w e f = ap (λ x. x -ℤ k *ℤ w) e ∙ ap (λ x. pos 0 -ℤ k *ℤ x) f ∙ ap (λ x. pos 0 -ℤ x) (*ℤ-zero k)
less_none false k z w e f = e

pub less_row_stays : {s i : ℕ} → Behind s i → (k : ℤ) → RowStays s (less_row i k s)
less_row_stays {s} {i} q k =
    let g = behind_lt q in
    record {
      old = λ d {a} {b} x y h. at_mat (λ a b. cond (eqb a i) (at d a b -ℤ k *ℤ at d s b) (at d a b)) x y ∙ simp (ne_eqb a i (λ e. omega arith));
      none = λ d {b} y h a x. at_mat (λ a b. cond (eqb a i) (at d a b -ℤ k *ℤ at d s b) (at d a b)) (wide x) y ∙ less_none (eqb a i) k (at d a b) (at d s b) (h a x) (h s (self x));
    }

pub less_column_stays : {s i : ℕ} → Behind s i → (k : ℤ) → ColumnStays s (less_column i k s)
less_column_stays {s} {i} q k =
    let g = behind_lt q in
    record {
      old = λ d {a} {b} x y h. at_mat (λ a b. cond (eqb b i) (at d a b -ℤ k *ℤ at d a s) (at d a b)) x y ∙ simp (ne_eqb b i (λ e. omega arith));
      none = λ d {a} x h b y. at_mat (λ a b. cond (eqb b i) (at d a b -ℤ k *ℤ at d a s) (at d a b)) x (wide y) ∙ less_none (eqb b i) k (at d a b) (at d a s) (h b y) (h s (self y));
    }
