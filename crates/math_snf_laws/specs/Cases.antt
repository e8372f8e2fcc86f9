-- The steps of a pass by their cases.
use Prim.Native.Nat.{ℕ, zero, suc}
use Rattle.std.specs.Prelude.{◌≡◌, refl, true, false, [], ◌++◌, ℤ, pos, negsuc, nat_abs}
use Rattle.std.specs.Int.Signed.{quot_z}
use Rattle.definitions.specs.Matrix.{at}
use Rattle.definitions.specs.Snf.{State, Pass, negate_column, less_row, less_column, row, column, signed, clear_row, clear_column}

abbrev pub plain : State → Pass
plain t = record { state = t; assigned = []; updated = false }

abbrev pub turned : ℕ → State → Pass
turned s t =
    record {
      state = record { d = negate_column s t.d; l = t.l; r = negate_column s t.r };
      assigned = column s (negate_column s t.d) ++ column s (negate_column s t.r);
      updated = false;
    }

module _ (P : Pass → Type 0) (s : ℕ) (t : State) (f : (n : ℕ) → at t.d s s ≡ pos n → P (plain t)) (g : (n : ℕ) → at t.d s s ≡ negsuc n → P (turned s t)) where
  signed_by : (z : ℤ) → at t.d s s ≡ z → P (signed s t)
  unfolding signed
  signed_by (pos n) e = rw e (f n e)
  signed_by (negsuc n) e = rw e (g n e)

  pub signed_cases : P (signed s t)
  signed_cases = signed_by (at t.d s s) refl

abbrev pub row_quotient : ℕ → ℕ → Pass → ℤ
row_quotient s i p = quot_z (at p.state.d i s) (at p.state.d s s)

abbrev pub row_cleared : ℕ → ℕ → Pass → Pass
row_cleared s i p =
    let d' = less_row i (row_quotient s i p) s p.state.d in
    let l' = less_row i (row_quotient s i p) s p.state.l in
    record { state = record { d = d'; l = l'; r = p.state.r }; assigned = p.assigned ++ row i d' ++ row i l'; updated = true }

abbrev pub column_quotient : ℕ → ℕ → Pass → ℤ
column_quotient s j p = quot_z (at p.state.d s j) (at p.state.d s s)

abbrev pub column_cleared : ℕ → ℕ → Pass → Pass
column_cleared s j p =
    let d' = less_column j (column_quotient s j p) s p.state.d in
    let r' = less_column j (column_quotient s j p) s p.state.r in
    record { state = record { d = d'; l = p.state.l; r = r' }; assigned = p.assigned ++ column j d' ++ column j r'; updated = true }

module _ (P : Pass → Type 0) (s i : ℕ) (p : Pass) where
  row_by : (nat_abs (row_quotient s i p) ≡ 0 → P p) → P (row_cleared s i p) → (n : ℕ) → nat_abs (row_quotient s i p) ≡ n → P (clear_row s i p)
  unfolding clear_row
  row_by f g zero e = rw e (f e)
  row_by f g (suc n) e = rw e g

  pub row_cases : (nat_abs (row_quotient s i p) ≡ 0 → P p) → P (row_cleared s i p) → P (clear_row s i p)
  row_cases f g = row_by f g (nat_abs (row_quotient s i p)) refl

  column_by : (nat_abs (column_quotient s i p) ≡ 0 → P p) → P (column_cleared s i p) → (n : ℕ) → nat_abs (column_quotient s i p) ≡ n → P (clear_column s i p)
  unfolding clear_column
  column_by f g zero e = rw e (f e)
  column_by f g (suc n) e = rw e g

  pub column_cases : (nat_abs (column_quotient s i p) ≡ 0 → P p) → P (column_cleared s i p) → P (clear_column s i p)
  column_cases f g = column_by f g (nat_abs (column_quotient s i p)) refl
