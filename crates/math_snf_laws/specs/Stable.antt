-- What every step of stage s keeps, every pass and the whole stage keep.
use Rattle.std.specs.Prelude.{ℕ, List, ℤ}
use Rattle.definitions.specs.Matrix.{Matrix}
use Rattle.definitions.specs.Snf.{State, Place, Pass, swap_rows, swap_columns, negate_column, less_row, less_column, moved, signed, clear_row, clear_column, cleared, pass, Stage, empty, last, again}
use Rattle.math_snf_laws.specs.Steps.{In, i00, i11, i22, self, Behind, b01, b02, b12}
use Rattle.math_snf_laws.specs.Pivot.{chosen}
use Rattle.math_snf_laws.specs.Cases.{signed_cases, row_cases, column_cases, row_quotient, column_quotient}

abbrev pub on_rows : (Matrix → Matrix) → State → State
on_rows op t = record { d = op t.d; l = op t.l; r = t.r }

abbrev pub on_columns : (Matrix → Matrix) → State → State
on_columns op t = record { d = op t.d; l = t.l; r = op t.r }

pub record Stable (s : ℕ) (Q : State → Type 0) : Type 0 where
  pub swap-rows : {a : ℕ} → In s a → (t : State) → Q t → Q (on_rows (swap_rows s a) t)
  pub swap_columns_lem : {a : ℕ} → In s a → (t : State) → Q t → Q (on_columns (swap_columns s a) t)
  pub negate : In s s → (t : State) → Q t → Q (on_columns (negate_column s) t)
  pub less_row_lem : {i : ℕ} → Behind s i → (k : ℤ) (t : State) → Q t → Q (on_rows (less_row i k s) t)
  pub less_column_lem : {i : ℕ} → Behind s i → (k : ℤ) (t : State) → Q t → Q (on_columns (less_column i k s) t)

by_row : {s i : ℕ} {Q : State → Type 0} → Stable s Q → Behind s i → (p : Pass) → Q p.state → Q (clear_row s i p).state
by_row {s} {i} {Q} k b p h = row_cases (λ q. Q q.state) s i p (λ e. h) (k.less_row_lem b (row_quotient s i p) p.state h)

by_column : {s i : ℕ} {Q : State → Type 0} → Stable s Q → Behind s i → (p : Pass) → Q p.state → Q (clear_column s i p).state
by_column {s} {i} {Q} k b p h = column_cases (λ q. Q q.state) s i p (λ e. h) (k.less_column_lem b (column_quotient s i p) p.state h)

stable_cleared : {s : ℕ} {Q : State → Type 0} → Stable s Q → In s s → (p : Pass) → Q p.state → Q (cleared s p).state
unfolding cleared
stable_cleared {Q = Q} k i00 p h =
    by_column {Q = Q} k b02 (clear_column 0 1 (clear_row 0 2 (clear_row 0 1 p)))
    (by_column {Q = Q} k b01 (clear_row 0 2 (clear_row 0 1 p))
    (by_row {Q = Q} k b02 (clear_row 0 1 p)
    (by_row {Q = Q} k b01 p h)))
stable_cleared {Q = Q} k i11 p h = by_column {Q = Q} k b12 (clear_row 1 2 p) (by_row {Q = Q} k b12 p h)
stable_cleared k i22 p h = h

stable_moved : {s : ℕ} {Q : State → Type 0} {p : Place} → Stable s Q → In s p.0 → In s p.1 → (t : State) → Q t → Q (moved s p t)
unfolding moved
stable_moved {s} {p = p} k a b t h = k.swap_columns_lem b (on_rows (swap_rows s p.0) t) (k.swap-rows a t h)

stable_signed : {s : ℕ} {Q : State → Type 0} → Stable s Q → In s s → (t : State) → Q t → Q (signed s t).state
stable_signed {s} {Q} k a t h = signed_cases (λ q. Q q.state) s t (λ n e. h) (λ n e. k.negate a t h)

pub stable_pass : {s : ℕ} {Q : State → Type 0} {p : Place} → Stable s Q → In s p.0 → In s p.1 → (t : State) → Q t → Q (pass s p t).state
stable_pass {s} {Q} {p} k a b t h = stable_cleared {Q = Q} k (self a) (signed s (moved s p t)) (stable_signed {Q = Q} k (self a) (moved s p t) (stable_moved {Q = Q} {p = p} k a b t h))

pub stable_stage : {s : ℕ} {Q : State → Type 0} {t u : State} {a : List (List ℤ)} → Stable s Q → In s s → Stage s t a u → Q t → Q u
stable_stage k i (empty e) h = h
stable_stage {Q = Q} k i (last {t = t} p e f) h = let c = chosen t.d p i e in stable_pass {Q = Q} {p = p} k c.row c.column t h
stable_stage {Q = Q} k i (again {t = t} p e f r) h = let c = chosen t.d p i e in stable_stage {Q = Q} k i r (stable_pass {Q = Q} {p = p} k c.row c.column t h)
