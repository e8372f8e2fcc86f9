-- The steps of a pass, graded one by one, are the pass, graded.
use Prim.Native.Nat.{ℕ, suc, zero, ◌<◌}
use mathlib.Core.Path.{◌≡◌, refl, sym, ap, ◌∙◌, subst, ap₂}
use mathlib.Core.Bool.{Bool, true, false, cond, ◌&&◌, ◌||◌, or-false, or-true}
use mathlib.Core.List.{List, [], ◌∷◌, ◌++◌, append-nil, append_assoc}
use native.Mathlib.Omega.{arith}
use lib.Dec.{leb}
use lib.IntN.{ℤ, pos, negsuc, nat_abs, neg_ℤ, ◌-ℤ◌, ◌*ℤ◌}
use Rattle.definitions.specs.Lists.{all}
use Rattle.definitions.specs.Matrix.{Matrix, at}
use Rattle.definitions.specs.Snf.{State, Pass, row, column, less_row, less_column, negate_column, signed, clear_row, clear_column, cleared}
use Rattle.definitions.specs.Limits.{small}
use Rattle.laws.specs.Tests.{both_true}
use Rattle.laws.specs.Lists.{all_is, all_append}
use Rattle.math_matrix.specs.Solve.{var, con, ◌⊖◌, ◌⊗◌, minus, solve}
use Rattle.math_snf_laws.specs.Cases.{plain, row_quotient, row_cleared, row_cases, column_quotient, column_cleared, column_cases}
use Rattle.math_snf.specs.declared.Grade.{Grade}
use Rattle.math_snf.specs.declared.Grade.TheVariants.{Idle, Cleared, Strayed}
use Rattle.math_snf.specs.Step.{kept, kept_row, kept_column, grade, worse, Graded, row_below, column_right}

-- ---- entries that are kept

kept_small : (x : ℤ) → small (kept x) ≡ small x
unfolding kept
kept_small x = by (small x) refl
  where
    by : (b : Bool) → small x ≡ b → small (cond b x (pos 512)) ≡ b
    by true e = e
    by false e = refl

kept_same : (x : ℤ) → small x ≡ true → kept x ≡ x
unfolding kept
kept_same x e = rw e

three-kept : (x y z : ℤ) → all small (kept x ∷ kept y ∷ kept z ∷ []) ≡ all small (x ∷ y ∷ z ∷ [])
three-kept x y z = simp (all_is, kept_small)

three_small : (x y z : ℤ) → all small (x ∷ y ∷ z ∷ []) ≡ true → (kept x ≡ x) × (kept y ≡ y) × (kept z ≡ z)
three_small x y z e =
    let a = both_true (small x) (all small (y ∷ z ∷ [])) (sym (all_is small x (y ∷ z ∷ [])) ∙ e) in
    let b = both_true (small y) (all small (z ∷ [])) (sym (all_is small y (z ∷ [])) ∙ a.1) in
    let c = both_true (small z) (all small []) (sym (all_is small z []) ∙ b.1) in
    (kept_same x a.0, kept_same y b.0, kept_same z c.0)

-- A matrix x as the code kept it and y as the definition has it, with one line assigned.
record Keeps (line : Matrix → List ℤ) (x y : Matrix) : Type 0 where
  tested : all small (line x) ≡ all small (line y)
  same : all small (line y) ≡ true → x ≡ y

module _ (k : ℤ) (s : ℕ) (m : Matrix) where
  row_keeps : (i : ℕ) → i < 3 → Keeps (row i) (kept_row i k s m) (less_row i k s m)
  unfolding kept_row
  row_keeps zero h = record { tested = three-kept _ _ _; same = λ e. let f = three_small _ _ _ e in rw (f.0, f.1, f.2) }
  row_keeps (suc zero) h = record { tested = three-kept _ _ _; same = λ e. let f = three_small _ _ _ e in rw (f.0, f.1, f.2) }
  row_keeps (suc (suc zero)) h = record { tested = three-kept _ _ _; same = λ e. let f = three_small _ _ _ e in rw (f.0, f.1, f.2) }
  row_keeps (suc (suc (suc i))) h = absurd (omega arith)

  column_keeps : (j : ℕ) → j < 3 → Keeps (column j) (kept_column j k s m) (less_column j k s m)
  unfolding kept_column
  column_keeps zero h = record { tested = three-kept _ _ _; same = λ e. let f = three_small _ _ _ e in rw (f.0, f.1, f.2) }
  column_keeps (suc zero) h = record { tested = three-kept _ _ _; same = λ e. let f = three_small _ _ _ e in rw (f.0, f.1, f.2) }
  column_keeps (suc (suc zero)) h = record { tested = three-kept _ _ _; same = λ e. let f = three_small _ _ _ e in rw (f.0, f.1, f.2) }
  column_keeps (suc (suc (suc j))) h = absurd (omega arith)

abbrev graded : Bool → Bool → Grade
graded b u = cond b (cond u Cleared Idle) Strayed

-- A step that assigns a line of two matrices, with the code's test b of both lines.
module _ {line : Matrix → List ℤ} {x y m n m' n' : Matrix} (v : Keeps line m' x) (w : Keeps line n' y) (em : m ≡ m') (en : n ≡ n') where
  lines : (all small (line m) && all small (line n)) ≡ all small (line x ++ line y)
  lines = ap₂ (λ (a b : Matrix). all small (line a) && all small (line b)) em en ∙ ap₂ (λ (a b : Bool). a && b) v.tested w.tested ∙ sym (all_append small (line x) (line y))

  step-graded : (f : Matrix → Matrix → State) (u b : Bool) → b ≡ (all small (line m) && all small (line n)) → Graded (record { state = f x y; assigned = line x ++ line y; updated = u }) (graded b u) (f m n)
  step-graded f u b e =
      record {
        same-grade = ap (λ (c : Bool). graded c u) (e ∙ lines);
        same_state = λ q.
            let both = both_true (all small (line x)) (all small (line y)) (sym (all_append small (line x) (line y)) ∙ q) in
            ap₂ f (em ∙ v.same both.0) (en ∙ w.same both.1);
      }

-- ---- one step behind the other

-- the pass q, begun where p stands, put behind p
abbrev joined : Pass → Pass → Pass
joined p q = record { state = q.state; assigned = p.assigned ++ q.assigned; updated = p.updated || q.updated }

-- what a step does is that of the state alone, put behind what stands
abbrev Lifts : (Pass → Pass) → Type 0
Lifts f = (p : Pass) → f p ≡ joined p (f (plain p.state))

worse_is : (b u c v : Bool) → worse (graded b u) (graded c v) ≡ graded (b && c) (u || v)
worse_is true true true true = refl
worse_is true true true false = refl
worse_is true true false v = refl
worse_is true false true true = refl
worse_is true false true false = refl
worse_is true false false v = refl
worse_is false u true true = refl
worse_is false u true false = refl
worse_is false u false v = refl

graded_then : (f : Pass → Pass) → Lifts f → (p : Pass) (g h : Grade) (t u : State) → Graded p g t → Graded (f (plain t)) h u → Graded (f p) (worse g h) u
graded_then f w p g h t u a b = record { same-grade = by (all small p.assigned) refl; same_state = reached }
  where
    split : all small (f p).assigned ≡ (all small p.assigned && all small (f (plain p.state)).assigned)
    split = ap (λ (q : Pass). all small q.assigned) (w p) ∙ all_append small p.assigned (f (plain p.state)).assigned

    by : (c : Bool) → all small p.assigned ≡ c → worse g h ≡ grade (f p)
    by true e =
        let here = a.same_state e in
        rw (a.same-grade, b.same-grade, here, split, ap (λ (q : Pass). q.updated) (w p)) (worse_is (all small p.assigned) p.updated (all small (f (plain p.state)).assigned) (f (plain p.state)).updated)
    by false e = rw (a.same-grade, b.same-grade, split, e) (worse_is false false (all small (f (plain t)).assigned) (f (plain t)).updated)

    reached : all small (f p).assigned ≡ true → u ≡ (f p).state
    reached e =
        let parts = both_true (all small p.assigned) (all small (f (plain p.state)).assigned) (sym split ∙ e) in
        let here = a.same_state parts.0 in
        b.same_state (rw here parts.1) ∙ ap (λ (x : State). (f (plain x)).state) here ∙ sym (ap (λ (q : Pass). q.state) (w p))

pub graded_none : (t : State) → Graded (plain t) Idle t
unfolding all
graded_none t = record { same-grade = refl; same_state = λ _. refl }

-- ---- the steps that clear

joined_none : Lifts (λ p. p)
joined_none p = rw (append-nil p.assigned, or-false p.updated)

joined_some : (p : Pass) (u : State) (x y : List ℤ) → record { state = u; assigned = p.assigned ++ x ++ y; updated = true } ≡ joined p (record { state = u; assigned = x ++ y; updated = true })
joined_some p u x y = rw (append_assoc p.assigned x y, or-true p.updated)

lifts_if : (f : Pass → Pass) → Lifts f → (b : Bool) → Lifts (λ p. cond b p (f p))
lifts_if f w true p = joined_none p
lifts_if f w false p = w p

module _ (s i : ℕ) where
  row_lifts : (p : Pass) (n : ℕ) → nat_abs (row_quotient s i p) ≡ n → clear_row s i p ≡ joined p (clear_row s i (plain p.state))
  unfolding clear_row
  row_lifts p zero e = rw e (joined_none p)
  row_lifts p (suc n) e = rw e (joined_some p (row_cleared s i p).state (row i (row_cleared s i p).state.d) (row i (row_cleared s i p).state.l))

  column_lifts : (p : Pass) (n : ℕ) → nat_abs (column_quotient s i p) ≡ n → clear_column s i p ≡ joined p (clear_column s i (plain p.state))
  unfolding clear_column
  column_lifts p zero e = rw e (joined_none p)
  column_lifts p (suc n) e = rw e (joined_some p (column_cleared s i p).state (column i (column_cleared s i p).state.d) (column i (column_cleared s i p).state.r))

  row_below_lifts : Lifts (row_below s i)
  row_below_lifts = lifts_if (clear_row s i) (λ p. row_lifts p (nat_abs (row_quotient s i p)) refl) (leb i s)

  column_right_lifts : Lifts (column_right s i)
  column_right_lifts = lifts_if (clear_column s i) (λ p. column_lifts p (nat_abs (column_quotient s i p)) refl) (leb i s)

  module _ (t : State) where
    abbrev row_k : ℤ
    row_k = row_quotient s i (plain t)

    abbrev column_k : ℤ
    column_k = column_quotient s i (plain t)

    pub row_not : nat_abs row_k ≡ 0 → Graded (clear_row s i (plain t)) Idle t
    unfolding clear_row
    row_not z = rw z (graded_none t)

    pub column_not : nat_abs column_k ≡ 0 → Graded (clear_column s i (plain t)) Idle t
    unfolding clear_column
    column_not z = rw z (graded_none t)

    -- Where the quotient is not 0: both matrices as they are kept, graded by a test of each.
    module _ (b : Bool) (m n : Matrix) (h : i < 3) where
      pub row-graded : (nat_abs row_k ≡ 0 → ⊥) → m ≡ kept_row i row_k s t.d → n ≡ kept_row i row_k s t.l → b ≡ (all small (row i m) && all small (row i n)) → Graded (clear_row s i (plain t)) (cond b Cleared Strayed) (record { d = m; l = n; r = t.r })
      row-graded z em en e =
          row_cases (λ p. Graded p (cond b Cleared Strayed) (record { d = m; l = n; r = t.r })) s i (plain t) (λ o. absurd (z o))
          (step-graded (row_keeps row_k s t.d i h) (row_keeps row_k s t.l i h) em en (λ x y. record { d = x; l = y; r = t.r }) true b e)

      pub column-graded : (nat_abs column_k ≡ 0 → ⊥) → m ≡ kept_column i column_k s t.d → n ≡ kept_column i column_k s t.r → b ≡ (all small (column i m) && all small (column i n)) → Graded (clear_column s i (plain t)) (cond b Cleared Strayed) (record { d = m; l = t.l; r = n })
      column-graded z em en e =
          column_cases (λ p. Graded p (cond b Cleared Strayed) (record { d = m; l = t.l; r = n })) s i (plain t) (λ o. absurd (z o))
          (step-graded (column_keeps column_k s t.d i h) (column_keeps column_k s t.r i h) em en (λ x y. record { d = x; l = t.l; r = y }) true b e)

-- ---- the sign: a column less twice itself is the column negated

twice_less : (x : ℤ) → x -ℤ pos 2 *ℤ x ≡ neg_ℤ x
twice_less x = solve (x ∷ []) (var 0 ⊖ con (pos 2) ⊗ var 0) (minus (var 0)) tt

less_twice : (s : ℕ) (m : Matrix) → s < 3 → less_column s (pos 2) s m ≡ negate_column s m
less_twice zero m h = simp (twice_less)
less_twice (suc zero) m h = simp (twice_less)
less_twice (suc (suc zero)) m h = simp (twice_less)
less_twice (suc (suc (suc s))) m h = absurd (omega arith)

negate_keeps : (s : ℕ) (m : Matrix) → s < 3 → Keeps (column s) (kept_column s (pos 2) s m) (negate_column s m)
negate_keeps s m h = subst (Keeps (column s) (kept_column s (pos 2) s m)) (less_twice s m h) (column_keeps (pos 2) s m s h)

pub signed_not : (s : ℕ) (t : State) (n : ℕ) → at t.d s s ≡ pos n → Graded (signed s t) Idle t
unfolding signed
signed_not s t n e = rw e (graded_none t)

module _ (s : ℕ) (t : State) (k : ℕ) (b : Bool) (m n : Matrix) (h : s < 3) where
  pub signed-graded : at t.d s s ≡ negsuc k → m ≡ kept_column s (pos 2) s t.d → n ≡ kept_column s (pos 2) s t.r → b ≡ (all small (column s m) && all small (column s n)) → Graded (signed s t) (cond b Idle Strayed) (record { d = m; l = t.l; r = n })
  unfolding signed
  signed-graded z em en e = rw z (step-graded (negate_keeps s t.d h) (negate_keeps s t.r h) em en (λ x y. record { d = x; l = t.l; r = y }) false b e)

-- ---- the steps behind one another are the pass

cleared_is : (s : ℕ) (p : Pass) → s < 3 → column_right s 2 (column_right s 1 (row_below s 2 (row_below s 1 p))) ≡ cleared s p
unfolding cleared
cleared_is zero p h = refl
cleared_is (suc zero) p h = refl
cleared_is (suc (suc zero)) p h = refl
cleared_is (suc (suc (suc s))) p h = absurd (omega arith)

pub sweep_graded : (s : ℕ) (t t₁ t₂ t₃ t₄ t₅ : State) (a b c e f : Grade) → s < 3 → Graded (signed s t) a t₁ → Graded (row_below s 1 (plain t₁)) b t₂ → Graded (row_below s 2 (plain t₂)) c t₃ → Graded (column_right s 1 (plain t₃)) e t₄ → Graded (column_right s 2 (plain t₄)) f t₅ → Graded (cleared s (signed s t)) (worse (worse (worse (worse a b) c) e) f) t₅
sweep_graded s t t₁ t₂ t₃ t₄ t₅ a b c e f h g₁ g₂ g₃ g₄ g₅ =
    let p₁ = signed s t in
    let p₂ = row_below s 1 p₁ in
    let p₃ = row_below s 2 p₂ in
    let p₄ = column_right s 1 p₃ in
    let w₂ = graded_then (row_below s 1) (row_below_lifts s 1) p₁ a b t₁ t₂ g₁ g₂ in
    let w₃ = graded_then (row_below s 2) (row_below_lifts s 2) p₂ (worse a b) c t₂ t₃ w₂ g₃ in
    let w₄ = graded_then (column_right s 1) (column_right_lifts s 1) p₃ (worse (worse a b) c) e t₃ t₄ w₃ g₄ in
    let w₅ = graded_then (column_right s 2) (column_right_lifts s 2) p₄ (worse (worse (worse a b) c) e) f t₄ t₅ w₄ g₅ in
    subst (λ (p : Pass). Graded p (worse (worse (worse (worse a b) c) e) f) t₅) (cleared_is s p₁ h) w₅
