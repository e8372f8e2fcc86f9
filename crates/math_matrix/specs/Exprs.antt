-- The solver for vectors and matrices: Matrix's words over expressions, so that a law of matrices is decided entry by
-- entry.
use Rattle.std.specs.Prelude.{ℕ, ◌+◌, ◌*◌, ◌≡◌, Bool, true, false, ◌&&◌, List, [], ◌∷◌, T, ℤ}
use Rattle.definitions.specs.Matrix.{Matrix, at, mat, item, three, next, after}
use Rattle.math_matrix.specs.Solve.{Expr, var, ◌⊕◌, ◌⊖◌, ◌⊗◌, eval, agree, solve}

and_both : (a b : Bool) → T (a && b) → T a × T b
and_both true true t = (tt, tt)
and_both true false t = absurd t
and_both false true t = absurd t
and_both false false t = absurd t

-- a test of 0, 1 and 2
abbrev pub thrice : (ℕ → Bool) → Bool
thrice t = t 0 && (t 1 && t 2)

passed : (t : ℕ → Bool) → T (thrice t) → T (t 0) × T (t 1) × T (t 2)
passed t h =
    let a = and_both (t 0) (t 1 && t 2) h in
    let b = and_both (t 1) (t 2) a.1 in
    (a.0, b.0, b.1)

pub three_eq : {A : Type 0} (f g : ℕ → A) → f 0 ≡ g 0 → f 1 ≡ g 1 → f 2 ≡ g 2 → three f ≡ three g
three_eq f g p q r = λ i. p i ∷ q i ∷ r i ∷ []

pub mat_eq : {A : Type 0} (f g : ℕ → ℕ → A) → three (f 0) ≡ three (g 0) → three (f 1) ≡ three (g 1) → three (f 2) ≡ three (g 2) → mat f ≡ mat g
mat_eq f g p q r = λ i. p i ∷ q i ∷ r i ∷ []

abbrev pub agree_v : (ℕ → Expr) → (ℕ → Expr) → Bool
agree_v e f = thrice (λ i. agree (e i) (f i))

pub solve_v : (ρ : List ℤ) (e f : ℕ → Expr) → T (agree_v e f) → three (λ i. eval ρ (e i)) ≡ three (λ i. eval ρ (f i))
solve_v ρ e f t =
    let h = passed (λ i. agree (e i) (f i)) t in
    three_eq (λ i. eval ρ (e i)) (λ i. eval ρ (f i)) (solve ρ (e 0) (f 0) h.0) (solve ρ (e 1) (f 1) h.1) (solve ρ (e 2) (f 2) h.2)

abbrev pub agree_m : (ℕ → ℕ → Expr) → (ℕ → ℕ → Expr) → Bool
agree_m e f = thrice (λ i. agree_v (e i) (f i))

pub solve_m : (ρ : List ℤ) (e f : ℕ → ℕ → Expr) → T (agree_m e f) → mat (λ i j. eval ρ (e i j)) ≡ mat (λ i j. eval ρ (f i j))
solve_m ρ e f t =
    let h = passed (λ i. agree_v (e i) (f i)) t in
    mat_eq (λ i j. eval ρ (e i j)) (λ i j. eval ρ (f i j)) (solve_v ρ (e 0) (f 0) h.0) (solve_v ρ (e 1) (f 1) h.1) (solve_v ρ (e 2) (f 2) h.2)

-- ---- Matrix's words

-- the nine entries, row by row, and the variables that stand for them where k entries come before
abbrev pub entries : Matrix → List ℤ
entries m = at m 0 0 ∷ at m 0 1 ∷ at m 0 2 ∷ at m 1 0 ∷ at m 1 1 ∷ at m 1 2 ∷ at m 2 0 ∷ at m 2 1 ∷ at m 2 2 ∷ []

abbrev pub entries_e : ℕ → ℕ → ℕ → Expr
entries_e k i j = var (k + (3 * i + j))

abbrev pub items : List ℤ → List ℤ
items v = item v 0 ∷ item v 1 ∷ item v 2 ∷ []

abbrev pub items_e : ℕ → ℕ → Expr
items_e k i = var (k + i)

abbrev pub dot_e : Expr → Expr → Expr → Expr → Expr → Expr → Expr
dot_e a b c x y z = a ⊗ x ⊕ b ⊗ y ⊕ c ⊗ z

abbrev pub mul_e : (ℕ → ℕ → Expr) → (ℕ → ℕ → Expr) → ℕ → ℕ → Expr
mul_e a b i j = dot_e (a i 0) (a i 1) (a i 2) (b 0 j) (b 1 j) (b 2 j)

abbrev pub apply_e : (ℕ → ℕ → Expr) → (ℕ → Expr) → ℕ → Expr
apply_e a v i = dot_e (a i 0) (a i 1) (a i 2) (v 0) (v 1) (v 2)

abbrev pub cofactor_e : (ℕ → ℕ → Expr) → ℕ → ℕ → Expr
cofactor_e a i j = a (next i) (next j) ⊗ a (after i) (after j) ⊖ a (next i) (after j) ⊗ a (after i) (next j)

abbrev pub det_e : (ℕ → ℕ → Expr) → Expr
det_e a = dot_e (a 0 0) (a 0 1) (a 0 2) (cofactor_e a 0 0) (cofactor_e a 0 1) (cofactor_e a 0 2)
