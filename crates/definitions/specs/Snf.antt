-- "Diagonalise (`SNF::new`): LCR = D, pivot of least magnitude, first in row order", stage by stage and pass by pass.
use Rattle.std.specs.Prelude.{ℕ, zero, suc, ◌≡◌, Bool, true, false, not, cond, List, [], ◌∷◌, ◌++◌, map, T, leb, eqb, ℤ, pos, negsuc, neg_ℤ, nat_abs, ◌-ℤ◌, ◌*ℤ◌, length}
use Rattle.std.proofs.Math.Option.{Option, none, some}
use Rattle.std.specs.Int.Signed.{quot_z}
use Rattle.definitions.specs.declared.Stages.{Stages}
use Rattle.definitions.specs.Lists.{all, each, up_to}
use Rattle.definitions.specs.Limits.{small}
use Rattle.definitions.specs.Matrix.{Matrix, at, mat, three, identity, inverse, apply}

-- D, L and R as they stand
pub record State : Type 0 where
  pub d : Matrix
  pub l : Matrix
  pub r : Matrix

-- ---- the pivot

-- a place: row and column
abbrev pub Place : Type 0
Place = ℕ × ℕ

-- the places with row and column from s on, in row order
unfoldable pub places : ℕ → List Place
places zero = (0, 0) ∷ (0, 1) ∷ (0, 2) ∷ (1, 0) ∷ (1, 1) ∷ (1, 2) ∷ (2, 0) ∷ (2, 1) ∷ (2, 2) ∷ []
places (suc zero) = (1, 1) ∷ (1, 2) ∷ (2, 1) ∷ (2, 2) ∷ []
places (suc (suc s)) = (2, 2) ∷ []

abbrev pub size_at : Matrix → Place → ℕ
size_at m p = nat_abs (at m p.0 p.1)

-- p, unless it is 0 or a later one is smaller
unfoldable pub lesser : Matrix → Place → Option Place → Option Place
lesser m p none = cond (eqb (size_at m p) 0) none (some p)
lesser m p (some q) = cond (eqb (size_at m p) 0) (some q) (cond (leb (size_at m p) (size_at m q)) (some p) (some q))

unfoldable pub least : Matrix → List Place → Option Place
least m [] = none
least m (p ∷ ps) = lesser m p (least m ps)

-- "pivot of least magnitude, first in row order", among the entries that are not 0
abbrev pub pivot : ℕ → Matrix → Option Place
pivot s m = least m (places s)

-- ---- the steps of a pass

abbrev pub swapped : ℕ → ℕ → ℕ → ℕ
swapped a b i = cond (eqb i a) b (cond (eqb i b) a i)

abbrev pub swap_rows : ℕ → ℕ → Matrix → Matrix
swap_rows a b m = mat (λ i j. at m (swapped a b i) j)

abbrev pub swap_columns : ℕ → ℕ → Matrix → Matrix
swap_columns a b m = mat (λ i j. at m i (swapped a b j))

abbrev pub negate_column : ℕ → Matrix → Matrix
negate_column s m = mat (λ i j. cond (eqb j s) (neg_ℤ (at m i j)) (at m i j))

-- row i less k times row s, and column j less k times column s
abbrev pub less_row : ℕ → ℤ → ℕ → Matrix → Matrix
less_row i k s m = mat (λ a b. cond (eqb a i) (at m a b -ℤ k *ℤ at m s b) (at m a b))

abbrev pub less_column : ℕ → ℤ → ℕ → Matrix → Matrix
less_column j k s m = mat (λ a b. cond (eqb b j) (at m a b -ℤ k *ℤ at m a s) (at m a b))

abbrev pub row : ℕ → Matrix → List ℤ
row i m = three (λ j. at m i j)

abbrev pub column : ℕ → Matrix → List ℤ
column j m = three (λ i. at m i j)

-- A state on the way, with every entry that the pass has assigned, and whether it has updated.
pub record Pass : Type 0 where
  pub state : State
  pub assigned : List ℤ
  pub updated : Bool

-- the pivot is moved to (s, s)
unfoldable pub moved : ℕ → Place → State → State
moved s p t =
    record {
      d = swap_columns s p.1 (swap_rows s p.0 t.d);
      l = swap_rows s p.0 t.l;
      r = swap_columns s p.1 t.r;
    }

-- "no diagonal number is left below 0": a negative pivot negates its column of D and R
unfoldable pub signed : ℕ → State → Pass
signed s t = by (at t.d s s)
  where
    by : ℤ → Pass
    by (pos n) = record { state = t; assigned = []; updated = false }
    by (negsuc n) =
        let d' = negate_column s t.d in
        let r' = negate_column s t.r in
        record { state = record { d = d'; l = t.l; r = r' }; assigned = column s d' ++ column s r'; updated = false }

-- row i of D and L loses k times row s, k the quotient of the entry by the pivot, cut toward 0; with k = 0 nothing is
-- done
unfoldable pub clear_row : ℕ → ℕ → Pass → Pass
clear_row s i p = by (nat_abs k)
  where
    k : ℤ
    k = quot_z (at p.state.d i s) (at p.state.d s s)

    by : ℕ → Pass
    by zero = p
    by (suc n) =
        let d' = less_row i k s p.state.d in
        let l' = less_row i k s p.state.l in
        record {
          state = record { d = d'; l = l'; r = p.state.r };
          assigned = p.assigned ++ row i d' ++ row i l';
          updated = true;
        }

-- the same of column j of D and R
unfoldable pub clear_column : ℕ → ℕ → Pass → Pass
clear_column s j p = by (nat_abs k)
  where
    k : ℤ
    k = quot_z (at p.state.d s j) (at p.state.d s s)

    by : ℕ → Pass
    by zero = p
    by (suc n) =
        let d' = less_column j k s p.state.d in
        let r' = less_column j k s p.state.r in
        record {
          state = record { d = d'; l = p.state.l; r = r' };
          assigned = p.assigned ++ column j d' ++ column j r';
          updated = true;
        }

-- the rows below the pivot, then the columns right of it
unfoldable pub cleared : ℕ → Pass → Pass
unfolding clear_row clear_column
cleared zero p = clear_column 0 2 (clear_column 0 1 (clear_row 0 2 (clear_row 0 1 p)))
cleared (suc zero) p = clear_column 1 2 (clear_row 1 2 p)
cleared (suc (suc s)) p = p

-- one pass of the stage s with its pivot at p
abbrev pub pass : ℕ → Place → State → Pass
pass s p t = cleared s (signed s (moved s p t))

-- ---- stages

-- The stage s takes a state to a state in passes, each with what it assigned: it ends where no pivot is left, or after
-- a pass that updates nothing.
pub data Stage (s : ℕ) : State → List (List ℤ) → State → Type 0 where
  empty : {t : State} → pivot s t.d ≡ none → Stage s t [] t
  last :
      {t : State} (p : Place) → pivot s t.d ≡ some p → (pass s p t).updated ≡ false →
      Stage s t ((pass s p t).assigned ∷ []) (pass s p t).state
  again :
      {t u : State} {rest : List (List ℤ)} (p : Place) → pivot s t.d ≡ some p → (pass s p t).updated ≡ true →
      Stage s (pass s p t).state rest u → Stage s t ((pass s p t).assigned ∷ rest) u

abbrev pub start : Matrix → State
start m = record { d = m; l = identity; r = identity }

-- The whole run on m: three stages. A stage's number of passes is the length of its list.
pub record Run (m : Matrix) : Type 0 where
  pub first : State
  pub second : State
  pub third : State
  pub assigned₀ : List (List ℤ)
  pub assigned₁ : List (List ℤ)
  pub assigned₂ : List (List ℤ)
  pub stage₀ : Stage 0 (start m) assigned₀ first
  pub stage₁ : Stage 1 first assigned₁ second
  pub stage₂ : Stage 2 second assigned₂ third

abbrev pub all_assigned : {m : Matrix} → Run m → List ℤ
all_assigned r = each (λ a. a) (r.assigned₀ ++ r.assigned₁ ++ r.assigned₂)

-- Refusal 8 of the matrix m: "an assigned entry of D, L or R leaves -511..511".
abbrev pub Leaves : Matrix → Type 0
Leaves m = (r : Run m) × T (not (all small (all_assigned r)))

-- ---- passes, of request M-113 of document 02

-- every entry that these passes have assigned is in -511..511
abbrev pub all_small : List (List ℤ) → Bool
all_small l = all small (each (λ a. a) l)

-- "the passes begun up to there" of a stage: up to the first that assigns an entry outside -511..511, that one with
-- them; all of them where none does
unfoldable pub begun : List (List ℤ) → ℕ
begun [] = 0
begun (a ∷ l) = cond (all small a) (suc (begun l)) 1

-- the same of three stages, by what the passes of each have assigned, "stages not reached counting 0"
abbrev pub begun_in : List (List ℤ) → List (List ℤ) → List (List ℤ) → Stages
begun_in a b c =
    record { first = begun a; second = cond (all_small a) (begun b) 0; third = cond (all_small (a ++ b)) (begun c) 0 }

abbrev pub begun_of : {m : Matrix} → Run m → Stages
begun_of r = begun_in r.assigned₀ r.assigned₁ r.assigned₂

-- "Count a pass each time a nonzero pivot is chosen": a stage has a list of assigned entries for each
abbrev pub passes_of : {m : Matrix} → Run m → Stages
passes_of r =
    record { first = length r.assigned₀; second = length r.assigned₁; third = length r.assigned₂ }

-- ---- the answer

-- "Its three diagonal numbers are reported as the invariant factors"
abbrev pub diagonal : Matrix → List ℤ
diagonal d = three (λ i. at d i i)

-- ---- points

-- the vectors f with each fᵢ from 0 below dᵢ, "last fastest"
unfoldable pub box : ℕ → ℕ → ℕ → List (List ℤ)
box a b c = each (λ i. each (λ j. map (λ k. pos i ∷ pos j ∷ pos k ∷ []) (up_to c)) (up_to b)) (up_to a)

-- "Points: L⁻¹f"
unfoldable pub points : State → List (List ℤ)
unfolding box
points t =
    map (λ f. apply (inverse t.l) f)
    (box (nat_abs (at t.d 0 0)) (nat_abs (at t.d 1 1)) (nat_abs (at t.d 2 2)))
