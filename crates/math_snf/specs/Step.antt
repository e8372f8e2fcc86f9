-- What the steps of a pass say of a state: the definition's pass, and how far it went.
use Rattle.std.specs.Prelude.{ℕ, ◌≡◌, Bool, true, false, cond, List, leb, eqb, ℤ, pos, ◌-ℤ◌, ◌*ℤ◌}
use Rattle.std.proofs.Math.Option.{Option, none, some}
use Rattle.definitions.specs.declared.Stages.{Stages}
use Rattle.definitions.specs.Lists.{all, each}
use Rattle.std.specs.Prelude.{Some, None}
use Rattle.std.specs.Prelude as Prelude
use Rattle.math_snf.specs.declared.line.Line.{Line}
use Rattle.math_snf.specs.declared.SmithForm.{SmithForm}
use Rattle.math_snf.specs.declared.Grade.{Grade}
use Rattle.math_snf.specs.declared.Grade.TheVariants.{Idle, Cleared, Strayed}
use Rattle.definitions.specs.Matrix.{Matrix, at, item, three, mat}
use Rattle.definitions.specs.Snf.{State, Pass, Place, Stage, pivot, clear_row, clear_column, pass, Run, all_assigned}
use Rattle.definitions.specs.Snf.{begun, begun_of}
use Rattle.definitions.specs.Limits.{small}

-- an assigned entry as 16 bits hold it: 512 stands for one that has left -511..511
unfoldable pub kept : ℤ → ℤ
kept x = cond (small x) x (pos 512)

unfoldable pub kept_row : ℕ → ℤ → ℕ → Matrix → Matrix
kept_row i k s m = mat (λ a b. cond (eqb a i) (kept (at m a b -ℤ k *ℤ at m s b)) (at m a b))

unfoldable pub kept_column : ℕ → ℤ → ℕ → Matrix → Matrix
kept_column j k s m = mat (λ a b. cond (eqb b j) (kept (at m a b -ℤ k *ℤ at m a s)) (at m a b))

-- the row x with what is kept of x[j] less k times x[s] at j
unfoldable pub kept_line : ℕ → ℤ → ℕ → List ℤ → List ℤ
kept_line j k s x = three (λ b. cond (eqb b j) (kept (item x b -ℤ k *ℤ item x s)) (item x b))

-- the code's state as the definition's
abbrev pub state_of : SmithForm → State
state_of t = record { d = t.d; l = t.l; r = t.r }

-- whether an assigned entry has left the range, and otherwise whether the pass has updated
abbrev pub grade : Pass → Grade
grade p = cond (all small p.assigned) (cond p.updated Cleared Idle) Strayed

-- the grade of two steps, one behind the other
abbrev pub worse : Grade → Grade → Grade
worse Idle h = h
worse Cleared Strayed = Strayed
worse Cleared h = Cleared
worse Strayed h = Strayed

-- The code has come to the grade g and the state t, which is the pass's own while every assigned entry is in range.
pub record Graded (p : Pass) (g : Grade) (t : State) : Type 0 where
  pub same-grade : g ≡ grade p
  pub same_state : all small p.assigned ≡ true → t ≡ p.state

-- rows and columns up to s are left alone
abbrev pub row_below : ℕ → ℕ → Pass → Pass
row_below s i p = cond (leb i s) p (clear_row s i p)

abbrev pub column_right : ℕ → ℕ → Pass → Pass
column_right s j p = cond (leb j s) p (clear_column s j p)

-- the code's pivot as a place
abbrev pub place_of : Prelude.Option (Line × Line) → Option Place
place_of (Some p) = some (p.0.at, p.1.at)
place_of None = none

-- The next pass of the stage s: none where no pivot is left, and otherwise that of the pivot, with its grade.
abbrev pub Passed : ℕ → State → Prelude.Option Grade → State → Type 0
Passed s t None u = (pivot s t.d ≡ none) × (u ≡ t)
Passed s t (Some g) u = (p : Place) × (pivot s t.d ≡ some p) × Graded (pass s p t) g u

-- one more than the largest magnitude in 16 bits: a stage has no more passes
abbrev pub most_passes : ℕ
most_passes = 32769

-- The stage s from t, by its definition, assigns entries in range only where b; where it does, the code has come to its
-- end.
pub record Ended (s : ℕ) (t : State) (b : Bool) (t' : State) : Type 0 where
  pub assigned : List (List ℤ)
  pub «end» : State
  pub stage : Stage s t assigned «end»
  pub is_in_range : all small (each (λ a. a) assigned) ≡ b
  pub same_state : b ≡ true → t' ≡ «end»

-- The same of the whole run on m.
pub record Ran (m : Matrix) (b : Bool) (t' : State) : Type 0 where
  pub run : Run m
  pub is_in_range : all small (all_assigned run) ≡ b
  pub same_state : b ≡ true → t' ≡ run.third

-- Both with the passes that have begun: n of the stage, and those of each stage of the run.
pub record EndedIn (s : ℕ) (t : State) (b : Bool) (n : ℕ) (t' : State) : Type 0 where
  pub ended : Ended s t b t'
  pub counted : begun ended.assigned ≡ n

pub record RanIn (m : Matrix) (b : Bool) (n : Stages) (t' : State) : Type 0 where
  pub ran : Ran m b t'
  pub counted : begun_of ran.run ≡ n

-- The run on m leaves the range, with the passes begun up to there.
pub record LeftIn (m : Matrix) (n : Stages) : Type 0 where
  pub run : Run m
  pub leaves : all small (all_assigned run) ≡ false
  pub counted : begun_of run ≡ n
