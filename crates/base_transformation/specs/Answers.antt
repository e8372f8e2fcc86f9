-- What stands between the parts of the calls.
use Rattle.std.specs.Prelude.{◌≡◌, ℕ, ◌*◌, ◌≤◌, true, false, ◌⊎◌, Result, Ok, Err, unsigned_abs}
use Rattle.definitions.specs.declared.Refusal.{Refusal}
use Rattle.definitions.specs.declared.Refusal.TheVariants.{Determinant, Diagonalisation}
use Rattle.definitions.specs.Limits.{bad_copies}
use Rattle.definitions.specs.Matrix.{Matrix, at}
use Rattle.definitions.specs.Snf.{Leaves}
use Rattle.definitions.specs.Calls.{IsSnf}
use Rattle.math_snf.specs.Step.{state_of}
use Rattle.math_snf.specs.declared.SmithForm.{SmithForm}

-- The diagonalisation of c, or the refusal: there are not from 1 to 64 copies, or the run left its range.
abbrev pub Diagonalised : Matrix → Result SmithForm Refusal → Type 0
Diagonalised c (Ok s) = (bad_copies c ≡ false) × (Leaves c → ⊥) × IsSnf c (state_of s)
Diagonalised c (Err r) = ((r ≡ Determinant) × (bad_copies c ≡ true)) ⊎ ((r ≡ Diagonalisation) × (bad_copies c ≡ false) × Leaves c)

-- D's diagonal numbers have a product up to 64 that the room holds
pub record Ready (d : Matrix) (room : ℕ) : Type 0 where
  pub few : unsigned_abs (at d 0 0) * unsigned_abs (at d 1 1) * unsigned_abs (at d 2 2) ≤ 64
  pub fits : unsigned_abs (at d 0 0) * unsigned_abs (at d 1 1) * unsigned_abs (at d 2 2) ≤ room
