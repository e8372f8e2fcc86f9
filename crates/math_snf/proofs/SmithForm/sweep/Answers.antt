-- `sweep`: the steps behind one another are the pass, and the greatest grade is its own.
use native.Mathlib.Omega.{arith}
use mathlib.Core.Path.{◌≡◌, refl}
use Rattle.std.specs.Ordering.{ord_max}
use Rattle.math_snf.specs.contracts.GradeOrd.TheImpl.{cmp-value}
use Rattle.math_snf.specs.declared.Grade.{Grade}
use Rattle.math_snf.specs.declared.Grade.TheVariants.{Idle, Cleared, Strayed}
use Rattle.math_snf.specs.Step.{worse}
use Rattle.math_snf.proofs.Grades.{sweep_graded}
use Rattle.math_snf.proofs.SmithForm.sweep.Goals as goal

-- the greater grade is that of both steps
greater : (g h : Grade) → ord_max cmp-value.it g h ≡ worse g h
greater Idle Idle = refl
greater Idle Cleared = refl
greater Idle Strayed = refl
greater Cleared Idle = refl
greater Cleared Cleared = refl
greater Cleared Strayed = refl
greater Strayed Idle = refl
greater Strayed Cleared = refl
greater Strayed Strayed = refl

pub returns : goal.returns
returns c =
    simp (c.max-4.ensures, c.max-3.ensures, c.max-2.ensures, c.max.ensures, greater)
    (sweep_graded _ _ _ _ _ _ _ _ _ _ _ _ (omega arith) c.sign.ensures c.clear_row.ensures c.clear_row-2.ensures c.clear_column.ensures c.clear_column-2.ensures)
