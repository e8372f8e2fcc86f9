-- The stage goes on as it would from its start, and each pass leaves less of it.
use Rattle.math_snf.specs.Step.{state_of}
use Rattle.math_snf.proofs.Stages.{Going, left}
use Rattle.math_snf.proofs.SmithForm.stage.Given as goal

abbrev pub invariant-loop-grade : goal.invariant-loop-grade
invariant-loop-grade l = Going l.s.at (state_of l.initial.self) l.n (state_of l.self)

abbrev pub decreases-loop-grade : goal.decreases-loop-grade
decreases-loop-grade l = left l.s.at (state_of l.self)
