-- `stage`: a pass takes the stage on or ends it, by its grade.
use Rattle.std.proofs.Common.{◌+◌, arith}
use Rattle.math_snf.specs.Step.{state_of}
use Rattle.math_snf.proofs.Stages.{At, passes_few, at_start, at_next, at_none, left_falls}
use Rattle.math_snf.proofs.SmithForm.stage.Goals.{In-Some}
use Rattle.math_snf.proofs.SmithForm.stage.Goals as goal

next : (c : In-Some) → At c.args.s.at (state_of c.args.self.now) c.in-Some.grade (c.loop-grade.n + 1) (state_of c.one_pass.new.self)
next c =
    at_next c.args.s.at (omega arith) _ (state_of c.loop-grade.self) c.loop-grade.n c.loop-grade.invariant c.in-Some.ensures.d_bound c.in-Some.grade _
    c.in-Some.ensures.passed

pub loop-grade-init : goal.loop-grade-init
loop-grade-init c = at_start c.args.s.at _

pub overflow_add-n : goal.overflow_add-n
overflow_add-n c =
    let h = passes_few c.args.s.at (omega arith) _ (state_of c.loop-grade.self) c.loop-grade.n c.loop-grade.invariant c.in-Some.ensures.d_bound in
    record { fits = omega arith }

pub returns-in-Idle : goal.returns-in-Idle
returns-in-Idle c = rw c.in-Idle.is at (next (goal.at.returns-in-Idle c).In-Some)

pub loop-grade-smaller : goal.loop-grade-smaller
loop-grade-smaller c = left_falls c.args.s.at (omega arith) (state_of c.loop-grade.self) _ (rw c.in-Cleared.is at c.in-Some.ensures.passed)

pub loop-grade-preserved : goal.loop-grade-preserved
loop-grade-preserved c = rw c.in-Cleared.is at (next (goal.at.loop-grade-preserved c).In-Some)

pub returns-in-Strayed : goal.returns-in-Strayed
returns-in-Strayed c = rw c.in-Strayed.is at (next (goal.at.returns-in-Strayed c).In-Some)

pub returns : goal.returns
returns c =
    at_none c.args.s.at (omega arith) _ (state_of c.loop-grade.self) c.loop-grade.n c.loop-grade.invariant c.in_default.ensures.d_bound _
    c.in_default.ensures.passed
