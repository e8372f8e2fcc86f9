-- `passes`: the verdict is that of the run, and so are the passes.
use Rattle.std.proofs.Common.{refl, sym, ap, ◌∙◌, true}
use mathlib.Core.Option.{some}
use Rattle.math_snf_laws.specs.Begun.{all-begun}
use Rattle.math_snf_laws.specs.Passes.{outside_refused, leaving_refused, staying_accepted}
use Rattle.math_snf.specs.Step.{state_of, RanIn, LeftIn}
use Rattle.math_snf.proofs.passes.Goals as goal

pub returns-then-not-in_range : goal.returns-then-not-in_range
returns-then-not-in_range c = (outside_refused c.args.m (sym c.in_range.ensures ∙ c.if-not-in_range.true), refl)

pub returns-in-Ok : goal.returns-in-Ok
returns-in-Ok c =
    let y : RanIn c.args.m true c.in-Ok.n (state_of c.in-Ok.field-0-0) = c.in-Ok.ensures in (
      staying_accepted y.ran.run (sym c.in_range.ensures ∙ c.if-not-in_range.false) y.ran.is_in_range,
      (y.ran.run, ap some (sym y.counted ∙ all-begun y.ran.run y.ran.is_in_range)),
    )

pub returns-in-Err : goal.returns-in-Err
returns-in-Err c =
    let y : LeftIn c.args.m c.in-Err.n = c.in-Err.ensures in
    (leaving_refused y.run (sym c.in_range.ensures ∙ c.if-not-in_range.false) y.leaves, (y.run, ap some (sym y.counted)))
