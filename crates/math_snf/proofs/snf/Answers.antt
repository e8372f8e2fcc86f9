-- `snf`: the verdict is that of the run.
use Rattle.std.proofs.Common.{refl, sym, ◌∙◌, true}
use Rattle.definitions.specs.Calls.{snf_conditions, IsSnf}
use Rattle.definitions.specs.declared.Refusal.TheVariants.{MatrixEntry, Diagonalisation}
use Rattle.laws.specs.Verdicts.{refused_with_lem, accepted_with}
use Rattle.math_snf_laws.specs.Passes.{outside_refused, leaving_refused, staying_accepted}
use Rattle.math_snf.specs.Step.{state_of, RanIn, LeftIn}
use Rattle.math_snf.proofs.snf.Goals as goal

pub returns-then-not-in_range : goal.returns-then-not-in_range
returns-then-not-in_range c =
    refused_with_lem (snf_conditions c.args.m) (IsSnf c.args.m) MatrixEntry
    (outside_refused c.args.m (sym c.in_range.ensures ∙ c.if-not-in_range.true))

pub returns-in-Ok : goal.returns-in-Ok
returns-in-Ok c =
    let y : RanIn c.args.m true c.in-Ok.field-0-1 (state_of c.in-Ok.t) = c.in-Ok.ensures in
    accepted_with (snf_conditions c.args.m) (IsSnf c.args.m) (state_of c.in-Ok.t)
    (staying_accepted y.ran.run (sym c.in_range.ensures ∙ c.if-not-in_range.false) y.ran.is_in_range)
    (y.ran.run, sym (y.ran.same_state refl))

pub returns-in-Err : goal.returns-in-Err
returns-in-Err c =
    let y : LeftIn c.args.m c.in-Err.field-0 = c.in-Err.ensures in
    refused_with_lem (snf_conditions c.args.m) (IsSnf c.args.m) Diagonalisation
    (leaving_refused y.run (sym c.in_range.ensures ∙ c.if-not-in_range.false) y.leaves)
