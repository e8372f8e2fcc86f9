-- `diagonalise_for` at the most copies, where 10 does not apply; the diagonal is that of the run's D.
use Rattle.definitions.specs.Calls.{FactorsPromise}
use Rattle.laws.specs.Verdicts.{passed_on}
use Rattle.math_snf.specs.Step.{state_of}
use Rattle.base_transformation.proofs.Accepted.{factors_accepted, factors_refused}
use Rattle.base_transformation.proofs.invariant_factors.Goals as goal

pub returns-in_err-form : goal.returns-in_err-form
returns-in_err-form c =
    let a = c.args in
    let k = c.in_err-form.field-0.0 in
    passed_on (FactorsPromise a.c) k c.from_residual.result c.from_residual.ensures.1
    (factors_refused a.c k c.in_err-form.ensures)

pub returns : goal.returns
returns c = factors_accepted c.args.c (state_of c.in_ok-form.form) c.diagonal.result c.in_ok-form.ensures c.diagonal.ensures
