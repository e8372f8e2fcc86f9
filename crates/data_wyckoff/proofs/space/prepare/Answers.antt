-- By what was read, and what the diagonalisation of it says.
use mathlib.Core.Path.{subst}
use Rattle.definitions.specs.Refusal.{outcome}
use Rattle.definitions.specs.SiteCalls.{PreparePromise}
use Rattle.laws.specs.Verdicts.{passed_on}
use Rattle.math_snf.specs.Step.{state_of}
use Rattle.data_wyckoff.specs.Spaces.{space_of}
use Rattle.data_wyckoff.specs.Terms.{ReadAs}
use Rattle.data_wyckoff.proofs.Prepared.{ready, not_ready, not_read}
use Rattle.data_wyckoff.proofs.space.prepare.Goals as goal

pub returns-in_err-matrix-clause-prepared : goal.returns-in_err-matrix-clause-prepared
returns-in_err-matrix-clause-prepared c =
    let text = c.args.text.now in
    let k = c.in_err-matrix in
    passed_on (λ r. PreparePromise text (outcome space_of r)) k.field-0.0 c.from_residual.result
    c.from_residual.ensures.1
    (not_read text c.read_terms.result k.field-0.0 c.read_terms.ensures k.ensures.ok_part k.ensures.value)

pub returns-in_err-d-clause-prepared : goal.returns-in_err-d-clause-prepared
returns-in_err-d-clause-prepared c =
    let text = c.args.text.now in
    let m = c.in_ok-matrix in
    let k = c.in_err-d in
    passed_on (λ r. PreparePromise text (outcome space_of r)) k.field-0.0 c.from_residual-in_err-d.result
    c.from_residual-in_err-d.ensures.1
    (not_ready text m.matrix m.shift (subst (ReadAs text) m.ensures.ok_part c.read_terms.ensures) k.field-0.0 k.ensures)

pub returns-clause-prepared : goal.returns-clause-prepared
returns-clause-prepared c =
    let text = c.args.text.now in
    let m = c.in_ok-matrix in
    ready text m.matrix m.shift (subst (ReadAs text) m.ensures.ok_part c.read_terms.ensures)
    (state_of c.in_ok-d.field-0) c.in_ok-d.ensures
