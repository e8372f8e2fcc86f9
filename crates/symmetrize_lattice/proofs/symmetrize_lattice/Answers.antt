-- The new basis or the refusal, and what is made of it.
use Rattle.std.proofs.Common.{ap, ◌∙◌}
use Rattle.definitions.specs.Real.{mul_f}
use Rattle.laws.specs.Verdicts.{passed_on}
use Rattle.math_real.specs.Rows.{real_is}
use Rattle.symmetrize_lattice.proofs.Laws.{Promised, bases_accepted, bases_refused}
use Rattle.symmetrize_lattice.proofs.symmetrize_lattice.Goals as goal

pub returns-in_err-conventional : goal.returns-in_err-conventional
returns-in_err-conventional c =
    let g = c.args.given.now in
    let k = c.in_err-conventional.field-0.0 in
    passed_on (Promised g) k c.from_residual.result c.from_residual.ensures.1
    (bases_refused g k c.in_err-conventional.ensures)

pub returns : goal.returns
returns c =
    let m = c.in_ok-conventional.conventional in
    let p = c.product-primitive.result in
    bases_accepted c.args.given.now m p c.product-listed.result c.in_ok-conventional.ensures
    (c.product-primitive.ensures ∙ ap (mul_f m) c.inverse_of_c.ensures)
    (c.product-listed.ensures ∙ ap (mul_f p) (real_is c.real.ensures))
