-- `fits`: another multiplicity misses, and of the same one the match decides.
use mathlib.Core.Path.{ap, ◌∙◌}
use borrow.Author.Tests.{ne_eqb}
use Rattle.std.specs.Prelude.{is_some}
use Rattle.symmetrize_wyckoff.proofs.Tables.{other_count, same_count}
use Rattle.symmetrize_wyckoff.proofs.find.Candidates.fits.Goals as goal

pub returns-then-candidate-multiplicity : goal.returns-then-candidate-multiplicity
returns-then-candidate-multiplicity c =
    let a = c.args in
    let s = a.self.now in
    same_count s.basis s.symprec a.multiplicity a.position a.candidate.now c.is_fit.result
    c.if-candidate-multiplicity.true
    (c.is_fit.ensures ∙ ap is_some c.match_prepared.ensures)

pub returns-else-candidate-multiplicity : goal.returns-else-candidate-multiplicity
returns-else-candidate-multiplicity c =
    let a = c.args in
    let s = a.self.now in
    ne_eqb a.candidate.now.multiplicity a.multiplicity c.if-candidate-multiplicity.false
    ∙ other_count s.basis s.symprec a.multiplicity a.position a.candidate.now c.if-candidate-multiplicity.false
