-- `judge`: what is given is refused, or the candidates come next.
use Rattle.base_cell.specs.Given.{orbit_cells}
use Rattle.definitions.specs.SiteCalls.{LetterArguments, LetterCells, letter_rooms}
use Rattle.symmetrize_wyckoff.specs.Given.{letter_arguments_of, letter_cells}
use Rattle.symmetrize_wyckoff.specs.Lettering.{LetterJudged}
use Rattle.laws.specs.Verdicts.{passed_on}
use Rattle.symmetrize_wyckoff.proofs.judge.Goals as goal
use Rattle.symmetrize_wyckoff.proofs.judge.Goals.{Start}

abbrev given : Start → LetterArguments
given s = letter_arguments_of s.args.given.now

abbrev lent : Start → LetterCells
lent s = letter_cells (orbit_cells s.args.orbits.now) s.args.letters.now

pub letter_prepared-requires : goal.letter_prepared-requires
letter_prepared-requires c =
    c.in_ok-given_verdict.ensures (letter_rooms (lent (goal.at.letter_prepared-requires c).Start))

pub returns-in_err-given_verdict-clause-judged : goal.returns-in_err-given_verdict-clause-judged
returns-in_err-given_verdict-clause-judged c =
    let x = given (goal.at.returns-in_err-given_verdict-clause-judged c).Start in
    let l = lent (goal.at.returns-in_err-given_verdict-clause-judged c).Start in
    passed_on (LetterJudged x l l) c.in_err-given_verdict.field-0.0 c.from_residual.result c.from_residual.ensures.1
    (c.in_err-given_verdict.ensures (letter_rooms l))
