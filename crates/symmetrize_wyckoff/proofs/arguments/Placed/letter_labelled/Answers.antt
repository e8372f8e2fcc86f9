-- `letter_labelled`: the label call refuses, or its lists go on to the step.
use Rattle.definitions.specs.SiteCalls.{LabelArguments, LetterCells}
use Rattle.base_cell.specs.Given.{arguments_of, orbit_cells}
use Rattle.laws.specs.Verdicts.{passed_on}
use Rattle.symmetrize_wyckoff.specs.Given.{letter_cells, placed_of}
use Rattle.symmetrize_wyckoff.specs.Lettering.{Placed, LabelledJudged}
use Rattle.symmetrize_wyckoff.proofs.Promise.{labels_there, multiplicities_there, labelled_in, labelled_out}
use Rattle.symmetrize_wyckoff.proofs.arguments.Placed.letter_labelled.Goals as goal
use Rattle.symmetrize_wyckoff.proofs.arguments.Placed.letter_labelled.Goals.{Start}

abbrev given : Start → LabelArguments
given s = arguments_of s.args.labelling.now

abbrev placed : Start → Placed
placed s = placed_of s.args.self.now

abbrev lent : Start → LetterCells
lent s = letter_cells (orbit_cells s.args.orbits.now) s.args.letters.now

pub letter_groups-requires : goal.letter_groups-requires
letter_groups-requires c =
    let s = (goal.at.letter_groups-requires c).Start in
    let exit = letter_cells (orbit_cells c.label_sites.new.orbits) s.args.letters.now in
    let promise = c.in_ok-label_sites.ensures.labelled in (
      labels_there (given s) (placed s) c.requires (lent s) exit promise,
      multiplicities_there (given s) (placed s) c.requires (lent s) exit promise,
    )

pub returns-clause-judged : goal.returns-clause-judged
returns-clause-judged c =
    let s = (goal.at.returns-clause-judged c).Start in
    let g = c.letter_groups in
    labelled_in (given s) (placed s) c.requires (lent s)
    (letter_cells (orbit_cells c.label_sites.new.orbits) g.new.letters)
    c.in_ok-label_sites.ensures.labelled g.result g.ensures

pub returns-in_err-label_sites-clause-judged : goal.returns-in_err-label_sites-clause-judged
returns-in_err-label_sites-clause-judged c =
    let s = (goal.at.returns-in_err-label_sites-clause-judged c).Start in
    let after = orbit_cells c.label_sites.new.orbits in
    let exit = letter_cells after s.args.letters.now in
    let k = c.in_err-label_sites.field-0.0 in
    passed_on (LabelledJudged (given s) (placed s) (lent s) exit) k c.from_residual.result c.from_residual.ensures.1
    (labelled_out (given s) (placed s) c.requires (lent s) exit after k c.in_err-label_sites.ensures.labelled)
