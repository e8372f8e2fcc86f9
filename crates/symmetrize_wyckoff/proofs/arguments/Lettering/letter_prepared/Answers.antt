-- `letter_prepared`: a candidate is refused, or their spaces go on to the labels.
use mathlib.Core.Path.{refl}
use mathlib.Core.List.{List, replicate}
use native.Mathlib.Omega.{arith}
use lib.ListN.{length, length-take}
use Rattle.definitions.specs.SiteCalls.{LetterArguments, LetterCells}
use Rattle.base_cell.specs.Given.{orbit_cells}
use Rattle.data_wyckoff.specs.declared.space.Space as code
use Rattle.data_wyckoff.specs.Spaces.{zero_space}
use Rattle.laws.specs.Verdicts.{passed_on}
use Rattle.symmetrize_wyckoff.specs.Given.{letter_arguments_of, letter_cells}
use Rattle.symmetrize_wyckoff.specs.Lettering.{LetterJudged}
use Rattle.symmetrize_wyckoff.proofs.Promise.{few_candidates, prepared_out, labellable, prepared_in}
use Rattle.symmetrize_wyckoff.proofs.arguments.Lettering.letter_prepared.Goals as goal
use Rattle.symmetrize_wyckoff.proofs.arguments.Lettering.letter_prepared.Goals.{Start}

abbrev given : Start → LetterArguments
given s = letter_arguments_of s.args.self.now

abbrev lent : Start → LetterCells
lent s = letter_cells (orbit_cells s.args.orbits.now) s.args.letters.now

-- the spaces before the candidates are prepared
abbrev empty : List code.Space
empty = replicate 64 zero_space

pub slice_bounds-spaces-end : goal.slice_bounds-spaces-end
slice_bounds-spaces-end c =
    let s = (goal.at.slice_bounds-spaces-end c).Start in
    omega (arith, few_candidates (given s) (lent s) (lent s) c.requires, c.in_ok-prepare_all.ensures.len)

pub slice_bounds-letter_spaces-end : goal.slice_bounds-letter_spaces-end
slice_bounds-letter_spaces-end c =
    let s = (goal.at.slice_bounds-letter_spaces-end c).Start in
    let n = length c.args.self.now.texts.now in
    let few = few_candidates (given s) (lent s) (lent s) c.requires in
    omega (arith, few, c.in_ok-prepare_all.ensures.len, length-take n c.prepare_all.new.spaces)

pub letter_spaces-requires : goal.letter_spaces-requires
letter_spaces-requires c =
    let s = (goal.at.letter_spaces-requires c).Start in
    labellable (given s) (lent s) (lent s) c.requires empty c.prepare_all.new.spaces
    c.in_ok-prepare_all.ensures.prepared

pub returns-clause-judged : goal.returns-clause-judged
returns-clause-judged c =
    let s = (goal.at.returns-clause-judged c).Start in
    let l = c.letter_spaces in
    prepared_in (given s) (lent s) (letter_cells (orbit_cells l.new.orbits) l.new.letters)
    c.requires empty c.prepare_all.new.spaces c.in_ok-prepare_all.ensures.prepared l.result l.ensures.judged

pub returns-in_err-prepare_all-clause-judged : goal.returns-in_err-prepare_all-clause-judged
returns-in_err-prepare_all-clause-judged c =
    let s = (goal.at.returns-in_err-prepare_all-clause-judged c).Start in
    let k = c.in_err-prepare_all.field-0.0 in
    passed_on (LetterJudged (given s) (lent s) (lent s)) k c.from_residual.result c.from_residual.ensures.1
    (prepared_out (given s) (lent s) (lent s) c.requires empty c.prepare_all.new.spaces refl k
    c.in_err-prepare_all.ensures.prepared)
