-- `letter_sites`: the verdict is `judge`'s; refused, the lists are cleared whole.
use mathlib.Core.Path.{sym, ap, ◌∙◌}
use mathlib.Core.List.{[]}
use Rattle.definitions.specs.Refusal.{padded}
use Rattle.definitions.specs.SiteCalls.{LetterArguments, LetterCells}
use Rattle.base_cell.specs.Given.{orbit_cells}
use Rattle.symmetrize_wyckoff.specs.Given.{letter_arguments_of, letter_cells}
use Rattle.symmetrize_wyckoff.proofs.Promise.{keep-accepted, keep_refused}
use Rattle.symmetrize_wyckoff.proofs.letter_sites.Goals as goal
use Rattle.symmetrize_wyckoff.proofs.letter_sites.Goals.{Start}

abbrev given : Start → LetterArguments
given s = letter_arguments_of s.args.given.now

abbrev lent : Start → LetterCells
lent s = letter_cells (orbit_cells s.args.orbits.now) s.args.letters.now

pub returns-else-is_err-clause-lettered : goal.returns-else-is_err-clause-lettered
returns-else-is_err-clause-lettered c =
    let s = (goal.at.returns-else-is_err-clause-lettered c).Start in
    let v = c.judge-verdict in
    keep-accepted (given s) (lent s) v.result (letter_cells (orbit_cells v.new.orbits) v.new.letters)
    (sym c.is_err.ensures.value ∙ c.if-is_err.false) v.ensures.judged

pub returns-then-is_err-clause-lettered : goal.returns-then-is_err-clause-lettered
returns-then-is_err-clause-lettered c =
    let s = (goal.at.returns-then-is_err-clause-lettered c).Start in
    let v = c.judge-verdict in
    let o = v.new.orbits in
    let rooms = v.ensures.rooms in
    let zero = c.clear.ensures.zero in
    keep_refused (given s) (lent s) v.result (letter_cells (orbit_cells o) v.new.letters)
    (letter_cells (orbit_cells c.clear.new.self) c.clear-then-is_err.new.out)
    (sym c.is_err.ensures.value ∙ c.if-is_err.true) v.ensures.judged
    (record {
      labels = zero.labels ∙ ap (padded 0 []) rooms.labels;
      multiplicities = zero.multiplicities ∙ ap (padded 0 []) rooms.multiplicities;
      letters = c.clear-then-is_err.ensures ∙ ap (padded 0 []) v.auto.letters;
    })
