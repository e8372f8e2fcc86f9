-- `assign_wyckoffs_by_orbit`: nothing to letter, an orbit without a letter, or all with one.
use mathlib.Core.Path.{◌≡◌, sym, ap, ◌∙◌}
use mathlib.Core.Bool.{true}
use borrow.Author.Tests.{eqb-true}
use lib.ListN.{length}
use Rattle.std.specs.Prelude.{is_ok}
use Rattle.definitions.specs.SiteCalls.{AssignArguments, assignable}
use Rattle.symmetrize_wyckoff.specs.Given.{placed_of}
use Rattle.symmetrize_wyckoff.specs.Lettering.{assign_with}
use Rattle.symmetrize_wyckoff.proofs.Given.{facts, fits_room}
use Rattle.symmetrize_wyckoff.proofs.Assigned.{labels_below, none_given, one_without, all_with}
use Rattle.symmetrize_wyckoff.proofs.assign_wyckoffs_by_orbit.Goals as goal
use Rattle.symmetrize_wyckoff.proofs.assign_wyckoffs_by_orbit.Goals.{Else-not-assignable, Start}

abbrev given : Start → AssignArguments
given s = assign_with (placed_of s.args.placed.now) s.args.labels.now s.args.multiplicities.now

-- past the guard
ready :
    (c : Else-not-assignable) → assignable (given (goal.at.Else-not-assignable c).Start) (length c.args.letters.now) ≡ true
ready c = sym c.assignable.ensures ∙ c.if-not-assignable.false

pub returns-then-is_empty-clause-assigned : goal.returns-then-is_empty-clause-assigned
returns-then-is_empty-clause-assigned c =
    none_given (given (goal.at.returns-then-is_empty-clause-assigned c).Start) c.args.letters.now c.clear-then-is_empty.new.out
    (eqb-true (length c.args.labels.now) 0 (sym c.is_empty.ensures ∙ c.if-is_empty.true))
    (ready (goal.at.returns-then-is_empty-clause-assigned c).Else-not-assignable) c.clear-then-is_empty.ensures

pub letter_table-table-requires : goal.letter_table-table-requires
letter_table-table-requires c =
    facts (given (goal.at.letter_table-table-requires c).Start)
    (length c.args.letters.now) (ready (goal.at.letter_table-table-requires c).Else-not-assignable)

pub put_letters-verdict-requires : goal.put_letters-verdict-requires
put_letters-verdict-requires c =
    let x = given (goal.at.put_letters-verdict-requires c).Start in
    let yes = ready (goal.at.put_letters-verdict-requires c).Else-not-assignable in
    let room = length c.args.letters.now in (labels_below x (facts x room yes), fits_room x room yes)

pub returns-in-Ok-clause-assigned : goal.returns-in-Ok-clause-assigned
returns-in-Ok-clause-assigned c =
    let x = given (goal.at.returns-in-Ok-clause-assigned c).Start in
    let yes = ready (goal.at.returns-in-Ok-clause-assigned c).Else-not-assignable in
    let entry = c.args.letters.now in
    let t = c.letter_table-table in
    let p = c.put_letters-verdict in
    all_with x entry c.clear-in-Ok.new.out (facts x (length entry) yes) yes t.result t.ensures p.new.letters p.result
    p.ensures.written (ap is_ok c.in-Ok.is) (fits_room x (length entry) yes) c.clear-in-Ok.ensures

pub returns-in-Err-clause-assigned : goal.returns-in-Err-clause-assigned
returns-in-Err-clause-assigned c =
    let x = given (goal.at.returns-in-Err-clause-assigned c).Start in
    let yes = ready (goal.at.returns-in-Err-clause-assigned c).Else-not-assignable in
    let entry = c.args.letters.now in
    let t = c.letter_table-table in
    let p = c.put_letters-verdict in
    one_without x entry c.clear-in-Err.new.out (facts x (length entry) yes) yes t.result t.ensures p.new.letters p.result
    p.ensures.written (ap is_ok c.in-Err.is) p.auto.letters c.clear-in-Err.ensures
