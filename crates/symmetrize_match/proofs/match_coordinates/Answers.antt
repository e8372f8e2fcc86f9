-- `match_coordinates`: 4, or what `prepare` says, with the match of the space that it answers.
use mathlib.Core.Path.{◌≡◌, sym, ap, ◌∙◌}
use mathlib.Core.Bool.{false, not, ◌||◌}
use Rattle.definitions.specs.Limits.{lattice_within, position_within, good_symprec}
use Rattle.definitions.specs.SiteCalls.{MatchPromise}
use Rattle.data_wyckoff.specs.Spaces.{space_of}
use Rattle.laws.specs.Verdicts.{passed_on}
use Rattle.symmetrize_match.specs.Match.{match_real, match_is}
use Rattle.symmetrize_match.proofs.Promise.{bad-floats, answered, not_prepared}
use Rattle.symmetrize_match.proofs.match_coordinates.Goals as goal
use Rattle.symmetrize_match.proofs.match_coordinates.Goals.{Else-bad_floats, Start}

module _ (c : Else-bad_floats) where
  abbrev start : Start
  start = (goal.at.Else-bad_floats c).Start

  good :
      (not (lattice_within start.args.basis) || not (position_within start.args.position) || not (good_symprec start.args.symprec))
      ≡ false
  good = sym c.bad_floats.ensures ∙ c.if-bad_floats.false

pub returns-then-bad_floats : goal.returns-then-bad_floats
returns-then-bad_floats c =
    let a = c.args in
    bad-floats a.basis a.position a.text.now a.symprec (sym c.bad_floats.ensures ∙ c.if-bad_floats.true)

pub returns : goal.returns
returns c =
    let a = c.args in
    let s = space_of c.in_ok-given.given in
    let made = c.from-space.ensures in
    answered a.basis a.position a.text.now a.symprec (good (goal.at.returns c).Else-bad_floats) s
    c.in_ok-given.ensures.prepared c.match_prepared.result
    (c.match_prepared.ensures
    ∙ ap (λ r. match_real a.basis a.symprec r a.position) made.0
    ∙ match_is s made.1 a.basis a.symprec a.position)

pub returns-in_err-given : goal.returns-in_err-given
returns-in_err-given c =
    let a = c.args in
    let k = c.in_err-given.field-0.0 in
    passed_on (MatchPromise a.basis a.position a.text.now a.symprec) k c.from_residual.result c.from_residual.ensures.1
    (not_prepared a.basis a.position a.text.now a.symprec (good (goal.at.returns-in_err-given c).Else-bad_floats)
    k c.in_err-given.ensures.prepared)
