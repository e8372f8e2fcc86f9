-- `given_verdict`: each return has tested what comes before it, whatever room is lent.
use Prim.Native.Nat.{ℕ}
use mathlib.Core.Path.{◌≡◌, refl, sym, ◌∙◌}
use mathlib.Core.Bool.{Bool, true, ◌||◌}
use mathlib.Core.List.{List}
use lib.ListN.{length}
use Rattle.std.specs.Prelude.{Err}
use Rattle.definitions.specs.declared.Refusal.TheVariants.{Counts, FloatRange, SiteImage}
use Rattle.definitions.specs.Lent.{unlike, bad_permutation_counts}
use Rattle.definitions.specs.Limits.{too_many_candidates}
use Rattle.definitions.specs.SiteCalls.{LetterArguments, bad_letter_counts, letter_conditions}
use Rattle.laws.specs.Tests.{so, not_so, or_left, or_right, neither}
use Rattle.laws.specs.Verdicts.{HoldsAt, Passed, pass, found_at_lem, refuse, verdict_of}
use Rattle.symmetrize_wyckoff.specs.Given.{letter_arguments_of}
use Rattle.symmetrize_wyckoff.specs.Lettering.{bad_lists}
use Rattle.symmetrize_wyckoff.proofs.Given.{five_or}
use Rattle.symmetrize_wyckoff.proofs.arguments.Lettering.given_verdict.Goals as goal
use Rattle.symmetrize_wyckoff.proofs.arguments.Lettering.given_verdict.Goals.{then-bad_counts-via-then-bad_counts}
use Rattle.symmetrize_wyckoff.proofs.arguments.Lettering.given_verdict.Goals.{then-bad_counts-via-else-bad_counts+then-bad_lists}
use Rattle.symmetrize_wyckoff.proofs.arguments.Lettering.given_verdict.Goals.{Else-bad_floats, Else-bad_lists, Start}

abbrev given : Start → LetterArguments
given s = letter_arguments_of s.args.self.now

-- 2 by its parts: permutations, and the other lists
abbrev permutations : LetterArguments → Bool
permutations x = bad_permutation_counts x.labelling.sites x.labelling.count x.labelling.images

counts_are : (x : LetterArguments) → bad_letter_counts x ≡ (permutations x || bad_lists x)
counts_are x =
    five_or (permutations x) (too_many_candidates (length x.texts))
    (unlike (length x.multiplicities) (length x.texts))
    (unlike (length x.letters) (length x.texts)) (unlike (length x.labelling.mapping) (length x.positions))

-- ---- past each test

past₂ :
    (c : Else-bad_lists) (rooms : List ℕ) →
    Passed (letter_conditions (given (goal.at.Else-bad_lists c).Start) rooms) 1
unfolding Passed HoldsAt
past₂ c rooms = (
  not_so
      (counts_are (given (goal.at.Else-bad_lists c).Start)
      ∙ neither (sym c.bad_counts.ensures ∙ c.if-bad_counts.false)
      (sym c.bad_lists.ensures ∙ c.if-bad_lists.false)),
  tt,
)

past₃ :
    (c : Else-bad_floats) (rooms : List ℕ) →
    Passed (letter_conditions (given (goal.at.Else-bad_floats c).Start)
    rooms) 2
unfolding HoldsAt
past₃ c rooms =
    pass _ 1 (past₂ (goal.at.Else-bad_floats c).Else-bad_lists rooms) (not_so (sym c.bad_floats.ensures ∙ c.if-bad_floats.false))

-- ---- the returns

pub returns-then-bad_counts : goal.returns-then-bad_counts
unfolding verdict_of found_at_lem Passed HoldsAt
returns-then-bad_counts c =
    let x = given (goal.at.returns-then-bad_counts c).Start in
    let one : (permutations x || bad_lists x) ≡ true =
    elim c.then-bad_counts.branch [
      | then-bad_counts-via-then-bad_counts w ↦ or_left (bad_lists x) (sym c.bad_counts.ensures ∙ w.if-bad_counts.true)
      | then-bad_counts-via-else-bad_counts+then-bad_lists w ↦
          or_right (permutations x) (sym w.bad_lists.ensures ∙ w.if-bad_lists.true)
    ] in
    λ rooms. refuse (letter_conditions x rooms) 0 tt (so (counts_are x ∙ one)) (Err Counts) refl

pub returns-then-bad_floats : goal.returns-then-bad_floats
unfolding verdict_of found_at_lem HoldsAt
returns-then-bad_floats c = λ rooms.
    refuse (letter_conditions (given (goal.at.returns-then-bad_floats c).Start)
    rooms) 1 (past₂ (goal.at.returns-then-bad_floats c).Else-bad_lists rooms) (so (sym c.bad_floats.ensures ∙ c.if-bad_floats.true))
    (Err FloatRange) refl

pub returns-then-bad_sites : goal.returns-then-bad_sites
unfolding verdict_of found_at_lem HoldsAt
returns-then-bad_sites c = λ rooms.
    refuse (letter_conditions
    (given (goal.at.returns-then-bad_sites c).Start) rooms) 2
    (past₃ (goal.at.returns-then-bad_sites c).Else-bad_floats rooms) (so (sym c.bad_sites.ensures ∙ c.if-bad_sites.true))
    (Err SiteImage) refl

pub returns : goal.returns
unfolding HoldsAt
returns c =
    λ rooms. pass _ 2 (past₃ (goal.at.returns c).Else-bad_floats rooms) (not_so (sym c.bad_sites.ensures ∙ c.if-bad_sites.false))
