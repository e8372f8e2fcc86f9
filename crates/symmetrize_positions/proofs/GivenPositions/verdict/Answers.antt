-- `verdict`: each return has tested what comes before it.
use mathlib.Core.Path.{refl, sym, ◌∙◌}
use mathlib.Core.List.{List}
use borrow.Author.Tests.{lt-ltb, le-ltb, not-true, not-false}
use Rattle.std.specs.Prelude.{Err}
use Rattle.definitions.specs.declared.Refusal.TheVariants.{Counts, MatrixEntry, FloatRange, SiteImage, Determinant, Buffer}
use Rattle.definitions.specs.Refusal.{Condition}
use Rattle.definitions.specs.Limits.{not_unimodular}
use Rattle.laws.specs.Verdicts.{HoldsAt, Passed, pass, found_at_lem, found_none, refuse, accept, verdict_of}
use Rattle.laws.specs.Tests.{so, not_so}
use Rattle.symmetrize_positions.specs.Given.{conditions}
use Rattle.symmetrize_positions.proofs.GivenPositions.verdict.Goals as goal
use Rattle.symmetrize_positions.proofs.GivenPositions.verdict.Goals.{Else-bad_counts, Else-bad_entries}
use Rattle.symmetrize_positions.proofs.GivenPositions.verdict.Goals.{Else-bad_floats, Else-bad_images, Else-not-unimodular, Start}

abbrev its : Start → List Condition
its s = conditions s.args.self.now s.args.room

-- ---- past each test

module _ (c : Else-bad_counts) where
  abbrev start₁ : Start
  start₁ = (goal.at.Else-bad_counts c).Start

  past₁ : Passed (its start₁) 1
  unfolding Passed HoldsAt
  past₁ = (not_so (sym c.bad_counts.ensures ∙ c.if-bad_counts.false), tt)

module _ (c : Else-bad_entries) where
  abbrev start₂ : Start
  start₂ = start₁ (goal.at.Else-bad_entries c).Else-bad_counts

  past₂ : Passed (its start₂) 2
  unfolding HoldsAt
  past₂ = pass _ 1 (past₁ (goal.at.Else-bad_entries c).Else-bad_counts) (not_so (sym c.bad_entries.ensures ∙ c.if-bad_entries.false))

module _ (c : Else-bad_floats) where
  abbrev start₃ : Start
  start₃ = start₂ (goal.at.Else-bad_floats c).Else-bad_entries

  past₃ : Passed (its start₃) 3
  unfolding HoldsAt
  past₃ = pass _ 2 (past₂ (goal.at.Else-bad_floats c).Else-bad_entries) (not_so (sym c.bad_floats.ensures ∙ c.if-bad_floats.false))

module _ (c : Else-bad_images) where
  abbrev start₄ : Start
  start₄ = start₃ (goal.at.Else-bad_images c).Else-bad_floats

  past₄ : Passed (its start₄) 4
  unfolding HoldsAt
  past₄ = pass _ 3 (past₃ (goal.at.Else-bad_images c).Else-bad_floats) (not_so (sym c.bad_images.ensures ∙ c.if-bad_images.false))

module _ (c : Else-not-unimodular) where
  abbrev start₅ : Start
  start₅ = start₄ (goal.at.Else-not-unimodular c).Else-bad_images

  past₅ : Passed (its start₅) 5
  unfolding HoldsAt
  past₅ = pass _ 4 (past₄ (goal.at.Else-not-unimodular c).Else-bad_images) (not_so {b = not_unimodular start₅.args.self.now.t} (not-true _ (sym c.unimodular.ensures ∙ c.if-not-unimodular.false)))

-- ---- the returns

pub returns-then-bad_counts : goal.returns-then-bad_counts
unfolding verdict_of found_at_lem Passed HoldsAt
returns-then-bad_counts c = refuse _ 0 tt (so (sym c.bad_counts.ensures ∙ c.if-bad_counts.true)) (Err Counts) refl

pub returns-then-bad_entries : goal.returns-then-bad_entries
unfolding verdict_of found_at_lem HoldsAt
returns-then-bad_entries c = refuse _ 1 (past₁ (goal.at.returns-then-bad_entries c).Else-bad_counts) (so (sym c.bad_entries.ensures ∙ c.if-bad_entries.true)) (Err MatrixEntry) refl

pub returns-then-bad_floats : goal.returns-then-bad_floats
unfolding verdict_of found_at_lem HoldsAt
returns-then-bad_floats c = refuse _ 2 (past₂ (goal.at.returns-then-bad_floats c).Else-bad_entries) (so (sym c.bad_floats.ensures ∙ c.if-bad_floats.true)) (Err FloatRange) refl

pub returns-then-bad_images : goal.returns-then-bad_images
unfolding verdict_of found_at_lem HoldsAt
returns-then-bad_images c = refuse _ 3 (past₃ (goal.at.returns-then-bad_images c).Else-bad_floats) (so (sym c.bad_images.ensures ∙ c.if-bad_images.true)) (Err SiteImage) refl

pub returns-then-not-unimodular : goal.returns-then-not-unimodular
unfolding verdict_of found_at_lem HoldsAt
returns-then-not-unimodular c = refuse _ 4 (past₄ (goal.at.returns-then-not-unimodular c).Else-bad_images) (so {b = not_unimodular (start₄ (goal.at.returns-then-not-unimodular c).Else-bad_images).args.self.now.t} (not-false _ (sym c.unimodular.ensures ∙ c.if-not-unimodular.true))) (Err Determinant) refl

pub returns-then-room-self : goal.returns-then-room-self
unfolding verdict_of found_at_lem HoldsAt
returns-then-room-self c = refuse _ 5 (past₅ (goal.at.returns-then-room-self c).Else-not-unimodular) (so (lt-ltb _ _ c.if-room-self.true)) (Err Buffer) refl

pub returns : goal.returns
unfolding verdict_of found_none HoldsAt
returns c = accept _ (pass (its (start₅ (goal.at.returns c).Else-not-unimodular)) 5 (past₅ (goal.at.returns c).Else-not-unimodular) (not_so (le-ltb _ _ c.if-room-self.false))) refl
