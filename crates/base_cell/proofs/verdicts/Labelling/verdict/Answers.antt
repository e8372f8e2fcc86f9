-- `verdict`: each return has tested what comes before it.
use Rattle.std.proofs.Common.{refl, sym, ◌∙◌, List}
use Rattle.std.specs.Prelude.{Err}
use Rattle.definitions.specs.declared.Refusal.TheVariants.{Counts, SiteImage, ListedSites, Buffer}
use Rattle.definitions.specs.Refusal.{Condition}
use Rattle.definitions.specs.SiteCalls.{label_conditions}
use Rattle.laws.specs.Tests.{so, not_so}
use Rattle.laws.specs.Verdicts.{HoldsAt, Passed, pass, found_at_lem, found_none, refuse, accept, verdict_of}
use Rattle.base_cell.specs.Given.{arguments_of}
use Rattle.base_cell.proofs.verdicts.Labelling.verdict.Goals as goal
use Rattle.base_cell.proofs.verdicts.Labelling.verdict.Goals.{Else-bad_counts, Else-bad_sites, Else-lists_too_many, Start}

abbrev conditions : Start → List Condition
conditions s = label_conditions (arguments_of s.args.self.now) s.args.rooms

-- ---- past each test

module _ (c : Else-bad_counts) where
  abbrev start₁ : Start
  start₁ = (goal.at.Else-bad_counts c).Start

  past₁ : Passed (conditions start₁) 1
  unfolding Passed HoldsAt
  past₁ = (not_so (sym c.bad_counts.ensures ∙ c.if-bad_counts.false), tt)

module _ (c : Else-bad_sites) where
  abbrev start₂ : Start
  start₂ = start₁ (goal.at.Else-bad_sites c).Else-bad_counts

  past₂ : Passed (conditions start₂) 2
  unfolding HoldsAt
  past₂ = pass _ 1 (past₁ (goal.at.Else-bad_sites c).Else-bad_counts) (not_so (sym c.bad_sites.ensures ∙ c.if-bad_sites.false))

module _ (c : Else-lists_too_many) where
  abbrev start₃ : Start
  start₃ = start₂ (goal.at.Else-lists_too_many c).Else-bad_sites

  past₃ : Passed (conditions start₃) 3
  unfolding HoldsAt
  past₃ = pass _ 2 (past₂ (goal.at.Else-lists_too_many c).Else-bad_sites) (not_so (sym c.lists_too_many.ensures ∙ c.if-lists_too_many.false))

-- ---- the returns

pub returns-then-bad_counts : goal.returns-then-bad_counts
unfolding verdict_of found_at_lem Passed HoldsAt
returns-then-bad_counts c = refuse _ 0 tt (so (sym c.bad_counts.ensures ∙ c.if-bad_counts.true)) (Err Counts) refl

pub returns-then-bad_sites : goal.returns-then-bad_sites
unfolding verdict_of found_at_lem HoldsAt
returns-then-bad_sites c = refuse _ 1 (past₁ (goal.at.returns-then-bad_sites c).Else-bad_counts) (so (sym c.bad_sites.ensures ∙ c.if-bad_sites.true)) (Err SiteImage) refl

pub returns-then-lists_too_many : goal.returns-then-lists_too_many
unfolding verdict_of found_at_lem HoldsAt
returns-then-lists_too_many c = refuse _ 2 (past₂ (goal.at.returns-then-lists_too_many c).Else-bad_sites) (so (sym c.lists_too_many.ensures ∙ c.if-lists_too_many.true)) (Err ListedSites) refl

pub returns-then-lacks_room : goal.returns-then-lacks_room
unfolding verdict_of found_at_lem HoldsAt
returns-then-lacks_room c =
    refuse _ 3 (past₃ (goal.at.returns-then-lacks_room c).Else-lists_too_many) (so (sym c.lacks_room.ensures ∙ c.if-lacks_room.true)) (Err Buffer) refl

pub returns : goal.returns
unfolding verdict_of found_none HoldsAt
returns c =
    accept _
    (pass (conditions (start₃ (goal.at.returns c).Else-lists_too_many)) 3 (past₃ (goal.at.returns c).Else-lists_too_many)
    (not_so (sym c.lacks_room.ensures ∙ c.if-lacks_room.false)))
    refl
