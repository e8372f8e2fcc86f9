-- Each return has tested what comes before it.
use Rattle.std.proofs.Common.{◌≡◌, ℕ, ◌*◌, false, not, List, length, sym, refl, ap, ◌∙◌, subst, ⊎_elim, le-ltb, lt-ltb}
use Rattle.std.specs.Prelude.{Err}
use Rattle.definitions.specs.declared.Refusal.{Refusal}
use Rattle.definitions.specs.declared.Refusal.TheVariants.{Counts, MatrixEntry, FloatRange, Determinant, Diagonalisation, ListedSites, Buffer}
use Rattle.definitions.specs.Refusal.{Condition, Returns, Checked, outcome}
use Rattle.definitions.specs.Calls.{IsSnf}
use Rattle.definitions.specs.Limits.{in_range, bad_copies, copies, too_many_listed, shorter_than}
use Rattle.definitions.specs.Lists.{any}
use Rattle.definitions.specs.Snf.{Leaves}
use Rattle.definitions.specs.SiteCalls.{list_conditions}
use Rattle.laws.specs.Tests.{so, not_so}
use Rattle.laws.specs.Verdicts.{HoldsAt, Passed, pass, found_at_lem, found_none, refuse, accept, verdict_of}
use Rattle.laws.specs.Verdicts.{accepted_with, refused_with_lem, passed_on}
use Rattle.math_snf.specs.Step.{state_of}
use Rattle.base_transformation.specs.Answers.{Diagonalised}
use Rattle.base_transformation.proofs.cell.diagonalise_for_sites.Goals as goal
use Rattle.base_transformation.proofs.cell.diagonalise_for_sites.Goals.{Else-bad_counts, Else-not-all_cells_within, Else-not-in_range, Start}

abbrev conditions : Start → List Condition
conditions s =
    let a = s.args in
    list_conditions a.c a.sites.now.elements.now a.sites.now.positions.now a.rooms

-- ---- past each test

module _ (c : Else-bad_counts) where
  abbrev start₁ : Start
  start₁ = (goal.at.Else-bad_counts c).Start

  past₁ : Passed (conditions start₁) 1
  unfolding Passed HoldsAt
  past₁ = (not_so (sym c.bad_counts.ensures ∙ c.if-bad_counts.false), tt)

module _ (c : Else-not-in_range) where
  abbrev start₂ : Start
  start₂ = start₁ (goal.at.Else-not-in_range c).Else-bad_counts

  entries : not (in_range start₂.args.c) ≡ false
  entries = ap not (sym c.in_range.ensures) ∙ (ap not c.if-not-in_range.false)

  past₂ : Passed (conditions start₂) 2
  unfolding HoldsAt
  past₂ = pass _ 1 (past₁ (goal.at.Else-not-in_range c).Else-bad_counts) (not_so entries)

module _ (c : Else-not-all_cells_within) where
  abbrev start₃ : Start
  start₃ = start₂ (goal.at.Else-not-all_cells_within c).Else-not-in_range

  past₃ : Passed (conditions start₃) 3
  unfolding HoldsAt
  past₃ = pass _ 2 (past₂ (goal.at.Else-not-all_cells_within c).Else-not-in_range) (not_so (ap not (sym c.all_cells_within.ensures) ∙ (ap not c.if-not-all_cells_within.false)))

  -- what `diagonalise` refuses with is the first that applies
  refused : (r : Refusal) → Diagonalised start₃.args.c (Err r) → Checked (conditions start₃) (Err r)
  unfolding verdict_of found_at_lem HoldsAt
  refused r =
      ⊎_elim
      (λ x. subst (λ j. Checked (conditions start₃) (Err j)) (sym x.0) (refuse _ 3 past₃ (so x.1) (Err Determinant) refl))
      (λ x. subst (λ j. Checked (conditions start₃) (Err j)) (sym x.0) (refuse _ 4 (pass (conditions start₃) 3 past₃ (not_so x.1)) x.2 (Err Diagonalisation) refl))

  -- past `diagonalise`, where m copies are counted
  module _ (good : bad_copies start₃.args.c ≡ false) (stays : Leaves start₃.args.c → ⊥) {m : ℕ} (count : m ≡ copies start₃.args.c) where
    abbrev sites : ℕ
    sites = length start₃.args.sites.now.positions.now

    past₅ : Passed (conditions start₃) 5
    unfolding HoldsAt
    past₅ = pass _ 4 (pass _ 3 past₃ (not_so good)) stays

    many : too_many_listed (sites * m) ≡ too_many_listed (sites * copies start₃.args.c)
    many = ap (λ (k : ℕ). too_many_listed (sites * k)) count

    tight : any (shorter_than (sites * m)) start₃.args.rooms ≡ any (shorter_than (sites * copies start₃.args.c)) start₃.args.rooms
    tight = ap (λ (k : ℕ). any (shorter_than (sites * k)) start₃.args.rooms) count

    past₆ : too_many_listed (sites * m) ≡ false → Passed (conditions start₃) 6
    unfolding HoldsAt
    past₆ e = pass _ 5 past₅ (not_so (sym many ∙ e))

-- ---- the returns

pub returns-then-bad_counts : goal.returns-then-bad_counts
unfolding verdict_of found_at_lem Passed HoldsAt
returns-then-bad_counts c =
    refused_with_lem _ _ Counts (refuse _ 0 tt (so (sym c.bad_counts.ensures ∙ c.if-bad_counts.true)) (Err Counts) refl)

pub returns-then-not-in_range : goal.returns-then-not-in_range
unfolding verdict_of found_at_lem HoldsAt
returns-then-not-in_range c =
    let p = past₁ (goal.at.returns-then-not-in_range c).Else-bad_counts in
    let h = ap not (sym c.in_range.ensures ∙ c.if-not-in_range.true) in
    refused_with_lem _ _ MatrixEntry (refuse _ 1 p (so h) (Err MatrixEntry) refl)

pub returns-then-not-all_cells_within : goal.returns-then-not-all_cells_within
unfolding verdict_of found_at_lem HoldsAt
returns-then-not-all_cells_within c =
    let p = past₂ (goal.at.returns-then-not-all_cells_within c).Else-not-in_range in
    let h = ap not (sym c.all_cells_within.ensures ∙ c.if-not-all_cells_within.true) in
    refused_with_lem _ _ FloatRange (refuse _ 2 p (so h) (Err FloatRange) refl)

pub returns-in_err-form : goal.returns-in_err-form
returns-in_err-form c =
    let at = goal.at.returns-in_err-form c in
    let k = c.in_err-form.field-0.0 in
    let cs = conditions at.Start in
    passed_on (λ r. Returns cs (IsSnf c.args.c) (outcome state_of r)) k c.from_residual.result c.from_residual.ensures.1
    (refused_with_lem cs (IsSnf c.args.c) k (refused at.Else-not-all_cells_within k c.in_err-form.ensures))

pub returns-then-listed-gt-MOST_LISTED : goal.returns-then-listed-gt-MOST_LISTED
unfolding verdict_of found_at_lem HoldsAt
returns-then-listed-gt-MOST_LISTED c =
    let p = (goal.at.returns-then-listed-gt-MOST_LISTED c).Else-not-all_cells_within in
    let e = c.in_ok-form.ensures in
    let n = c.copies.ensures in
    let h = sym (many p e.0 e.1 n) ∙ lt-ltb _ _ c.if-listed-gt-MOST_LISTED.true in
    refused_with_lem _ _ ListedSites (refuse _ 5 (past₅ p e.0 e.1 n) (so h) (Err ListedSites) refl)

pub returns-then-lacks_room : goal.returns-then-lacks_room
unfolding verdict_of found_at_lem HoldsAt
returns-then-lacks_room c =
    let p = (goal.at.returns-then-lacks_room c).Else-not-all_cells_within in
    let e = c.in_ok-form.ensures in
    let n = c.copies.ensures in
    let few = le-ltb _ _ c.if-listed-gt-MOST_LISTED.false in
    let h = sym (tight p e.0 e.1 n) ∙ sym c.lacks_room.ensures ∙ c.if-lacks_room.true in
    refused_with_lem _ _ Buffer (refuse _ 6 (past₆ p e.0 e.1 n few) (so h) (Err Buffer) refl)

pub returns : goal.returns
unfolding verdict_of found_none HoldsAt
returns c =
    let p = (goal.at.returns c).Else-not-all_cells_within in
    let e = c.in_ok-form.ensures in
    let n = c.copies.ensures in
    let few = le-ltb _ _ c.if-listed-gt-MOST_LISTED.false in
    let h = sym (tight p e.0 e.1 n) ∙ sym c.lacks_room.ensures ∙ c.if-lacks_room.false in
    accepted_with _ _ _ (accept _ (pass (conditions (start₃ p)) 6 (past₆ p e.0 e.1 n few) (not_so h)) refl) e.2
