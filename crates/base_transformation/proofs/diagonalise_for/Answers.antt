-- Each return has tested what comes before it.
use Rattle.std.proofs.Common.{not, ltb, ⊎_elim, List, sym, refl, ap, ◌∙◌, subst, le-ltb, lt-ltb}
use Rattle.std.specs.Prelude.{Err}
use Rattle.definitions.specs.declared.Refusal.{Refusal}
use Rattle.definitions.specs.declared.Refusal.TheVariants.{MatrixEntry, Determinant, Diagonalisation, Buffer}
use Rattle.definitions.specs.Refusal.{Condition, Returns, Checked, outcome}
use Rattle.definitions.specs.Calls.{IsSnf, points_conditions}
use Rattle.laws.specs.Tests.{so, not_so}
use Rattle.laws.specs.Verdicts.{HoldsAt, Passed, pass, found_at_lem, found_none, refuse, accept, verdict_of}
use Rattle.laws.specs.Verdicts.{accepted_with, refused_with_lem, passed_on}
use Rattle.math_snf.specs.Step.{state_of}
use Rattle.base_transformation.specs.Answers.{Diagonalised}
use Rattle.base_transformation.proofs.diagonalise_for.Goals as goal
use Rattle.base_transformation.proofs.diagonalise_for.Goals.{Start, Else-not-in_range, In_ok-form}

abbrev conditions : Start → List Condition
conditions s = points_conditions s.args.c s.args.room

module _ (c : Else-not-in_range) where
  abbrev cs : List Condition
  cs = conditions (goal.at.Else-not-in_range c).Start

  past₁ : Passed cs 1
  unfolding Passed HoldsAt
  past₁ = (not_so (ap not (sym c.in_range.ensures ∙ c.if-not-in_range.false)), tt)

  -- what `diagonalise` refuses with is the first that applies
  refused : (r : Refusal) → Diagonalised c.args.c (Err r) → Checked cs (Err r)
  unfolding verdict_of found_at_lem HoldsAt
  refused r =
      let Told = λ (j : Refusal). Checked cs (Err j) in
      ⊎_elim
      (λ x. subst Told (sym x.0) (refuse _ 1 past₁ (so x.1) (Err Determinant) refl))
      (λ x. subst Told (sym x.0) (refuse _ 2 (pass cs 1 past₁ (not_so x.1)) x.2 (Err Diagonalisation) refl))

-- past `diagonalise`
past₃ : (c : In_ok-form) → Passed (conditions (goal.at.In_ok-form c).Start) 3
unfolding HoldsAt
past₃ c =
    let e = c.in_ok-form.ensures in
    pass _ 2 (pass _ 1 (past₁ (goal.at.In_ok-form c).Else-not-in_range) (not_so e.0)) e.1

pub returns-then-not-in_range : goal.returns-then-not-in_range
unfolding verdict_of found_at_lem Passed HoldsAt
returns-then-not-in_range c =
    let h = ap not (sym c.in_range.ensures ∙ c.if-not-in_range.true) in
    refused_with_lem _ _ MatrixEntry (refuse _ 0 tt (so h) (Err MatrixEntry) refl)

pub returns-in_err-form : goal.returns-in_err-form
returns-in_err-form c =
    let a = c.args in
    let k = c.in_err-form.field-0.0 in
    let l = points_conditions a.c a.room in
    passed_on (λ r. Returns l (IsSnf a.c) (outcome state_of r)) k c.from_residual.result c.from_residual.ensures.1
    (refused_with_lem l (IsSnf a.c) k (refused (goal.at.returns-in_err-form c).Else-not-in_range k c.in_err-form.ensures))

pub returns-then-room-copies : goal.returns-then-room-copies
unfolding verdict_of found_at_lem HoldsAt
returns-then-room-copies c =
    let p = past₃ (goal.at.returns-then-room-copies c).In_ok-form in
    let h = ap (ltb c.args.room) (sym c.copies.ensures) ∙ lt-ltb _ _ c.if-room-copies.true in
    refused_with_lem _ _ Buffer (refuse _ 3 p (so h) (Err Buffer) refl)

pub returns : goal.returns
unfolding verdict_of found_none HoldsAt
returns c =
    let l = points_conditions c.args.c c.args.room in
    let p = past₃ (goal.at.returns c).In_ok-form in
    let h = ap (ltb c.args.room) (sym c.copies.ensures) ∙ le-ltb _ _ c.if-room-copies.false in
    accepted_with _ _ _ (accept l (pass l 3 p (not_so h)) refl) c.in_ok-form.ensures.2
