-- Each return has tested what comes before it.
use Rattle.std.proofs.Common.{not, sym, refl, ap, ◌∙◌}
use Rattle.std.specs.Prelude.{Err}
use Rattle.definitions.specs.declared.Refusal.TheVariants.{MatrixEntry, Determinant}
use Rattle.definitions.specs.Calls.{transform_conditions}
use Rattle.laws.specs.Tests.{so, not_so, branch_fails, branch_passes}
use Rattle.laws.specs.Verdicts.{HoldsAt, Passed, pass, found_at_lem, found_none, refuse, accept, verdict_of}
use Rattle.laws.specs.Verdicts.{accepted_with, refused_with_lem}
use Rattle.base_transformation.proofs.transform_rotation.Goals as goal
use Rattle.base_transformation.proofs.transform_rotation.Goals.{Else-not-in_range, Else-not-in_range-2}

past₁ : (c : Else-not-in_range) → Passed (transform_conditions c.args.t c.args.r) 1
unfolding Passed HoldsAt
past₁ c = (not_so (ap not (sym c.in_range.ensures ∙ c.if-not-in_range.false)), tt)

past₂ : (c : Else-not-in_range-2) → Passed (transform_conditions c.args.t c.args.r) 2
unfolding HoldsAt
past₂ c =
    pass _ 1 (past₁ (goal.at.Else-not-in_range-2 c).Else-not-in_range)
    (not_so (ap not (sym c.in_range-2.ensures ∙ c.if-not-in_range-2.false)))

pub returns-then-not-in_range : goal.returns-then-not-in_range
unfolding verdict_of found_at_lem Passed HoldsAt
returns-then-not-in_range c =
    let h = ap not (sym c.in_range.ensures ∙ c.if-not-in_range.true) in
    refused_with_lem _ _ MatrixEntry (refuse _ 0 tt (so h) (Err MatrixEntry) refl)

pub returns-then-not-in_range-2 : goal.returns-then-not-in_range-2
unfolding verdict_of found_at_lem HoldsAt
returns-then-not-in_range-2 c =
    let p = past₁ (goal.at.returns-then-not-in_range-2 c).Else-not-in_range in
    let h = ap not (sym c.in_range-2.ensures ∙ c.if-not-in_range-2.true) in
    refused_with_lem _ _ MatrixEntry (refuse _ 1 p (so h) (Err MatrixEntry) refl)

pub returns-then-not-unimodular : goal.returns-then-not-unimodular
unfolding verdict_of found_at_lem HoldsAt
returns-then-not-unimodular c =
    let p = past₂ (goal.at.returns-then-not-unimodular c).Else-not-in_range-2 in
    let h = branch_fails _ _ c.unimodular.ensures (ap not c.if-not-unimodular.true) in
    refused_with_lem _ _ Determinant (refuse _ 2 p (so h) (Err Determinant) refl)

pub returns : goal.returns
unfolding verdict_of found_none HoldsAt
returns c =
    let l = transform_conditions c.args.t c.args.r in
    let p = past₂ (goal.at.returns c).Else-not-in_range-2 in
    let h = branch_passes _ _ c.unimodular.ensures (ap not c.if-not-unimodular.false) in
    accepted_with _ _ c.transform.result (accept l (pass l 2 p (not_so h)) refl) c.transform.ensures
