-- The tests in the order of precedence, each on what those before it passed.
use Rattle.std.proofs.Common.{not, sym, refl, ap, ◌∙◌}
use Rattle.std.specs.Prelude.{Err, Option}
use Rattle.std.specs.Option.{ok_or}
use Rattle.definitions.specs.declared.Refusal.TheVariants.{Counts, MatrixEntry, FloatRange, Determinant, Lattice}
use Rattle.definitions.specs.Real.{RealMatrix}
use Rattle.laws.specs.Tests.{so, not_so, branch_fails, branch_passes}
use Rattle.laws.specs.Verdicts.{HoldsAt, Passed, pass, found_at_lem, refuse, verdict_of, refused_with_lem}
use Rattle.symmetrize_lattice.specs.Given.{conditions}
use Rattle.symmetrize_lattice.specs.Lattice.{symmetrized}
use Rattle.symmetrize_lattice.proofs.Laws.{by_last}
use Rattle.symmetrize_lattice.proofs.GivenLattice.symmetrized_basis.Goals as goal
use Rattle.symmetrize_lattice.proofs.GivenLattice.symmetrized_basis.Goals.{
  Else-not-is_some_count,
  Else-not-entries_in_range,
  Else-not-lattice_within,
  Else-not-good_determinants,
}

past₁ : (c : Else-not-is_some_count) → Passed (conditions c.args.self.now) 1
unfolding Passed HoldsAt
past₁ c = (not_so (branch_passes _ _ c.is_some_count.ensures (ap not c.if-not-is_some_count.false)), tt)

past₂ : (c : Else-not-entries_in_range) → Passed (conditions c.args.self.now) 2
unfolding HoldsAt
past₂ c =
    pass _ 1 (past₁ (goal.at.Else-not-entries_in_range c).Else-not-is_some_count)
    (not_so (branch_passes _ _ c.entries_in_range.ensures (ap not c.if-not-entries_in_range.false)))

past₃ : (c : Else-not-lattice_within) → Passed (conditions c.args.self.now) 3
unfolding HoldsAt
past₃ c =
    pass _ 2 (past₂ (goal.at.Else-not-lattice_within c).Else-not-entries_in_range)
    (not_so (ap not (sym c.lattice_within.ensures ∙ c.if-not-lattice_within.false)))

past₄ : (c : Else-not-good_determinants) → Passed (conditions c.args.self.now) 4
unfolding HoldsAt
past₄ c =
    pass _ 3 (past₃ (goal.at.Else-not-good_determinants c).Else-not-lattice_within)
    (not_so (branch_passes _ _ c.good_determinants.ensures (ap not c.if-not-good_determinants.false)))

pub returns-then-not-is_some_count : goal.returns-then-not-is_some_count
unfolding verdict_of found_at_lem Passed HoldsAt
returns-then-not-is_some_count c =
    let h = branch_fails _ _ c.is_some_count.ensures (ap not c.if-not-is_some_count.true) in
    refused_with_lem _ _ Counts (refuse _ 0 tt (so h) (Err Counts) refl)

pub returns-then-not-entries_in_range : goal.returns-then-not-entries_in_range
unfolding verdict_of found_at_lem HoldsAt
returns-then-not-entries_in_range c =
    let p = past₁ (goal.at.returns-then-not-entries_in_range c).Else-not-is_some_count in
    let h = branch_fails _ _ c.entries_in_range.ensures (ap not c.if-not-entries_in_range.true) in
    refused_with_lem _ _ MatrixEntry (refuse _ 1 p (so h) (Err MatrixEntry) refl)

pub returns-then-not-lattice_within : goal.returns-then-not-lattice_within
unfolding verdict_of found_at_lem HoldsAt
returns-then-not-lattice_within c =
    let p = past₂ (goal.at.returns-then-not-lattice_within c).Else-not-entries_in_range in
    let h = ap not (sym c.lattice_within.ensures ∙ c.if-not-lattice_within.true) in
    refused_with_lem _ _ FloatRange (refuse _ 2 p (so h) (Err FloatRange) refl)

pub returns-then-not-good_determinants : goal.returns-then-not-good_determinants
unfolding verdict_of found_at_lem HoldsAt
returns-then-not-good_determinants c =
    let p = past₃ (goal.at.returns-then-not-good_determinants c).Else-not-lattice_within in
    let h = branch_fails _ _ c.good_determinants.ensures (ap not c.if-not-good_determinants.true) in
    refused_with_lem _ _ Determinant (refuse _ 3 p (so h) (Err Determinant) refl)

pub returns : goal.returns
returns c =
    let g = c.args.self.now in
    let made = ap (λ (m : RealMatrix). symmetrized m g.rotations.now) c.conventional_basis-old.ensures in
    by_last g (past₄ (goal.at.returns c).Else-not-good_determinants) c.ok_or.result
    (c.ok_or.ensures.value ∙ ap (λ (o : Option RealMatrix). ok_or o Lattice) (c.symmetrized.ensures ∙ made))
