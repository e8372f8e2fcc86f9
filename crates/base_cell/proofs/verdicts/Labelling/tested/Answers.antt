-- `tested`: what the step's test found.
use Rattle.std.proofs.Common.{refl, sym, ◌∙◌}
use Rattle.base_cell.specs.Given.{arguments_of}
use Rattle.base_cell.proofs.Accepted.{known_tested}
use Rattle.base_cell.proofs.verdicts.Labelling.tested.Goals as goal

pub invariant_of-result : goal.invariant_of-result
invariant_of-result c =
    let a = c.args in
    let passed = sym c.can_group.ensures ∙ c.if-not-can_group.false in
    record { groupable = (known_tested (arguments_of a.self.now) a.rooms passed).0 }

pub returns : goal.returns
returns c =
    let a = c.args in
    let passed = sym c.can_group.ensures ∙ c.if-not-can_group.false in
    ((refl, (known_tested (arguments_of a.self.now) a.rooms passed).1), passed)
