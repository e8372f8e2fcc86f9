-- `accepted`: what the verdict found.
use Rattle.std.proofs.Common.{refl}
use Rattle.base_cell.specs.Given.{arguments_of}
use Rattle.base_cell.proofs.Accepted.{known_accepted}
use Rattle.base_cell.proofs.verdicts.Labelling.accepted.Goals as goal

pub invariant_of-result : goal.invariant_of-result
invariant_of-result c =
    let a = c.args in
    record { groupable = (known_accepted (arguments_of a.self.now) a.rooms c.in_ok-verdict.ensures).0 }

pub returns : goal.returns
returns c =
    let a = c.args in
    let checked = c.in_ok-verdict.ensures in
    ((refl, (known_accepted (arguments_of a.self.now) a.rooms checked).1), checked)
