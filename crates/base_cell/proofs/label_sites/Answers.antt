-- `label_sites`: what is left is by the verdict.
use Rattle.std.proofs.Common.{true, ap, subst}
use Rattle.std.specs.Prelude.{Err, Ok}
use Rattle.base_cell.specs.Given.{arguments_of, orbit_cells}
use Rattle.base_cell.specs.Grouping.{LabelsLeft}
use Rattle.base_cell.specs.Tested.{Accepted}
use Rattle.base_cell.proofs.Accepted.{roomy, kept, refused}
use Rattle.base_cell.proofs.label_sites.Goals as goal

pub put-requires : goal.put-requires
put-requires c =
    roomy (arguments_of c.in-Ok.grouping.labelling) c.rooms.result (orbit_cells c.args.orbits.now) c.rooms.ensures
    c.in-Ok.ensures.0.1

pub returns-in-Ok-clause-labelled : goal.returns-in-Ok-clause-labelled
returns-in-Ok-clause-labelled c =
    let x = c.args.x.now in
    let lent = orbit_cells c.args.orbits.now in
    let left = orbit_cells c.put.new.self in
    let accepted = subst (λ rooms. Accepted x rooms (Ok c.in-Ok.grouping)) c.rooms.ensures c.in-Ok.ensures in
    let same = ap arguments_of accepted.0.0 in
    kept (arguments_of x) lent left accepted.1 (subst (λ y. LabelsLeft y lent left true) same c.put.ensures.left)

pub returns-in-Err-clause-labelled : goal.returns-in-Err-clause-labelled
returns-in-Err-clause-labelled c =
    let x = c.args.x.now in
    let r = c.in-Err.refusal in
    refused (arguments_of x) (orbit_cells c.args.orbits.now) (orbit_cells c.clear.new.self) r
    (subst (λ rooms. Accepted x rooms (Err r)) c.rooms.ensures c.in-Err.ensures) c.clear.ensures.zero
