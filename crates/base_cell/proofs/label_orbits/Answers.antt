-- `label_orbits`: what is left is by the test.
use Rattle.base_cell.specs.Given.{arguments_of, orbit_cells}
use Rattle.base_cell.proofs.Accepted.{roomy}
use Rattle.base_cell.proofs.label_orbits.Goals as goal

pub put-requires : goal.put-requires
put-requires c =
    roomy (arguments_of c.in-Some.grouping.labelling) c.rooms.result (orbit_cells c.args.orbits.now) c.rooms.ensures
    c.in-Some.ensures.0.1
