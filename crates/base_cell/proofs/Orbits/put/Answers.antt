-- `Orbits::put`: the lists are grouped and cleared behind the answer.
use Rattle.definitions.specs.SiteCalls.{LabelCells}
use Rattle.base_cell.specs.Given.{arguments_of, orbit_cells}
use Rattle.base_cell.proofs.Accepted.{left_grouped}
use Rattle.base_cell.proofs.Orbits.put.Goals as goal

pub returns-clause-left : goal.returns-clause-left
returns-clause-left c =
    let grouped = c.group_sites_by_orbit in
    let z : LabelCells = record { labels = c.clear.new.out; multiplicities = c.clear-2.new.out } in
    left_grouped (arguments_of c.args.x.now.labelling) (orbit_cells c.args.self.now) z
    grouped.new.labels grouped.new.multiplicities c.requires grouped.ensures c.clear.ensures c.clear-2.ensures
