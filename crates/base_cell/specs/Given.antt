-- What the label call and its step are given and lent, as the definitions speak of it.
use Rattle.std.specs.Prelude.{◌≡◌, length}
use Rattle.definitions.specs.SiteCalls.{LabelArguments, LabelCells}
use Rattle.base_cell.specs.declared.Orbits.{Orbits}
use Rattle.base_cell.specs.declared.verdicts.Labelling.{Labelling}

abbrev pub arguments_of : Labelling → LabelArguments
arguments_of x = record { sites = x.sites; count = x.count; images = x.images.now; mapping = x.mapping.now }

abbrev pub orbit_cells : Orbits → LabelCells
orbit_cells o = record { labels = o.labels.now; multiplicities = o.multiplicities.now }

-- the same lists, whatever stands in them
abbrev pub SameOrbits : Orbits → Orbits → Type 0
SameOrbits s t = (t.labels.ghost_name ≡ s.labels.ghost_name) × (t.multiplicities.ghost_name ≡ s.multiplicities.ghost_name)

-- as long as they were
pub record SameRooms (entry exit : LabelCells) : Type 0 where
  pub labels : length exit.labels ≡ length entry.labels
  pub multiplicities : length exit.multiplicities ≡ length entry.multiplicities
