-- What the definitions say of a given lattice.
use Rattle.std.specs.Prelude.{◌≡◌, List}
use Rattle.definitions.specs.Refusal.{Condition}
use Rattle.definitions.specs.Calls.{lattice_conditions}
use Rattle.definitions.specs.Real.{RealMatrix}
use Rattle.definitions.specs.Symmetrization as Symmetrization
use Rattle.definitions.specs.Symmetrization.{new_of}
use Rattle.symmetrize_lattice.specs.declared.GivenLattice.{GivenLattice}

abbrev pub conditions : GivenLattice → List Condition
conditions g = lattice_conditions g.lattice g.t g.c g.rotations.now

abbrev pub conventional_basis : GivenLattice → RealMatrix
conventional_basis g = Symmetrization.conventional_basis g.lattice g.t g.c

-- the new conventional basis
abbrev pub IsNew : GivenLattice → RealMatrix → Type 0
IsNew g m = m ≡ new_of g.lattice g.t g.c g.rotations.now
