-- A factor of the definitions, which may not be, as the code hands it back.
use Rattle.std.specs.Prelude.{Option, None, Some}
use Rattle.std.proofs.Math.Option as Math
use Rattle.definitions.specs.Real.{RealMatrix}

abbrev pub handed_back : Math.Option RealMatrix → Option RealMatrix
handed_back Math.none = None
handed_back (Math.some m) = Some m
