-- One entry's test, for the functions on a row.
use Rattle.std.specs.Prelude.{Bool, leb, ℤ, nat_abs}
use Rattle.std.specs.Float.{Float}
use Rattle.std.specs.Float.Ieee.{le}
use Rattle.definitions.specs.Limits.{magnitude}

abbrev pub small_entry : ℤ → Bool
small_entry e = leb (nat_abs e) 31

-- where the limit is finite, `within` it
abbrev pub at_most : Float → Float → Bool
at_most limit x = le (magnitude x) limit
