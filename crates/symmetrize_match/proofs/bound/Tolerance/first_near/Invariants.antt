use Prim.Native.Nat.{◌+◌}
use mathlib.Core.Path.{◌≡◌}
use lib.ListN.{drop}
use Rattle.symmetrize_match.specs.Match.{first_near}
use Rattle.symmetrize_match.proofs.bound.Tolerance.first_near.Given as goal

abbrev pub invariant-loop-i : goal.invariant-loop-i
invariant-loop-i l = first_near l.self.symprec l.from l.squares ≡ first_near l.self.symprec (l.from + l.i) (drop l.i l.squares)
