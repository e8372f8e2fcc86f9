use Rattle.std.proofs.Common.{◌≡◌, ◌++◌, take, drop}
use Rattle.definitions.specs.Orbit.{multiplicities}
use Rattle.base_cell.proofs.labels.put_multiplicities.Given as goal

abbrev pub invariant-loop-j : goal.invariant-loop-j
invariant-loop-j l = l.out ≡ take l.j (multiplicities l.labels) ++ drop l.j l.initial.out
