use Rattle.std.proofs.Common.{◌≡◌, ◌++◌, take, drop}
use Rattle.definitions.specs.Lists.{up_to}
use Rattle.base_permutation.proofs.put_identity.Given as goal

abbrev pub invariant-loop-i : goal.invariant-loop-i
invariant-loop-i l = l.front ≡ take l.i (up_to l.n) ++ drop l.i l.initial.front
