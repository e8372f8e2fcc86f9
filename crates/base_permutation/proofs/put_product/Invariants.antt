use Rattle.std.proofs.Common.{◌≡◌, ◌++◌, take, drop}
use Rattle.definitions.specs.Permutation.{after}
use Rattle.base_permutation.proofs.put_product.Given as goal

abbrev pub invariant-loop-i : goal.invariant-loop-i
invariant-loop-i l = l.out ≡ take l.i (after l.p l.q) ++ drop l.i l.initial.out
