use Rattle.std.proofs.Common.{◌≡◌, length, drop}
use Rattle.base_permutation.proofs.Placing.{Placed}
use Rattle.base_permutation.proofs.put_inverse.Given as goal

abbrev pub invariant-loop-i : goal.invariant-loop-i
invariant-loop-i l = (drop (length l.p) l.out ≡ drop (length l.p) l.initial.out) × Placed l.p l.i l.out
