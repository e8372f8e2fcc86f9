use Rattle.std.proofs.Common.{◌≡◌, ◌++◌, take, drop}
use Rattle.symmetrize_align.proofs.targets.copy.Given as goal

abbrev pub invariant-loop-i : goal.invariant-loop-i
invariant-loop-i l = l.out ≡ take l.i l.p ++ drop l.i l.initial.out
