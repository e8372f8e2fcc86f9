use Rattle.std.proofs.Common.{◌≡◌, ◌++◌, replicate, drop}
use Rattle.lent.proofs.clear.Given as goal

abbrev pub invariant-loop-x : goal.invariant-loop-x
invariant-loop-x g l = l.x-items ≡ replicate l.x-index g.T.Zero.ZERO ++ drop l.x-index l.initial.x-items
