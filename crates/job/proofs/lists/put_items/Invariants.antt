use mathlib.Core.Path.{◌≡◌}
use mathlib.Core.List.{◌++◌}
use lib.ListN.{length, take, drop}
use Rattle.job.specs.Places.{items}
use Rattle.job.proofs.lists.put_items.Given as goal

abbrev pub invariant-loop-i : goal.invariant-loop-i
invariant-loop-i g l =
    (length l.out ≡ length l.initial.out)
    × (l.out ≡ take l.i (items (g.T.Operand.value l.bytes) l.width l.at l.n) ++ drop l.i l.initial.out)
