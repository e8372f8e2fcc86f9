use Rattle.std.proofs.Common.{◌≡◌, ◌-◌, length}
use Rattle.definitions.specs.Shuffle.{swap_down}
use Rattle.shuffle.proofs.swap_down.Given as goal

abbrev pub invariant-loop-i : goal.invariant-loop-i
invariant-loop-i l = swap_down (l.i - 1) l.state l.list ≡ swap_down (length l.initial.list - 1) l.seed l.initial.list
