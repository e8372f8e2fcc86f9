use Rattle.std.proofs.Common.{◌≡◌, take}
use Rattle.definitions.specs.Lists.{all}
use Rattle.base_permutation.proofs.all_marked.Given as goal

abbrev pub invariant-loop-mark : goal.invariant-loop-mark
invariant-loop-mark l = l.whole ≡ all (λ m. m) (take l.mark-index l.marks)
