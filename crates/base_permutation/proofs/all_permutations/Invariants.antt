use Rattle.base_permutation.proofs.Parts.{PassedTo}
use Rattle.base_permutation.proofs.all_permutations.Given as goal

abbrev pub invariant-loop-o : goal.invariant-loop-o
invariant-loop-o l = PassedTo l.images l.n l.k l.o
