use Rattle.std.proofs.Common.{◌≡◌, length}
use Rattle.base_permutation.proofs.Marks.{Marks}
use Rattle.base_permutation.proofs.all_met.Given as goal

abbrev pub invariant-loop-image : goal.invariant-loop-image
invariant-loop-image l = (length l.marks ≡ 256) × Marks l.p l.image-index l.marks
