use Rattle.std.proofs.Common.{ℕ, ◌<◌, ◌≡◌, length}
use Rattle.definitions.specs.Permutation.{image}
use Rattle.base_permutation.proofs.MetTable.{Met}
use Rattle.base_permutation.proofs.each_once.Given as goal

abbrev pub invariant-loop-image : goal.invariant-loop-image
invariant-loop-image l = (length l.met ≡ 256) × Met l.p l.image-index l.met × ((j : ℕ) → j < l.image-index → image l.p j < length l.p)
