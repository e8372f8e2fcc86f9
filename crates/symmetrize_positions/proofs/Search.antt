-- What the test of the images says of each permutation.
use Prim.Native.Nat.{ℕ}
use mathlib.Core.Path.{◌≡◌, subst}
use mathlib.Core.Bool.{Bool, true, false}
use mathlib.Core.List.{List}
use borrow.Author.Tests.{not-false}
use Rattle.definitions.specs.Lists.{up_to}
use Rattle.laws.specs.Lists.{up_to_at, below_up_to}
use Rattle.definitions.specs.Permutation.{is_permutation, permutation_at}
use Rattle.definitions.specs.Lent.{bad_images}
use Rattle.symmetrize_positions.specs.Targets.{Permuted}
use Rattle.laws.specs.Counting.{all_at}

abbrev pub is_nth : ℕ → List ℕ → ℕ → Bool
is_nth n images o = is_permutation n (permutation_at n images o)

pub all_permuted : (n k : ℕ) (images : List ℕ) → bad_images n k images ≡ false → Permuted n k images
all_permuted n k images e o h =
    subst (λ x. is_nth n images x ≡ true) (up_to_at k o h) (all_at (is_nth n images) 0 (up_to k) (not-false _ e) o (below_up_to k o h))
