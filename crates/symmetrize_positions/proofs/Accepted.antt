-- What an accepted call knows of its arguments.
use Prim.Native.Nat.{ℕ}
use lib.ListN.{length}
use borrow.Author.Tests.{ltb-false}
use Rattle.std.specs.Prelude.{Ok}
use Rattle.definitions.specs.Refusal.{Checked}
use Rattle.symmetrize_positions.specs.declared.GivenPositions.{GivenPositions}
use Rattle.symmetrize_positions.specs.Given.{conditions, Known}
use Rattle.symmetrize_positions.proofs.Counts.{counted}
use Rattle.symmetrize_positions.proofs.Search.{all_permuted}
use Rattle.laws.specs.Order.{numbered, FailAll, past}
use Rattle.laws.specs.Tests.{off}

pub known : (g : GivenPositions) (room : ℕ) → Checked (conditions g room) (Ok tt) → Known g room
unfolding numbered FailAll
known g room e =
    let n = length g.positions.now in
    let k = length g.targets.rotations.now in
    let images = g.targets.images.now in
    let fails = past (conditions g room) tt e in (
      counted n k (length g.targets.translations.now) (length images) (off _ fails.0),
      all_permuted n k images (off _ fails.1.1.1.0),
      ltb-false _ _ (off _ fails.1.1.1.1.1.0),
    )
