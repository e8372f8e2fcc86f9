-- `symmetrize_positions`: the verdict is `verdict`'s, and the list is the answer's or cleared.
use lib.ListN.{length}
use Rattle.symmetrize_positions.proofs.Accepted.{known}
use Rattle.symmetrize_positions.proofs.symmetrize_positions.Goals as goal

pub transform_and_fill-requires : goal.transform_and_fill-requires
transform_and_fill-requires c = known c.args.given.now (length c.args.out.now) c.in-Ok.ensures
