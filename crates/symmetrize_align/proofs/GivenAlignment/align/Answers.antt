-- `align`: past the first five conditions the verdict is by 11.
use lib.ListN.{length}
use Rattle.symmetrize_align.proofs.Accepted.{known, written_past}
use Rattle.symmetrize_align.proofs.GivenAlignment.align.Goals as goal

pub transform_and_put-requires : goal.transform_and_put-requires
transform_and_put-requires c = known c.args.self.now (length c.args.out.now) c.in_ok-verdict.ensures

pub returns : goal.returns
returns c = written_past c.args.self.now c.args.out.now c.in_ok-verdict.ensures _ _ c.transform_and_put.ensures
