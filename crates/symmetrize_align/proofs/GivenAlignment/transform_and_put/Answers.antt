-- `transform_and_put`: the first k held are the transformed rotations.
use Rattle.symmetrize_align.proofs.Fronts.{lent_is, aligned_by_lem}
use Rattle.symmetrize_align.proofs.GivenAlignment.transform_and_put.Goals as goal

pub returns : goal.returns
returns c =
    let g = c.args.self.now in
    aligned_by_lem g _ (lent_is g.t g.operations.rotations.now _ _ c.put_transformed.ensures) _ _ _
    c.put_aligned.ensures
