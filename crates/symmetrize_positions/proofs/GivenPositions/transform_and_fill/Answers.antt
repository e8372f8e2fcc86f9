-- `transform_and_fill`: the first n cells held are the transformed positions.
use Rattle.symmetrize_positions.proofs.Moved.{front_is}
use Rattle.symmetrize_positions.proofs.GivenPositions.transform_and_fill.Goals as goal

pub returns : goal.returns
returns c =
    let g = c.args.self.now in
    let inverse = c.real_inverse-inverse in
    rw (front_is g.t g.shift g.positions.now inverse.result _ _ c.put_transformed.ensures inverse.ensures)
    at c.fill.ensures
