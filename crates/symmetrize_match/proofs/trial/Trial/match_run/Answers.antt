-- `match_run` meets its contract.
use Rattle.symmetrize_match.proofs.Columns.{squares_of}
use Rattle.symmetrize_match.proofs.trial.Trial.match_run.Goals as goal

pub returns : goal.returns
returns g c =
    let t = c.args.self.now in
    let o = c.args.offsets.now in
    record {
      squares = _;
      column = squares_of t.space.now t.position g.row.N o.x o.y o.z t.basis _ _ _ _ c.put_moved.ensures c.put_squares.ensures;
      near = c.first_near.ensures;
    }
