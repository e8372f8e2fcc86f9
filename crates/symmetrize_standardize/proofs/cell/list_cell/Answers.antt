-- `list_cell`: the two calls' promises, and the step on what they left.
use mathlib.Core.Path.{refl}
use lib.ListN.{replicate}
use Rattle.definitions.specs.Lent.{zero_point}
use Rattle.definitions.specs.Limits.{most_copies}
use Rattle.symmetrize_standardize.proofs.cell.list_cell.Goals as goal

pub returns-clause-listed : goal.returns-clause-listed
returns-clause-listed c =
    let p = c.put_points-m in
    record {
      symmetrised = c.symmetrize_positions.result;
      positions = c.symmetrize_positions.ensures;
      shape = p.ensures.shape;
      pointed = p.ensures.points.0;
      none = replicate most_copies zero_point;
      found = p.new.out;
      room = refl;
      points = rw c.ZERO-points.ensures at p.ensures.points.1;
      listed = rw p.ensures.count at c.list_copies.ensures.listed;
    }
