-- `put_points`: C's shape is its type's, and the points are the call's.
use mir.Syntax.{w8}
use Rattle.math_matrix.proofs.Shape.{good_three}
use Rattle.symmetrize_standardize.proofs.cell.put_points.Goals as goal

pub returns-clause-shape : goal.returns-clause-shape
returns-clause-shape c = good_three w8 c.args.c c.well_formed.0

pub returns-clause-points : goal.returns-clause-points
returns-clause-points c = (c.lattice_points.result, c.lattice_points.ensures)
