-- `less_row`: one row is written, the one that the definition has there.
use Rattle.std.proofs.Common.{arith}
use mir.Syntax.{w16, w32}
use mir.ValLaws.{to_z-of_z}
use Rattle.math_matrix.proofs.Shape.{good_three}
use Rattle.math_snf.proofs.Lines.{set_row}
use Rattle.math_snf.proofs.less_row.Goals as goal

pub returns : goal.returns
returns c =
    set_row c.args.m (good_three w16 c.args.m c.well_formed.0) c.args.k c.args.s.at c.args.i.at c.less_line.result (omega arith)
    (simp (c.less_line.ensures, to_z-of_z w32 c.args.k c.ranges.k))
