-- `row_small`: the row as it is stored has the three entries of the definition's.
use Rattle.std.proofs.Common.{ap, ◌∙◌, arith}
use mir.Syntax.{w16}
use Rattle.std.specs.List.{list_all}
use Rattle.definitions.specs.Limits.{small}
use Rattle.math_matrix.proofs.Shape.{good_three}
use Rattle.math_snf.proofs.Lines.{row_of}
use Rattle.math_snf.proofs.row_small.Goals as goal

pub returns : goal.returns
returns c =
    c.line_small.ensures ∙ ap (list_all small) (row_of c.args.m (good_three w16 c.args.m c.well_formed.0) c.args.i.at (omega arith))
