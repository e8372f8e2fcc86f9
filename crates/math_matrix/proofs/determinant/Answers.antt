-- `determinant`: along the first column.
use mathlib.Core.Path.{◌∙◌}
use mathlib.Core.List.{[]}
use lib.ListN.{get_or}
use lib.IntN.{pos}
use mir.Syntax.{w64}
use Rattle.math_matrix.proofs.Sums.{told}
use Rattle.math_matrix.specs.Rows.{dot_of, cross_of, det_minors}
use Rattle.math_matrix.proofs.determinant.Goals as goal

pub returns : goal.returns
returns c =
    let m = c.transposed.ensures (pos 0) in
    told w64 c.row_dot.type_inv (c.row_dot.ensures
    ∙ (λ i. dot_of (c.cross.ensures i) (get_or c.transposed.result 0 []))
    ∙ (λ i. dot_of (cross_of (get_or (m i) 1 []) (get_or (m i) 2 [])) (get_or (m i) 0 []))
    ∙ det_minors c.args.m)
