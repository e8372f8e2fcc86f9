-- `swap_rows`: each row is that of the place it comes from.
use Rattle.std.proofs.Common.{arith}
use mir.Syntax.{w16}
use Rattle.math_matrix.proofs.Shape.{good_three}
use Rattle.math_snf.proofs.Lines.{row_of}
use Rattle.math_snf.proofs.swap_rows.Goals as goal

pub returns : goal.returns
returns c =
    let row = row_of c.args.m (good_three w16 c.args.m c.well_formed.0) in
    let p = c.swap_index-p in
    let q = c.swap_index-q in
    let t = c.swap_index-t in
    rw (row p.result.at (omega arith), row q.result.at (omega arith), row t.result.at (omega arith))
    (simp (p.ensures, q.ensures, t.ensures))
