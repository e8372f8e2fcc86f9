-- `row_dot`: 64 bits hold the sums.
use mir.Syntax.{w16, w32, w64}
use Rattle.math_matrix.proofs.Shape.{good_item}
use Rattle.math_matrix.proofs.Sums.{told_product, sum-two, sum-three, sum_is}
use Rattle.math_matrix.proofs.row_dot.Goals as goal

pub overflow_add-result : goal.overflow_add-result
overflow_add-result c =
    let x = good_item w32 c.args.x c.well_formed.0 in
    let a = good_item w16 c.args.a c.well_formed.1.0 in
    sum-two c.args.x c.args.a x a (told_product w32 w16 w64 (x 0) (a 0) c.term.type_inv c.term.ensures) (told_product w32 w16 w64 (x 1) (a 1) c.term-2.type_inv c.term-2.ensures)

pub overflow_add-result-2 : goal.overflow_add-result-2
overflow_add-result-2 c =
    let x = good_item w32 c.args.x c.well_formed.0 in
    let a = good_item w16 c.args.a c.well_formed.1.0 in
    sum-three c.args.x c.args.a x a (told_product w32 w16 w64 (x 0) (a 0) c.term.type_inv c.term.ensures) (told_product w32 w16 w64 (x 1) (a 1) c.term-2.type_inv c.term-2.ensures) (told_product w32 w16 w64 (x 2) (a 2) c.term-3.type_inv c.term-3.ensures)

pub returns : goal.returns
returns c =
    let x = good_item w32 c.args.x c.well_formed.0 in
    let a = good_item w16 c.args.a c.well_formed.1.0 in
    sum_is c.args.x c.args.a x a (told_product w32 w16 w64 (x 0) (a 0) c.term.type_inv c.term.ensures) (told_product w32 w16 w64 (x 1) (a 1) c.term-2.type_inv c.term-2.ensures) (told_product w32 w16 w64 (x 2) (a 2) c.term-3.type_inv c.term-3.ensures)
