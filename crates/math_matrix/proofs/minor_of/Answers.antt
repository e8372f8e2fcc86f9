-- `minor_of`: the difference of two products fits 32 bits.
use mathlib.Core.Path.{◌≡◌}
use lib.IntN.{◌-ℤ◌}
use mir.Syntax.{w16, w32}
use Rattle.definitions.specs.Matrix.{minor}
use Rattle.math_matrix.proofs.MinorSizes.{minor_fits}
use Rattle.math_matrix.proofs.Sums.{read, is_fits, is_back, told_product}
use Rattle.math_matrix.proofs.minor_of.Goals as goal
use Rattle.math_matrix.proofs.minor_of.Goals.{After-product-2}

difference : (c : After-product-2) → read w32 c.product.result -ℤ read w32 c.product-2.result ≡ minor c.args.a c.args.b c.args.c c.args.d
difference c =
    let x = c.product in
    let y = c.product-2 in
    λ i.
    told_product w16 w16 w32 c.ranges.a c.ranges.d x.type_inv x.ensures i
    -ℤ told_product w16 w16 w32 c.ranges.b c.ranges.c y.type_inv y.ensures i

pub overflow_sub-result : goal.overflow_sub-result
overflow_sub-result c = is_fits (difference c) (minor_fits c.ranges.a c.ranges.b c.ranges.c c.ranges.d)

pub returns : goal.returns
returns c = is_back w32 (difference c) (minor_fits c.ranges.a c.ranges.b c.ranges.c c.ranges.d)
