-- `less_times`: the product and the difference fit 64 bits.
use Rattle.std.proofs.Common.{◌*◌, ◌≤◌, ◌≡◌, ◌∙◌, arith}
use Rattle.std.specs.Prelude.{nat_abs, ◌*ℤ◌, ◌-ℤ◌}
use mir.Syntax.{w16, w32, w64}
use mir.Val.{SFits, to_z, of_z}
use mir.ValLaws.{to_z-of_z}
use Rattle.math_matrix.specs.Bounds.{abs_fits, abs-mul_le, abs-sub, fits_abs, back}
use Rattle.math_snf.proofs.less_times.Goals as goal
use Rattle.math_snf.proofs.less_times.Goals.{After-from-3}

x_is : (c : After-from-3) → to_z w64 (of_z w64 c.from.result) ≡ c.args.x
x_is c = back w64 c.from.result c.from.type_inv ∙ c.from.ensures ∙ to_z-of_z w16 c.args.x c.ranges.x

k_is : (c : After-from-3) → to_z w64 (of_z w64 c.from-2.result) ≡ c.args.k
k_is c = back w64 c.from-2.result c.from-2.type_inv ∙ c.from-2.ensures ∙ to_z-of_z w32 c.args.k c.ranges.k

y_is : (c : After-from-3) → to_z w64 (of_z w64 c.from-3.result) ≡ c.args.y
y_is c = back w64 c.from-3.result c.from-3.type_inv ∙ c.from-3.ensures ∙ to_z-of_z w16 c.args.y c.ranges.y

product : (c : After-from-3) → nat_abs (c.args.k *ℤ c.args.y) ≤ 2147483648 * 32768
product c = abs-mul_le c.args.k c.args.y 2147483648 32768 (abs_fits w32 c.args.k c.ranges.k) (abs_fits w16 c.args.y c.ranges.y)

product_fits : (c : After-from-3) → SFits w64 (c.args.k *ℤ c.args.y)
product_fits c = fits_abs w64 (c.args.k *ℤ c.args.y) (omega (arith, product c))

fits : (c : After-from-3) → SFits w64 (c.args.x -ℤ c.args.k *ℤ c.args.y)
fits c = fits_abs w64 (c.args.x -ℤ c.args.k *ℤ c.args.y) (omega (arith, abs-sub c.args.x (c.args.k *ℤ c.args.y), product c, abs_fits w16 c.args.x c.ranges.x))

pub overflow_sub-result : goal.overflow_sub-result
overflow_sub-result c = simp (x_is c, k_is c, y_is c, to_z-of_z w64 _ (product_fits c)) (fits c)

pub returns : goal.returns
returns c = simp (x_is c, k_is c, y_is c, to_z-of_z w64 _ (product_fits c), to_z-of_z w64 _ (fits c))
