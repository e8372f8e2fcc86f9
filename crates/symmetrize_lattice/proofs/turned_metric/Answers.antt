-- `turned_metric`: the rotation as floats, and its transpose.
use Rattle.std.proofs.Common.{ap, ◌∙◌}
use Rattle.std.specs.Float.{nan}
use Rattle.definitions.specs.Real.{mul_f, transpose_f}
use Rattle.math_real.specs.Rows.{real_is}
use Rattle.symmetrize_lattice.proofs.turned_metric.Goals as goal

pub returns : goal.returns
returns c =
    let r = real_is c.real-r.ensures in
    let t = c.transposed.ensures nan ∙ ap transpose_f r in
    c.product.ensures ∙ (λ i. mul_f ((c.product-p.ensures ∙ ap (λ m. mul_f m c.args.g) t) i) (r i))
