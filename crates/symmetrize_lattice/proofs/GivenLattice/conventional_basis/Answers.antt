-- `conventional_basis`: T and C as floats.
use Rattle.std.proofs.Common.{ap, ◌∙◌}
use Rattle.definitions.specs.Real.{mul_f}
use Rattle.math_real.specs.Rows.{real_is}
use Rattle.symmetrize_lattice.proofs.GivenLattice.conventional_basis.Goals as goal

pub returns : goal.returns
returns c =
    let t = real_is c.real.ensures in
    let p = c.product-p.ensures ∙ ap (mul_f c.args.self.now.lattice) t in
    c.product.ensures ∙ (λ i. mul_f (p i) (real_is c.real-2.ensures i))
