-- The factor is there or not, and what it gives is good or not; the law has each case.
use Rattle.std.proofs.Common.{◌≡◌, ◌∙◌, sym, subst, rules}
use Rattle.std.specs.Prelude.{Bool, cond, None, Some}
use Rattle.symmetrize_lattice.specs.Lattice.{symmetrized}
use Rattle.symmetrize_lattice.proofs.Laws.{with_factor, without_factor}
use Rattle.symmetrize_lattice.proofs.symmetrized.Goals as goal

pub returns-in_err-factor : goal.returns-in_err-factor
returns-in_err-factor c =
    let n : c.cholesky.result ≡ None = search rules in
    let r : c.from_residual.result ≡ None = search rules in
    r ∙ without_factor c.args.old c.args.rotations.now _ c.mean_metric.ensures (sym n ∙ c.cholesky.ensures)

pub returns-then-good_deformation : goal.returns-then-good_deformation
returns-then-good_deformation c =
    let a = c.args in
    let b = c.new_basis-basis.result in
    let s : c.cholesky.result ≡ Some c.in_ok-factor.factor = search rules in
    subst (λ (q : Bool). cond q (Some b) None ≡ symmetrized a.old a.rotations.now) c.if-good_deformation.true
    (with_factor a.old a.rotations.now _ c.mean_metric.ensures c.in_ok-factor.factor b c.good_deformation.result (sym s ∙ c.cholesky.ensures) c.new_basis-basis.ensures c.good_deformation.ensures)

pub returns : goal.returns
returns c =
    let a = c.args in
    let b = c.new_basis-basis.result in
    let s : c.cholesky.result ≡ Some c.in_ok-factor.factor = search rules in
    subst (λ (q : Bool). cond q (Some b) None ≡ symmetrized a.old a.rotations.now) c.if-good_deformation.false
    (with_factor a.old a.rotations.now _ c.mean_metric.ensures c.in_ok-factor.factor b c.good_deformation.result (sym s ∙ c.cholesky.ensures) c.new_basis-basis.ensures c.good_deformation.ensures)
