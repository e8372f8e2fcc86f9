-- `divided` meets its contract: the definition's steps, one behind the other.
use mathlib.Core.Path.{ap, ◌∙◌}
use Rattle.definitions.specs.Real.{apply_f, sub_p}
use Rattle.symmetrize_match.specs.Match.{quotient_real, divided_real}
use Rattle.symmetrize_match.proofs.fit.divided.Goals as goal

pub returns : goal.returns
unfolding divided_real
returns c =
    let a = c.args in
    let s = a.space.now in
    let e = c.apply-b.ensures ∙ ap (apply_f s.left) (c.sub.ensures ∙ ap (λ t. sub_p t s.shift) c.add.ensures) in
    λ i.
    record {
      x = (c.quotient.ensures ∙ ap (λ b. quotient_real s.diagonal.x b.x) e) i;
      y = (c.quotient-2.ensures ∙ ap (λ b. quotient_real s.diagonal.y b.y) e) i;
      z = (c.quotient-3.ensures ∙ ap (λ b. quotient_real s.diagonal.z b.z) e) i;
    }
