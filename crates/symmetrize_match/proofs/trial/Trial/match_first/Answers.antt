-- `match_first` meets its contract: the definition's steps, one behind the other.
use mathlib.Core.Path.{ap, ◌∙◌}
use mathlib.Core.List.{[], ◌∷◌}
use lib.Ieee.{neg, of_bits}
use Rattle.definitions.specs.Real.{apply_f, add_p, sub_p}
use Rattle.symmetrize_match.specs.Match.{first_near, square, square_real, residual_real, moved_real}
use Rattle.symmetrize_match.proofs.Tables.{minus_ones, first_is}
use Rattle.symmetrize_match.proofs.trial.Trial.match_first.Goals as goal

pub returns : goal.returns
unfolding square_real residual_real moved_real neg of_bits
returns c =
    let t = c.args.self.now in
    let s = t.space.now in
    c.near.ensures
    ∙ ap (λ q. first_near t.tolerance.symprec 0 (q ∷ []))
    (c.square_of.ensures
    ∙ ap (λ e. square (apply_f t.basis e))
    (c.residual-residual.ensures
    ∙ ap (λ m. sub_p (sub_p (add_p m s.shift) t.position) minus_ones)
    (c.apply-m.ensures
    ∙ ap (apply_f s.matrix)
    (c.apply.ensures ∙ ap (apply_f s.right) c.divided-v.ensures))))
    ∙ ap (first_near t.tolerance.symprec 0) (first_is (square_real t.basis s t.position))
