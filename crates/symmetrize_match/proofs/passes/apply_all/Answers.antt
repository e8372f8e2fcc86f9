-- `apply_all` meets its contract: each position is read before it is written.
use mathlib.Core.Path.{◌≡◌, ap, ◌∙◌}
use lib.ListN.{length-set}
use Rattle.definitions.specs.Real.{apply_f}
use Rattle.symmetrize_match.specs.Match.{cell}
use Rattle.symmetrize_match.proofs.Stores.{made, left}
use borrow.Author.Rules.{rules}
use Rattle.symmetrize_match.proofs.passes.apply_all.Goals as goal

pub loop-i-preserved : goal.loop-i-preserved
loop-i-preserved g c =
    let l = c.loop-i in
    let a = c.args in
    let i = l.i in
    let o = a.out.now in
    let v = l.invariant in
    let there : cell l.out.x l.out.y l.out.z i ≡ cell o.x o.y o.z i =
    (λ t. record { x = v.6 i (search rules) t; y = v.7 i (search rules) t; z = v.8 i (search rules) t }) in
    let e = c.apply-w.ensures ∙ ap (apply_f a.m) (c.at.ensures ∙ there) in (
      simp length-set v.0,
      simp length-set v.1,
      simp length-set v.2,
      made l.out.x i _ (λ j. (apply_f a.m (cell o.x o.y o.z j)).x) (search rules) v.3 (ap (λ p. p.x) e),
      made l.out.y i _ (λ j. (apply_f a.m (cell o.x o.y o.z j)).y) (search rules) v.4 (ap (λ p. p.y) e),
      made l.out.z i _ (λ j. (apply_f a.m (cell o.x o.y o.z j)).z) (search rules) v.5 (ap (λ p. p.z) e),
      left l.out.x i _ o.x v.6,
      left l.out.y i _ o.y v.7,
      left l.out.z i _ o.z v.8,
    )
