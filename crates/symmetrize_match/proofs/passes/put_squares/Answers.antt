-- `put_squares` meets its contract: a first coordinate is read before its square stands there.
use mathlib.Core.Path.{◌≡◌, ap, ◌∙◌}
use lib.ListN.{get_or, length-set}
use lib.Ieee.{nan}
use Rattle.definitions.specs.Real.{apply_f, add_p, sub_p}
use Rattle.symmetrize_match.specs.Match.{square, cell}
use Rattle.symmetrize_match.proofs.Stores.{made, left}
use borrow.Author.Rules.{rules}
use Rattle.symmetrize_match.proofs.passes.put_squares.Goals as goal

pub loop-i-preserved : goal.loop-i-preserved
loop-i-preserved g c =
    let l = c.loop-i in
    let a = c.args in
    let i = l.i in
    let m = a.moved.now in
    let o = a.offsets.now in
    let v = l.invariant in
    let there : cell l.moved.x l.moved.y l.moved.z i ≡ cell m.x m.y m.z i =
    (λ t. record { x = v.4 i (search rules) t; y = get_or (v.1 t) i nan; z = get_or (v.2 t) i nan }) in (
      simp length-set v.0,
      v.1,
      v.2,
      made l.moved.x i _ (λ j. square (apply_f a.basis (sub_p (sub_p (add_p (cell m.x m.y m.z j) a.shift) a.p) (cell o.x o.y o.z j)))) (search rules) v.3
          (c.square_of.ensures
          ∙ ap (λ e. square (apply_f a.basis e))
          (c.residual.ensures ∙ ap (λ t. sub_p (sub_p (add_p t a.shift) a.p) c.at-o.result) (c.at-m.ensures ∙ there)
          ∙ ap (sub_p (sub_p (add_p (cell m.x m.y m.z i) a.shift) a.p)) c.at-o.ensures)),
      left l.moved.x i _ m.x v.4,
    )
