-- The three entries tested one after the other; std's definition of a finite float has the cases of ours.
use Rattle.std.proofs.Common.{◌≡◌, ◌∙◌, refl, sym, rules, length}
use Rattle.std.proofs.lemmas.Grind.{common_steps}
use Rattle.std.specs.Prelude.{Float}
use Rattle.std.specs.List.{list_all}
use Rattle.laws.specs.Lists.{list_all-is_all, all_three}
use Rattle.std.specs.Float.{nan, inf, fin, float_is_finite}
use Rattle.definitions.specs.Real.{is_finite}
use Rattle.math_real.proofs.matrix.row_finite.Goals as goal

same : (x : Float) → float_is_finite x ≡ is_finite x
unfolding float_is_finite
same nan = refl
same (inf s) = refl
same (fin s m e) = refl

pub returns : goal.returns
returns c =
    let e : c.all.result ≡ list_all float_is_finite c.args.a = search (rules, common_steps) in
    let l : length c.args.a ≡ 3 = search rules in
    e
    ∙ (λ i. list_all (λ x. same x i) c.args.a)
    ∙ list_all-is_all is_finite c.args.a
    ∙ sym (all_three is_finite nan c.args.a l)
