-- `each_alone`: before i each site is its own parent.
use Rattle.std.proofs.Common.{◌<◌, ◌≡◌, refl, sym, subst, ◌∙◌, arith, not-suc-le-zero, get_or, set, length-set, get_or-set_same, get_or-set_other, ext_get_or, below_more}
use Rattle.definitions.specs.Lists.{up_to}
use Rattle.laws.specs.Lists.{up_to_at}
use Rattle.laws.specs.Counting.{length-up_to}
use Rattle.base_cell.specs.Trees.{Forest, alone_forest}
use Rattle.base_cell.proofs.union_find.SiteForest.each_alone.Goals as goal
use Rattle.base_cell.proofs.union_find.SiteForest.each_alone.Goals.{After-loop-i}

pub loop-i-init : goal.loop-i-init
loop-i-init c = (refl, λ k h. absurd (not-suc-le-zero h))

pub loop-i-preserved : goal.loop-i-preserved
loop-i-preserved c =
    let l = c.loop-i in (
      simp length-set l.invariant.0,
      below_more
          (λ k. get_or (set l.parent l.i l.i) k 0 ≡ k)
          l.i
          (λ k h. get_or-set_other l.parent l.i k l.i 0 (λ e. omega arith) ∙ l.invariant.1 k h)
          (get_or-set_same l.parent l.i l.i 0 (omega (arith, l.invariant.0))),
    )

sites : (c : After-loop-i) → c.loop-i.parent ≡ up_to 256
sites c =
    let l = c.loop-i in
    ext_get_or 0 l.parent (up_to 256) (l.invariant.0 ∙ sym (length-up_to 256))
    (λ k h. let g : k < 256 = omega (arith, l.invariant.0) in l.invariant.1 k (omega arith) ∙ sym (up_to_at 256 k g))

pub invariant_of-result : goal.invariant_of-result
invariant_of-result c = record { tree = subst (Forest 256) (sym (sites (goal.at.invariant_of-result c).After-loop-i)) (alone_forest 256) }

pub returns : goal.returns
returns c = sites (goal.at.returns c).After-loop-i
