-- `find`: the way up from i goes through `at`.
use Rattle.std.proofs.Common.{◌≡◌, refl, sym, ap, ◌∙◌, arith, get_or}
use Rattle.base_cell.specs.Trees.{root, root_top, root_up}
use Rattle.base_cell.proofs.union_find.SiteForest.find.Goals as goal

pub loop-up-init : goal.loop-up-init
loop-up-init c = (c.requires, c.from-up.ensures, refl)

pub loop-up-preserved : goal.loop-up-preserved
loop-up-preserved c =
    let l = c.loop-up in
    let forest = c.args.self.now in (
      omega arith,
      c.from-up-in-loop-up.ensures,
      ap (root forest.parent) l.invariant.1 ∙ sym (root_up forest.tree l.at l.invariant.0) ∙ l.invariant.2,
    )

pub returns : goal.returns
returns c =
    let l = c.loop-up in
    let forest = c.args.self.now in
    let top : get_or forest.parent l.at 0 ≡ l.at = omega (arith, forest.tree.down l.at l.invariant.0, l.invariant.1) in
    (sym (root_top forest.parent l.at top) ∙ l.invariant.2, l.invariant.0)
