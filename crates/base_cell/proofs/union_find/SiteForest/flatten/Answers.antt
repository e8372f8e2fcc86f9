-- `flatten`: before i each site has its root, from i on its parent.
use Rattle.std.proofs.Common.{refl, arith, not-suc-le-zero, get_or, length-set}
use Rattle.base_cell.specs.Trees.{flat_more, flat_rest}
use Rattle.base_cell.proofs.union_find.SiteForest.flatten.Goals as goal

pub loop-i-init : goal.loop-i-init
loop-i-init c = (c.args.self.tree.size, λ k h. absurd (not-suc-le-zero h), λ k h. refl)

pub loop-i-preserved : goal.loop-i-preserved
loop-i-preserved c =
    let l = c.loop-i in
    let tree = c.args.self.tree in
    let up = c.from.result in (
      simp length-set l.invariant.0,
      flat_more tree l.roots l.i (omega arith) l.invariant.0 l.invariant.1 l.invariant.2 up c.from.ensures,
      flat_rest tree l.roots l.i (omega arith) l.invariant.0 l.invariant.1 l.invariant.2 (get_or l.roots up 0),
    )

pub returns : goal.returns
returns c = λ i h. c.loop-i.invariant.1 i (omega arith)
