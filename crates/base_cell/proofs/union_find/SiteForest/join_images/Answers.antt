-- `join_images`: the sites before i and their images are joined.
use Rattle.std.proofs.Common.{◌≡◌, subst, arith, not-suc-le-zero, length}
use Rattle.base_cell.specs.Trees.{Pair, Upto, Linked, linked_none, linked_site}
use Rattle.base_cell.proofs.union_find.SiteForest.join_images.Goals as goal

pub loop-i-init : goal.loop-i-init
loop-i-init c = linked_none c.args.self.now.tree (λ x y u. not-suc-le-zero u.0)

pub loop-i-preserved : goal.loop-i-preserved
loop-i-preserved c =
    let l = c.loop-i in
    linked_site c.args.p.now l.i l.invariant
    (subst (λ y. Linked 256 (Pair l.i y) l.self.parent c.union.new.self.parent) c.from.ensures c.union.ensures)

pub returns : goal.returns
returns c =
    let l = c.loop-i in
    let all : l.i ≡ length c.args.p.now = omega arith in
    subst (λ k. Linked 256 (Upto c.args.p.now k) c.args.self.now.parent l.self.parent) all l.invariant
