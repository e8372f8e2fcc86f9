-- `join_all`: the steps of the permutations before o are joined.
use Rattle.std.proofs.Common.{◌+◌, ◌*◌, ◌≤◌, ◌≡◌, refl, subst, arith, length}
use Rattle.definitions.specs.Lent.{permutations_of}
use Rattle.definitions.specs.Orbit.{Step}
use Rattle.laws.specs.Lists.{part_room, part_of}
use Rattle.base_cell.specs.Trees.{Along, Linked, linked_none, linked_permutation, steps_none}
use Rattle.base_cell.proofs.union_find.SiteForest.join_all.Goals as goal
use Rattle.base_cell.proofs.union_find.SiteForest.join_all.Goals.{In-loop-o}

-- the part of permutation o is within the list
fit :
    (c : In-loop-o) → let x = c.args.x.now.labelling in c.loop-o.o * x.sites + x.sites ≤ length x.images.now
fit c =
    let g = c.args.x.now in
    let x = g.labelling in
    part_room c.loop-o.o x.count x.sites (length x.images.now) c.loop-o-test.true g.groupable.entries

pub loop-o-init : goal.loop-o-init
loop-o-init c =
    let x = c.args.x.now.labelling in
    linked_none c.args.self.now.tree (steps_none x.sites x.images.now)

pub loop-o-preserved : goal.loop-o-preserved
loop-o-preserved c =
    let l = c.loop-o in
    let x = c.args.x.now.labelling in
    linked_permutation x.sites x.images.now l.o l.invariant
    (subst
    (λ p. Linked 256 (Along p) l.self.parent c.join_images.new.self.parent)
    (part_of x.images.now x.sites l.o (l.o * x.sites) refl)
    c.join_images.ensures)

pub returns : goal.returns
returns c =
    let l = c.loop-o in
    let a = c.args in
    let x = a.x.now.labelling in
    let all : l.o ≡ x.count = omega arith in
    subst (λ k. Linked 256 (Step (permutations_of x.sites k x.images.now)) a.self.now.parent l.self.parent)
    all l.invariant
