use Rattle.definitions.specs.Lent.{permutations_of}
use Rattle.definitions.specs.Orbit.{Step}
use Rattle.base_cell.specs.Trees.{Linked}
use Rattle.base_cell.proofs.union_find.SiteForest.join_all.Given as goal

abbrev pub invariant-loop-o : goal.invariant-loop-o
invariant-loop-o l =
    let x = l.x.labelling in
    Linked 256 (Step (permutations_of x.sites l.o x.images.now)) l.initial.self.parent l.self.parent
