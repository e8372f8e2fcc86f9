use Rattle.base_cell.specs.Trees.{Upto, Linked}
use Rattle.base_cell.proofs.union_find.SiteForest.join_images.Given as goal

abbrev pub invariant-loop-i : goal.invariant-loop-i
invariant-loop-i l = Linked 256 (Upto l.p l.i) l.initial.self.parent l.self.parent
