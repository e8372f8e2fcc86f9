use Rattle.std.proofs.Common.{◌<◌, ◌≡◌, get_or}
use Rattle.base_cell.specs.Trees.{root}
use Rattle.base_cell.proofs.union_find.SiteForest.find.Given as goal

abbrev pub invariant-loop-up : goal.invariant-loop-up
invariant-loop-up l = (l.at < 256) × (l.up ≡ get_or l.self.parent l.at 0) × (root l.self.parent l.at ≡ root l.self.parent l.initial.at)

abbrev pub decreases-loop-up : goal.decreases-loop-up
decreases-loop-up l = l.at
