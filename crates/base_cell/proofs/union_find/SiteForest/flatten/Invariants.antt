use Rattle.std.proofs.Common.{ℕ, ◌≤◌, ◌<◌, ◌≡◌, length, get_or}
use Rattle.base_cell.specs.Trees.{root}
use Rattle.base_cell.proofs.union_find.SiteForest.flatten.Given as goal

abbrev pub invariant-loop-i : goal.invariant-loop-i
invariant-loop-i l =
    (length l.roots ≡ 256) × ((k : ℕ) → k < l.i → get_or l.roots k 0 ≡ root l.initial.roots k)
    × ((k : ℕ) → l.i ≤ k → get_or l.roots k 0 ≡ get_or l.initial.roots k 0)
