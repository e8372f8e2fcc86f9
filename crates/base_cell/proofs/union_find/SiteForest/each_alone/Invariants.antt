use Rattle.std.proofs.Common.{ℕ, ◌<◌, ◌≡◌, length, get_or}
use Rattle.base_cell.proofs.union_find.SiteForest.each_alone.Given as goal

abbrev pub invariant-loop-i : goal.invariant-loop-i
invariant-loop-i l = (length l.parent ≡ 256) × ((k : ℕ) → k < l.i → get_or l.parent k 0 ≡ k)
