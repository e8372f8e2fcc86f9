use Rattle.std.proofs.Common.{◌≡◌, length, take}
use Rattle.base_cell.specs.Grouping.{Counted}
use Rattle.base_cell.proofs.labels.count_sites.Given as goal

abbrev pub invariant-loop-label : goal.invariant-loop-label
invariant-loop-label l = (length l.counts ≡ 1024) × Counted 1024 (take l.label-index l.labels) l.counts
