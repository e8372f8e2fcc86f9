use Rattle.std.proofs.Common.{◌≡◌, ◌++◌, length, take, drop}
use Rattle.base_cell.specs.Labels.{classes_of, labels_by}
use Rattle.base_cell.proofs.Firsts.{Noted}
use Rattle.base_cell.proofs.labels.Grouping.put_labels.Given as goal

abbrev pub invariant-loop-j : goal.invariant-loop-j
invariant-loop-j l =
    let mapping = l.self.labelling.mapping.now in
    (length l.first ≡ 256) × Noted (classes_of l.roots mapping) 256 l.j l.first
    × (l.labels ≡ take l.j (labels_by l.roots mapping) ++ drop l.j l.initial.labels)
