use Rattle.std.proofs.Common.{◌≡◌, ◌*◌, List, ◌++◌, length, take, drop}
use Rattle.base_transformation.specs.Runs.{Makes}
use Rattle.base_transformation.proofs.cell.list_runs.Given as goal

abbrev pub invariant-loop-i : goal.invariant-loop-i
invariant-loop-i g l =
    (made : List g.row.T.Denot) → length made ≡ l.n * l.m → Makes g.F.Fn l.entry l.n l.m made → l.out ≡ take (l.i * l.m) made ++ drop (l.i * l.m) l.initial.out
