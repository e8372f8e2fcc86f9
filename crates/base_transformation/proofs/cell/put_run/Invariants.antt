use Rattle.std.proofs.Common.{◌≡◌, List, ◌++◌, length, take, drop}
use Rattle.base_transformation.specs.Runs.{MakesRun}
use Rattle.base_transformation.proofs.cell.put_run.Given as goal

abbrev pub invariant-loop-k : goal.invariant-loop-k
invariant-loop-k g l =
    (made : List g.row.T.Denot) → length made ≡ length l.initial.run → MakesRun g.F.Fn l.entry l.i made → l.run ≡ take l.k made ++ drop l.k l.initial.run
