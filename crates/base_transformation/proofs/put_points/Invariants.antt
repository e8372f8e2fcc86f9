use Rattle.std.proofs.Common.{◌≡◌, ◌++◌, map, take, drop}
use Rattle.definitions.specs.Matrix.{apply}
use Rattle.definitions.specs.Snf.{box}
use Rattle.base_transformation.proofs.put_points.Given as goal

abbrev pub invariant-loop-k : goal.invariant-loop-k
invariant-loop-k l = l.out ≡ take l.k (map (apply l.m) (box l.a l.b l.c)) ++ drop l.k l.initial.out
