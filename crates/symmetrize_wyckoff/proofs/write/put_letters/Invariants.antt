use mathlib.Core.Path.{◌≡◌}
use mathlib.Core.List.{map, ◌++◌}
use lib.ListN.{take, drop}
use Rattle.definitions.specs.Lists.{all}
use Rattle.symmetrize_wyckoff.specs.Prepared.{is_noted, noted_letter}
use Rattle.symmetrize_wyckoff.proofs.write.put_letters.Given as goal

abbrev pub invariant-loop-j : goal.invariant-loop-j
invariant-loop-j l =
    (l.letters ≡ take l.j (map (noted_letter l.table) l.labels) ++ drop l.j l.initial.letters)
    × (all (is_noted l.table) l.labels ≡ all (is_noted l.table) (drop l.j l.labels))
