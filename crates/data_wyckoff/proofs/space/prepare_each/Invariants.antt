use lib.ListN.{take}
use Rattle.data_wyckoff.specs.Spaces.{PutSpaces}
use Rattle.data_wyckoff.proofs.space.prepare_each.Given as goal

abbrev pub invariant-loop-i : goal.invariant-loop-i
invariant-loop-i l = PutSpaces (take l.i l.texts) l.initial.spaces l.spaces l.v
