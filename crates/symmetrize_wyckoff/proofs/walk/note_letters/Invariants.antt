use mathlib.Core.Path.{◌≡◌}
use lib.ListN.{length}
use Rattle.symmetrize_wyckoff.specs.Walk.{walked}
use Rattle.symmetrize_wyckoff.specs.Prepared.{found_by, NotesAll}
use Rattle.symmetrize_wyckoff.proofs.walk.note_letters.Given as goal

abbrev pub invariant-loop-j : goal.invariant-loop-j
invariant-loop-j l =
    (length l.table ≡ 1024)
    × NotesAll
    (walked
    (found_by
    (record {
      multiplicities = l.multiplicities;
      positions = l.positions;
      basis = l.candidates.basis;
      symprec = l.candidates.symprec;
      candidates = l.candidates.listed.now;
    }))
    l.labels l.j)
    l.table
