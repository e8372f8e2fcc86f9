use Prim.Native.Nat.{ℕ, ◌<◌}
use mathlib.Core.Path.{◌≡◌}
use lib.ListN.{length, get_or}
use lib.Ieee.{nan, binary64, div}
use Rattle.definitions.specs.Real.{add_p, sub_p}
use Rattle.symmetrize_match.specs.Match.{cell, row_times}
use Rattle.symmetrize_match.proofs.passes.divide_row.Given as goal

abbrev pub invariant-loop-i : goal.invariant-loop-i
invariant-loop-i g l =
    (length l.out ≡ g.row.N)
    × ((j : ℕ) → j < l.i → get_or l.out j nan ≡ div binary64 (row_times l.row.left (sub_p (add_p (cell l.offsets.x l.offsets.y l.offsets.z j) l.p) l.shift)) l.row.d)
