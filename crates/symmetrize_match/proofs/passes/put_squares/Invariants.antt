use Prim.Native.Nat.{ℕ, ◌≤◌, ◌<◌}
use mathlib.Core.Path.{◌≡◌}
use lib.ListN.{length, get_or}
use lib.Ieee.{nan}
use Rattle.definitions.specs.Real.{apply_f, add_p, sub_p}
use Rattle.symmetrize_match.specs.Match.{square, cell}
use Rattle.symmetrize_match.proofs.passes.put_squares.Given as goal

abbrev pub invariant-loop-i : goal.invariant-loop-i
invariant-loop-i g l =
    (length l.moved.x ≡ g.row.N) × (l.moved.y ≡ l.initial.moved.y) × (l.moved.z ≡ l.initial.moved.z)
    × ((j : ℕ) → j < l.i → get_or l.moved.x j nan ≡ square (apply_f l.basis (sub_p (sub_p (add_p (cell l.initial.moved.x l.initial.moved.y l.initial.moved.z j) l.shift) l.p) (cell l.offsets.x l.offsets.y l.offsets.z j))))
    × ((j : ℕ) → l.i ≤ j → get_or l.moved.x j nan ≡ get_or l.initial.moved.x j nan)
