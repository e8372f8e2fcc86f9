use Prim.Native.Nat.{ℕ, ◌≤◌, ◌<◌}
use mathlib.Core.Path.{◌≡◌}
use lib.ListN.{length, get_or}
use lib.Ieee.{nan}
use Rattle.definitions.specs.Real.{apply_f}
use Rattle.symmetrize_match.specs.Match.{cell}
use Rattle.symmetrize_match.proofs.passes.apply_all.Given as goal

abbrev pub invariant-loop-i : goal.invariant-loop-i
invariant-loop-i g l =
    (length l.out.x ≡ g.row.N) × (length l.out.y ≡ g.row.N) × (length l.out.z ≡ g.row.N)
    × ((j : ℕ) → j < l.i → get_or l.out.x j nan ≡ (apply_f l.m (cell l.initial.out.x l.initial.out.y l.initial.out.z j)).x)
    × ((j : ℕ) → j < l.i → get_or l.out.y j nan ≡ (apply_f l.m (cell l.initial.out.x l.initial.out.y l.initial.out.z j)).y)
    × ((j : ℕ) → j < l.i → get_or l.out.z j nan ≡ (apply_f l.m (cell l.initial.out.x l.initial.out.y l.initial.out.z j)).z)
    × ((j : ℕ) → l.i ≤ j → get_or l.out.x j nan ≡ get_or l.initial.out.x j nan)
    × ((j : ℕ) → l.i ≤ j → get_or l.out.y j nan ≡ get_or l.initial.out.y j nan)
    × ((j : ℕ) → l.i ≤ j → get_or l.out.z j nan ≡ get_or l.initial.out.z j nan)
