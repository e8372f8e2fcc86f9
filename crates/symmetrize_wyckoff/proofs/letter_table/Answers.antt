-- `letter_table`: no more candidates than the most.
use mathlib.Core.Path.{sym, ◌∙◌}
use native.Mathlib.Omega.{arith}
use Prim.Native.Nat.{◌≤◌}
use lib.ListN.{length-map}
use Rattle.symmetrize_wyckoff.proofs.letter_table.Goals as goal

pub letter_table_within-requires-2 : goal.letter_table_within-requires-2
letter_table_within-requires-2 c =
    let ss = c.args.placed.now.spaces.now in
    (c.requires, omega (arith, sym (length-map ss (λ t. t.matrix)) ∙ c.requires.matrices, c.requires.few), omega arith)
