use mathlib.Core.Path.{◌≡◌}
use mathlib.Core.List.{[]}
use lib.ListN.{length}
use Rattle.symmetrize_wyckoff.specs.Given.{placed_of}
use Rattle.symmetrize_wyckoff.specs.Lettering.{assign_with}
use Rattle.symmetrize_wyckoff.specs.Prepared.{PutCandidates}
use Rattle.symmetrize_wyckoff.proofs.prepare.put_candidates.Given as goal

abbrev pub invariant-loop-k : goal.invariant-loop-k
invariant-loop-k l = (length l.out ≡ length l.initial.out) × PutCandidates (assign_with (placed_of l.placed) [] []) l.k l.out
