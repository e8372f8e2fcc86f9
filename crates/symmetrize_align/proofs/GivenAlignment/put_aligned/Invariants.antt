use Prim.Native.Nat.{◌*◌}
use mathlib.Core.Path.{◌≡◌}
use lib.ListN.{length, drop}
use Rattle.definitions.specs.Lists.{any}
use Rattle.definitions.specs.Transformation.{is_none}
use Rattle.symmetrize_align.specs.Aligning.{last_of, aligned_by}
use Rattle.symmetrize_align.proofs.Fronts.{Front}
use Rattle.symmetrize_align.proofs.GivenAlignment.put_aligned.Given as goal

abbrev pub invariant-loop-i : goal.invariant-loop-i
invariant-loop-i l =
    let n = l.self.operations.sites in
    let gs = l.self.targets.now in
    (length l.out ≡ length l.initial.out)
    × Front (aligned_by l.moved l.self.operations.images.now n) gs l.i (l.i * n) l.initial.out l.out
    × (any (λ g. is_none (last_of l.moved g)) (drop l.i gs) ≡ any (λ g. is_none (last_of l.moved g)) gs)
