-- Three rows of three entries.
use Prim.Native.Nat.{◌<◌}
use mathlib.Core.Path.{◌≡◌, ◌∙◌}
use lib.IntN.{ℤ}
use lib.Signed.{mag}
use mir.Syntax.{w8}
use mir.Val.{of_z, to_z}
use mir.ValLaws.{to_z-of_z}
use Rattle.laws.specs.Lists.{three-cons}
use Rattle.job.specs.Places.{items}
use Rattle.job.proofs.operands.RotationOperand9.of.Goals as goal

entry : {r z : ℤ} → mag r < 128 → r ≡ z → to_z w8 (of_z w8 r) ≡ z
entry {r} f e = to_z-of_z w8 r (record { sfits = f }) ∙ e

pub returns : goal.returns
unfolding items
returns c =
    three-cons
    (three-cons
    (entry c.read.type_inv c.read.ensures)
    (entry c.read-2.type_inv c.read-2.ensures)
    (entry c.read-3.type_inv c.read-3.ensures))
    (three-cons
    (entry c.read-4.type_inv c.read-4.ensures)
    (entry c.read-5.type_inv c.read-5.ensures)
    (entry c.read-6.type_inv c.read-6.ensures))
    (three-cons
    (entry c.read-7.type_inv c.read-7.ensures)
    (entry c.read-8.type_inv c.read-8.ensures)
    (entry c.read-9.type_inv c.read-9.ensures))
