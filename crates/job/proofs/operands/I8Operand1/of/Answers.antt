-- One byte, and their complement.
use mathlib.Core.Path.{◌∙◌}
use mir.Syntax.{w8}
use mir.ValLaws.{to_z-of_z}
use Rattle.job.proofs.Words.{signed1_is}
use Rattle.job.proofs.operands.I8Operand1.of.Goals as goal

pub returns : goal.returns
returns c =
    to_z-of_z w8 c.from_le_bytes.result (record { sfits = c.from_le_bytes.type_inv }) ∙ c.from_le_bytes.ensures
    ∙ signed1_is c.args.own.now
