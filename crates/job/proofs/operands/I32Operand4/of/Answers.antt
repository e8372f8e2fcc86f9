-- Four bytes, and their complement.
use mathlib.Core.Path.{◌∙◌}
use mir.Syntax.{w32}
use mir.ValLaws.{to_z-of_z}
use Rattle.job.proofs.Words.{signed4_is}
use Rattle.job.proofs.operands.I32Operand4.of.Goals as goal

pub returns : goal.returns
returns c =
    to_z-of_z w32 c.from_le_bytes.result (record { sfits = c.from_le_bytes.type_inv }) ∙ c.from_le_bytes.ensures
    ∙ signed4_is c.args.own.now
