-- Two bytes, and their value.
use mathlib.Core.Path.{◌∙◌}
use Rattle.job.proofs.Words.{half_is}
use Rattle.job.proofs.operands.U16Operand2.of.Goals as goal

pub returns : goal.returns
returns c = c.from_le_bytes.ensures ∙ half_is c.args.own.now
