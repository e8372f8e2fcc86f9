-- Eight bytes, and their value.
use mathlib.Core.Path.{ap, ◌∙◌}
use Rattle.definitions.specs.Job.{float}
use Rattle.job.proofs.Words.{whole_is}
use Rattle.job.proofs.operands.F64Operand8.of.Goals as goal

pub returns : goal.returns
returns c = c.float_of.ensures ∙ ap float (c.from_le_bytes.ensures ∙ whole_is c.args.own.now)
