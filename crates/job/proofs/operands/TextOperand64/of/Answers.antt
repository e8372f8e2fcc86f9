-- The text's bytes, one by one.
use Rattle.job.proofs.Words.{text_is}
use Rattle.job.proofs.operands.TextOperand64.of.Goals as goal

pub returns : goal.returns
returns c = text_is c.args.own.now 64 c.told-own
