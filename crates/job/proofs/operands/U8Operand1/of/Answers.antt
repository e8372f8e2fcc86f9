-- One byte is its value.
use Rattle.job.proofs.Words.{word1_is}
use Rattle.job.proofs.operands.U8Operand1.of.Goals as goal

pub returns : goal.returns
returns c = word1_is c.args.own.now 0
