-- Where the square of the quotient is too great, the second half of the root is one less.
use Rattle.std.proofs.Common.{arith}
use Rattle.math_sqrt.specs.Root.{second_less}
use Rattle.math_sqrt.proofs.Half.second_half.Goals as goal

pub returns : goal.returns
returns c = second_less c.args.self.s _ (omega arith) c.requires c.if-d-v.false
