-- `abs` is the definition's magnitude.
use mathlib.Core.Path.{ap, ◌∙◌}
use lib.Ieee.{le}
use Rattle.checks.proofs.Laws.{magnitude_is}
use Rattle.checks.proofs.within.Goals as goal

pub returns : goal.returns
returns c = ap (λ y. le y c.args.limit) (c.abs.ensures.value ∙ magnitude_is c.args.x)
