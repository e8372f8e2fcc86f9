-- `quotient` meets its contract: the test decides.
use Rattle.symmetrize_match.specs.Match.{quotient_real}
use Rattle.symmetrize_match.proofs.fit.quotient.Goals as goal

pub returns-then-d : goal.returns-then-d
unfolding quotient_real
returns-then-d c = rw c.if-d.true

pub returns : goal.returns
unfolding quotient_real
returns c = rw c.if-d.false
