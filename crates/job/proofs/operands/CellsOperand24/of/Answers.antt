-- Three floats, one behind the other.
use Rattle.laws.specs.Lists.{three-cons}
use Rattle.job.specs.Places.{items}
use Rattle.job.proofs.operands.CellsOperand24.of.Goals as goal

pub returns : goal.returns
unfolding items
returns c = three-cons c.read.ensures c.read-2.ensures c.read-3.ensures
