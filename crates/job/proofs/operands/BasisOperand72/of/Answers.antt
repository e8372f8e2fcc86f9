-- Three rows of three floats: the vectors are the columns.
use Rattle.laws.specs.Lists.{three-cons}
use Rattle.job.specs.Places.{items}
use Rattle.job.proofs.operands.BasisOperand72.of.Goals as goal

pub returns : goal.returns
unfolding items
returns c =
    three-cons
    (three-cons c.read.ensures c.read-2.ensures c.read-3.ensures)
    (three-cons c.read-4.ensures c.read-5.ensures c.read-6.ensures)
    (three-cons c.read-7.ensures c.read-8.ensures c.read-9.ensures)
