-- `shuffle::step` meets its contract: both cuts are those of the definition.
use Rattle.std.proofs.Common.{rules}
use Rattle.definitions.specs.Shuffle.{step}
use Rattle.shuffle.proofs.step.Goals as goal

pub returns : goal.returns
unfolding step
returns c = search rules
