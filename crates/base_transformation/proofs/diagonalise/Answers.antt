-- Past the number of copies, what `snf` returns.
use Rattle.std.proofs.Common.{not, ap}
use Rattle.definitions.specs.Limits.{bad_copies}
use Rattle.laws.specs.Tests.{branch_passes}
use Rattle.base_transformation.proofs.Accepted.{diagonalised}
use Rattle.base_transformation.proofs.diagonalise.Goals as goal

pub returns : goal.returns
returns c =
    diagonalised c.args.c c.snf.result c.requires
    (branch_passes c.good_copies.result (bad_copies c.args.c) c.good_copies.ensures (ap not c.if-not-good_copies.false)) c.snf.ensures
