-- `times`: the columns are those of a matrix of whole numbers.
use borrow.Author.Rules.{rules}
use lib.IntN.{pos}
use Rattle.math_matrix.proofs.times.Goals as goal

pub returns : goal.returns
returns c = let m = c.transposed-columns.ensures (pos 0) in search rules
