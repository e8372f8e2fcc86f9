-- `sign`: by the sign of the pivot, nothing or a column less twice itself.
use borrow.Author.Rules.{rules}
use native.Mathlib.Omega.{arith}
use lib.Signed.{mag}
use lib.IntN.{nat_abs}
use Rattle.definitions.specs.Matrix.{at}
use Rattle.math_snf.proofs.Ints.{not_below_0, below_0}
use Rattle.laws.specs.Lists.{list_all-is_all}
use Rattle.math_snf.proofs.Grades.{signed_not, signed-graded}
use Rattle.math_snf.proofs.SmithForm.sign.Goals as goal

pub returns-then-self-s-ge0 : goal.returns-then-self-s-ge0
returns-then-self-s-ge0 c =
    let z = at c.args.self.now.d c.args.s.at c.args.s.at in
    signed_not c.args.s.at _ (nat_abs z) (not_below_0 z (search (rules, c.if-self-s-ge0.true)))

pub returns : goal.returns
returns c =
    let z = at c.args.self.now.d c.args.s.at c.args.s.at in
    rw c.graded.ensures
    (signed-graded c.args.s.at _ (mag z) _ c.less_column-self.result c.less_column-self-2.result (omega arith)
    (below_0 z (search (rules, c.if-self-s-ge0.false)))
    c.less_column-self.ensures
    c.less_column-self-2.ensures
    (simp (c.column_small.ensures, c.column_small-2.ensures, list_all-is_all)))
