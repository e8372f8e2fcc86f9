-- `clear_column`: by the quotient, nothing or the column less that often the pivot's.
use borrow.Author.Rules.{rules}
use native.Mathlib.Omega.{arith}
use mathlib.Core.Path.{◌≡◌, sym, ap, ◌∙◌}
use lib.IntN.{ℤ, nat_abs}
use lib.Signed.{quot_z}
use mir.Syntax.{w32}
use mir.Val.{of_z}
use borrow.Author.Tests.{le-leb, lt-leb}
use Rattle.definitions.specs.Matrix.{at}
use Rattle.math_snf.specs.Step.{kept_column}
use Rattle.math_matrix.specs.Bounds.{back}
use Rattle.math_snf_laws.specs.Numbers.{none_is}
use Rattle.math_snf.proofs.Ints.{zero_32}
use Rattle.laws.specs.Lists.{list_all-is_all}
use Rattle.math_snf.proofs.Grades.{graded_none, column_not, column-graded}
use Rattle.math_snf.proofs.SmithForm.clear_column.Goals.{After-quotient-k}
use Rattle.math_snf.proofs.SmithForm.clear_column.Goals as goal

is_quotient : (c : After-quotient-k) → c.quotient-k.result ≡ quot_z (at c.args.self.now.d c.args.s.at c.args.j.at) (at c.args.self.now.d c.args.s.at c.args.s.at)
is_quotient c = search (rules, c.quotient-k.ensures)

pub returns-then-j-s : goal.returns-then-j-s
returns-then-j-s c = rw (le-leb c.args.j.at c.args.s.at c.if-j-s.true) (graded_none _)

pub returns-then-k-eq0 : goal.returns-then-k-eq0
returns-then-k-eq0 c =
    let q = c.quotient-k in
    rw (lt-leb c.args.j.at c.args.s.at c.if-j-s.false)
    (column_not c.args.s.at c.args.j.at _ (ap nat_abs (sym (is_quotient (goal.at.returns-then-k-eq0 c).After-quotient-k) ∙ zero_32 q.result q.type_inv c.if-k-eq0.true)))

pub returns : goal.returns
returns c =
    let q = c.quotient-k in
    let e = is_quotient (goal.at.returns c).After-quotient-k in
    let k = back w32 q.result q.type_inv ∙ e in
    rw (lt-leb c.args.j.at c.args.s.at c.if-j-s.false, c.graded.ensures)
    (column-graded c.args.s.at c.args.j.at _ _ c.less_column-self.result c.less_column-self-2.result (omega arith)
    (λ z. c.if-k-eq0.false (ap (of_z w32) (e ∙ none_is _ z)))
    (c.less_column-self.ensures ∙ ap (λ (z : ℤ). kept_column c.args.j.at z c.args.s.at c.args.self.now.d) k)
    (c.less_column-self-2.ensures ∙ ap (λ (z : ℤ). kept_column c.args.j.at z c.args.s.at c.args.self.now.r) k)
    (simp (c.column_small.ensures, c.column_small-2.ensures, list_all-is_all)))
