-- `clear_row`: by the quotient, nothing or the row less that often the pivot's.
use borrow.Author.Rules.{rules}
use native.Mathlib.Omega.{arith}
use mathlib.Core.Path.{◌≡◌, sym, ap, ◌∙◌}
use lib.IntN.{ℤ, nat_abs}
use lib.Signed.{quot_z}
use mir.Syntax.{w32}
use mir.Val.{of_z}
use borrow.Author.Tests.{le-leb, lt-leb}
use Rattle.definitions.specs.Matrix.{at}
use Rattle.math_snf.specs.Step.{kept_row}
use Rattle.math_matrix.specs.Bounds.{back}
use Rattle.math_snf_laws.specs.Numbers.{none_is}
use Rattle.math_snf.proofs.Ints.{zero_32}
use Rattle.laws.specs.Lists.{list_all-is_all}
use Rattle.math_snf.proofs.Grades.{graded_none, row_not, row-graded}
use Rattle.math_snf.proofs.SmithForm.clear_row.Goals.{After-quotient-k}
use Rattle.math_snf.proofs.SmithForm.clear_row.Goals as goal

is_quotient : (c : After-quotient-k) → c.quotient-k.result ≡ quot_z (at c.args.self.now.d c.args.i.at c.args.s.at) (at c.args.self.now.d c.args.s.at c.args.s.at)
is_quotient c = search (rules, c.quotient-k.ensures)

pub returns-then-i-s : goal.returns-then-i-s
returns-then-i-s c = rw (le-leb c.args.i.at c.args.s.at c.if-i-s.true) (graded_none _)

pub returns-then-k-eq0 : goal.returns-then-k-eq0
returns-then-k-eq0 c =
    let q = c.quotient-k in
    rw (lt-leb c.args.i.at c.args.s.at c.if-i-s.false)
    (row_not c.args.s.at c.args.i.at _ (ap nat_abs (sym (is_quotient (goal.at.returns-then-k-eq0 c).After-quotient-k) ∙ zero_32 q.result q.type_inv c.if-k-eq0.true)))

pub returns : goal.returns
returns c =
    let q = c.quotient-k in
    let e = is_quotient (goal.at.returns c).After-quotient-k in
    let k = back w32 q.result q.type_inv ∙ e in
    rw (lt-leb c.args.i.at c.args.s.at c.if-i-s.false, c.graded.ensures)
    (row-graded c.args.s.at c.args.i.at _ _ c.less_row-self.result c.less_row-self-2.result (omega arith)
    (λ z. c.if-k-eq0.false (ap (of_z w32) (e ∙ none_is _ z)))
    (c.less_row-self.ensures ∙ ap (λ (z : ℤ). kept_row c.args.i.at z c.args.s.at c.args.self.now.d) k)
    (c.less_row-self-2.ensures ∙ ap (λ (z : ℤ). kept_row c.args.i.at z c.args.s.at c.args.self.now.l) k)
    (simp (c.row_small.ensures, c.row_small-2.ensures, list_all-is_all)))
