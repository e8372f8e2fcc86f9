-- `divide_row` meets its contract: a row that is divided, or that was zero.
use native.Mathlib.Omega.{arith}
use mathlib.Core.Path.{ap, ◌∙◌}
use lib.ListN.{length-set}
use lib.Ieee.{binary64, div}
use Rattle.definitions.specs.Real.{add_p, sub_p}
use Rattle.symmetrize_match.specs.Match.{cell, row_times, quotient_real}
use Rattle.symmetrize_match.proofs.Stores.{made}
use borrow.Author.Rules.{rules}
use Rattle.symmetrize_match.proofs.passes.divide_row.Goals as goal

pub returns-then-row : goal.returns-then-row
unfolding quotient_real
returns-then-row g c =
    let z = c.requires in
    record { long = z.long; each = λ i h. z.each i h ∙ rw c.if-row.true }

pub loop-i-preserved : goal.loop-i-preserved
loop-i-preserved g c =
    let l = c.loop-i in
    let a = c.args in
    let o = a.offsets.now in
    let e =
    c.row_times.ensures ∙ ap (row_times a.row.left) (c.sub-t.ensures ∙ ap (λ t. sub_p t a.shift) (c.add.ensures ∙ ap (λ t. add_p t a.p) c.at.ensures)) in (
      simp length-set l.invariant.0,
      made l.out l.i _ (λ j. div binary64 (row_times a.row.left (sub_p (add_p (cell o.x o.y o.z j) a.p) a.shift)) a.row.d) (search rules) l.invariant.1 (ap (λ t. div binary64 t a.row.d) e),
    )

pub returns : goal.returns
unfolding quotient_real
returns g c = record { long = c.loop-i.invariant.0; each = λ i h. c.loop-i.invariant.1 i (omega arith) ∙ rw c.if-row.false }
