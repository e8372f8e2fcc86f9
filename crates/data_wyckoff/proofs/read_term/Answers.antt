-- The row of the whole term is that of what is left to read. Each byte adds 9 at the most to a sum.
use Prim.Native.Nat.{ℕ, ◌+◌, ◌*◌, ◌<◌, ◌≤◌}
use mathlib.Core.Path.{◌≡◌, sym, ap, subst, ◌∙◌}
use mathlib.Core.List.{List}
use native.Mathlib.Omega.{arith}
use lib.ListN.{length, get_or, drop}
use Rattle.std.proofs.Common.{⊎_elim}
use Rattle.std.proofs.Math.Nat.{eq-or-lt_of_le}
use Rattle.std.specs.Prelude.{Some, option_and_then}
use Rattle.data_wyckoff.specs.declared.Last.TheVariants.{Nothing}
use Rattle.data_wyckoff.specs.declared.Partial.{Partial}
use Rattle.data_wyckoff.specs.Scan.{empty_at, end_of, step_of, term_from}
use Rattle.data_wyckoff.proofs.Steps.{SmallIf, small_step, small_more, scan_on, scan_comma, scan_end, scan-space}
use Rattle.data_wyckoff.proofs.read_term.Goals as goal
use Rattle.data_wyckoff.proofs.read_term.Goals.{in-32, in_default+in_ok-t-in_default}

pub returns-in-44 : goal.returns-in-44
returns-in-44 c =
    let text = c.args.text.now in
    c.ended.ensures ∙ sym (scan_comma text c.loop-i.t c.loop-i.i c.loop-i-test.true c.in-44.is) ∙ c.loop-i.invariant.2

pub returns-in_err-t-in_default : goal.returns-in_err-t-in_default
returns-in_err-t-in_default c =
    let text = c.args.text.now in
    let i = c.loop-i.i in
    c.from_residual.ensures
    ∙ ap (option_and_then (λ u. term_from (i + 1) u (drop (i + 1) text))) c.in_err-t-in_default.ensures
    ∙ sym (scan_on text c.loop-i.t i c.loop-i-test.true (omega arith) (omega arith))
    ∙ c.loop-i.invariant.2

pub loop-i-preserved : goal.loop-i-preserved
loop-i-preserved c =
    let text = c.args.text.now in
    let t = c.loop-i.t in
    let i = c.loop-i.i in
    let g : 9 * i ≤ 9 * (i + 1) = omega arith in
    elim c.match-text-i.branch [
      | in-32 w ↦
          rw w.t-is (
            small_more (9 * i) (9 * (i + 1)) t g c.loop-i.invariant.0,
            λ h. absurd (omega arith),
            sym (scan-space text t i c.loop-i-test.true w.in-32.is) ∙ c.loop-i.invariant.2,
          )
      | in_default+in_ok-t-in_default w ↦
          let next = w.in_ok-t-in_default.t in
          let e : Some next ≡ step_of t (get_or text i 0) = w.in_ok-t-in_default.ensures in
          let k : 9 * i + 9 ≤ 9 * (i + 1) = omega arith in
          rw w.t-is (
            small_more (9 * i + 9) (9 * (i + 1)) next k
                (subst (SmallIf (9 * i + 9)) (sym e) (small_step (9 * i) t c.loop-i.invariant.0 (get_or text i 0))),
            λ h. absurd (omega arith),
            ap (option_and_then (λ u. term_from (i + 1) u (drop (i + 1) text))) e
                ∙ sym (scan_on text t i c.loop-i-test.true (omega arith) (omega arith))
                ∙ c.loop-i.invariant.2,
          )
    ]

module _ (text : List ℕ) (i : ℕ) (t : Partial) (over : length text ≤ i)
    (unread : length text < i → t ≡ empty_at Nothing) where
  -- past the end no item was read
  any_end : end_of t (length text) ≡ end_of t i
  any_end = ⊎_elim (λ h. ap (end_of t) h) (λ h. rw (unread h)) (eq-or-lt_of_le over)

pub returns : goal.returns
returns c =
    let text = c.args.text.now in
    let l = c.loop-i in
    c.ended-2.ensures
    ∙ any_end text l.i l.t c.loop-i-test.false l.invariant.1
    ∙ sym (scan_end text l.t l.i c.loop-i-test.false)
    ∙ l.invariant.2
