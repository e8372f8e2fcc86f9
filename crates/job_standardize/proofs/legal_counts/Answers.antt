-- 1 before 2.
use mathlib.Core.Path.{sym, ◌∙◌}
use Rattle.job_standardize.specs.Counted.{not_counted, passed_on, too_many}
use Rattle.job_standardize.proofs.legal_counts.Goals as goal

pub returns-in_err-k : goal.returns-in_err-k
returns-in_err-k c =
    let bs = c.args.bytes.now in
    let refusal = c.in_err-k.field-0.0 in
    passed_on bs c.from_residual.result refusal (not_counted bs refusal c.in_err-k.ensures) c.from_residual.ensures.1

pub returns-then-more_than : goal.returns-then-more_than
returns-then-more_than c =
    too_many c.args.bytes.now c.in_ok-k.k c.in_ok-k.ensures (sym c.more_than.ensures ∙ c.if-more_than.true)
