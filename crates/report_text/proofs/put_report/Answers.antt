-- `put_report`: case by case, as the text is defined.
use borrow.Author.Rules.{rules}
use mathlib.Core.Path.{ap}
use Rattle.definitions.specs.Refusal.{outcome_by_number}
use Rattle.report_text.specs.Columns.{shown_of}
use Rattle.report_text.proofs.Text.{report_refused, report-accepted}
use Rattle.report_text.proofs.put_report.Goals as goal

pub returns-in-Err : goal.returns-in-Err
returns-in-Err c =
    report_refused (outcome_by_number c.args.told) (shown_of c.args.columns.now) {k = c.in-Err.number}
    (ap outcome_by_number c.in-Err.is) (search rules)

pub returns-in-Ok : goal.returns-in-Ok
returns-in-Ok c =
    report-accepted (outcome_by_number c.args.told) (shown_of c.args.columns.now) (ap outcome_by_number c.in-Ok.is)
    c.put_header.ensures.puts (search rules)
