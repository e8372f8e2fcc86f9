-- `decimal`: the digits that the buffer holds.
use mathlib.Core.Path.{◌≡◌, ◌∙◌}
use native.Mathlib.Omega.{arith}
use Rattle.definitions.specs.Report.{decimal}
use Rattle.report_text.proofs.Digits.{decimal_printed}
use Rattle.report_text.proofs.bytes.Writer.decimal.Goals as goal

pub returns-clause-puts : goal.returns-clause-puts
returns-clause-puts c =
    let e : c.as_bytes.result.now ≡ decimal c.args.n =
    c.as_bytes.ensures.value ∙ c.format.ensures.text ∙ decimal_printed c.args.n (omega arith) in
    rw e at c.bytes.ensures.puts
