-- `put_field`: the space, and the number behind it.
use Rattle.report_text.proofs.Putting.{puts_more}
use Rattle.report_text.proofs.lines.put_field.Goals as goal

pub returns-clause-puts : goal.returns-clause-puts
returns-clause-puts c = puts_more c.byte.ensures.puts c.decimal.ensures.puts
