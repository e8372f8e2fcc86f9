-- `put_refusal`: the word, the number behind it, and the end of the line.
use Rattle.report_text.proofs.Putting.{puts_more}
use Rattle.report_text.proofs.put_refusal.Goals as goal

pub returns-clause-puts : goal.returns-clause-puts
returns-clause-puts c = puts_more (puts_more c.bytes.ensures.puts c.decimal.ensures.puts) c.byte.ensures.puts
