-- `put_letter`: three bytes one behind the other.
use Rattle.report_text.proofs.Putting.{puts_more}
use Rattle.report_text.proofs.lines.put_letter.Goals as goal

pub returns-clause-puts : goal.returns-clause-puts
returns-clause-puts c = puts_more c.byte.ensures.puts (puts_more c.byte-2.ensures.puts c.byte-3.ensures.puts)
