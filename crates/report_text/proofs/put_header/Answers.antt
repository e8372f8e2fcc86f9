-- `put_header`: two words and two numbers, and the end of the line.
use Rattle.report_text.proofs.Putting.{puts_more}
use Rattle.report_text.proofs.put_header.Goals as goal

pub returns-clause-puts : goal.returns-clause-puts
returns-clause-puts c =
    puts_more
    (puts_more
    (puts_more (puts_more c.bytes.ensures.puts c.decimal.ensures.puts) c.bytes-2.ensures.puts)
    c.decimal-2.ensures.puts)
    c.byte.ensures.puts
