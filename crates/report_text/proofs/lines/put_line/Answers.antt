-- `put_line`: the site and the entries of the four lists, one behind the other.
use mathlib.Core.Path.{◌∙◌}
use Rattle.definitions.specs.WholeCalls.{Shown}
use Rattle.report_text.proofs.Text.{puts_line}
use Rattle.report_text.proofs.lines.put_line.Goals as goal
use Rattle.report_text.proofs.lines.put_line.Goals.{Start}

abbrev shown : Start → Shown
shown s =
    let columns = s.args.columns.now in
    record {
      mapping = columns.mapping.now;
      labels = columns.labels.now;
      multiplicities = columns.multiplicities.now;
      letters = columns.letters.now;
    }

pub returns-clause-puts : goal.returns-clause-puts
returns-clause-puts c =
    puts_line (shown (goal.at.returns-clause-puts c).Start) c.args.j (c.from.ensures ∙ c.entry.ensures)
    (c.from-2.ensures ∙ c.entry-2.ensures) (c.from-3.ensures ∙ c.entry-3.ensures) c.entry-4.ensures
    c.decimal.ensures.puts c.put_field.ensures.puts c.put_field-2.ensures.puts c.put_field-3.ensures.puts
    c.put_letter.ensures.puts
