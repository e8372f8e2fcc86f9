-- The columns that a report shows, as the definitions speak of them.
use Rattle.definitions.specs.WholeCalls.{Shown}
use Rattle.report_text.specs.declared.lines.Columns.{Columns}

abbrev pub shown_of : Columns → Shown
shown_of c =
    record {
      mapping = c.mapping.now;
      labels = c.labels.now;
      multiplicities = c.multiplicities.now;
      letters = c.letters.now;
    }
