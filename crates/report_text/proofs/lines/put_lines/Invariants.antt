use mathlib.Core.Path.{◌≡◌}
use Rattle.report_text.specs.Putting.{Puts}
use Rattle.report_text.specs.Text.{lines_text}
use Rattle.report_text.proofs.lines.put_lines.Given as goal

abbrev pub invariant-loop-j : goal.invariant-loop-j
invariant-loop-j l =
    (l.writer.out.ghost_name ≡ l.initial.writer.out.ghost_name)
    × Puts
    (lines_text
    (record {
      mapping = l.columns.mapping.now;
      labels = l.columns.labels.now;
      multiplicities = l.columns.multiplicities.now;
      letters = l.columns.letters.now;
    })
    l.j)
    l.initial.writer.at l.initial.writer.out.now l.writer.out.now l.writer.at
