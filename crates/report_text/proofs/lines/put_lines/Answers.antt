-- `put_lines`: before the site j the lines of the sites before it are put.
use mathlib.Core.Path.{◌≡◌, refl, subst, ◌∙◌}
use native.Mathlib.Omega.{arith}
use Rattle.definitions.specs.WholeCalls.{Shown}
use Rattle.report_text.specs.Putting.{Puts}
use Rattle.report_text.specs.Text.{lines_text}
use Rattle.report_text.proofs.Text.{lines_none, lines_more}
use Rattle.report_text.proofs.lines.put_lines.Goals as goal
use Rattle.report_text.proofs.lines.put_lines.Goals.{Start}

abbrev shown : Start → Shown
shown s =
    let columns = s.args.columns.now in
    record {
      mapping = columns.mapping.now;
      labels = columns.labels.now;
      multiplicities = columns.multiplicities.now;
      letters = columns.letters.now;
    }

pub loop-j-init : goal.loop-j-init
loop-j-init c =
    let w = c.args.writer.now in
    (refl, lines_none (shown (goal.at.loop-j-init c).Start) w.out.now w.at)

pub loop-j-preserved : goal.loop-j-preserved
loop-j-preserved c =
    let l = c.loop-j in (
      c.put_line.ensures.same_bytes ∙ l.invariant.0,
      lines_more (shown (goal.at.loop-j-preserved c).Start) l.j l.invariant.1 c.put_line.ensures.puts,
    )

pub returns-clause-puts : goal.returns-clause-puts
returns-clause-puts c =
    let l = c.loop-j in
    let w = c.args.writer.now in
    let e : l.j ≡ c.args.sites = omega arith in
    subst (λ n. Puts (lines_text (shown (goal.at.returns-clause-puts c).Start) n) w.at w.out.now l.writer.out.now l.writer.at) e l.invariant.1
