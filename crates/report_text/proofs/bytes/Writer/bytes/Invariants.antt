use mathlib.Core.Path.{◌≡◌}
use lib.ListN.{take}
use Rattle.report_text.specs.Putting.{Puts}
use Rattle.report_text.proofs.bytes.Writer.bytes.Given as goal

abbrev pub invariant-loop-b : goal.invariant-loop-b
invariant-loop-b l =
    (l.self.out.ghost_name ≡ l.initial.self.out.ghost_name)
    × Puts (take l.b-index l.text) l.initial.self.at l.initial.self.out.now l.self.out.now l.self.at
