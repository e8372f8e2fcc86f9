-- `byte`: where there is room the byte is stored.
use native.Mathlib.Omega.{arith}
use mathlib.Core.List.{[], ◌∷◌}
use Rattle.report_text.proofs.Putting.{puts_byte, puts_full}
use Rattle.report_text.proofs.bytes.Writer.byte.Goals as goal

pub returns-then-self-clause-puts : goal.returns-then-self-clause-puts
returns-then-self-clause-puts c =
    let s = c.args.self.now in
    puts_byte s.out.now s.at c.args.b (omega arith)

pub returns-else-self-clause-puts : goal.returns-else-self-clause-puts
returns-else-self-clause-puts c =
    let s = c.args.self.now in
    puts_full s.out.now s.at (c.args.b ∷ []) (omega arith)
