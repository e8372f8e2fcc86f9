-- `bytes`: before the byte i the text's first i bytes are put.
use Prim.Native.Nat.{◌<◌}
use mathlib.Core.Path.{refl, ◌∙◌}
use native.Mathlib.Omega.{arith}
use lib.ListN.{length}
use Rattle.report_text.proofs.Putting.{puts_none, puts_next, puts_all}
use Rattle.report_text.proofs.bytes.Writer.bytes.Goals as goal

pub loop-b-init : goal.loop-b-init
loop-b-init c = (refl, puts_none c.args.self.now.out.now c.args.self.now.at)

pub loop-b-preserved : goal.loop-b-preserved
loop-b-preserved c =
    let l = c.loop-b in
    let h : l.b-index < length c.args.text.now = omega arith in
    (c.byte.ensures.same_bytes ∙ l.invariant.0, puts_next c.args.text.now l.b-index h l.invariant.1 c.byte.ensures.puts)

pub returns-clause-puts : goal.returns-clause-puts
returns-clause-puts c = puts_all c.args.text.now c.loop-b.b-index (omega arith) c.loop-b.invariant.1
