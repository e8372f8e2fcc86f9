-- A store past the end is none.
use mathlib.Core.Path.{sym}
use lib.Seq.{set_out}
use Rattle.data_wyckoff.proofs.space.put.Goals as goal

pub returns-else-i-spaces : goal.returns-else-i-spaces
returns-else-i-spaces c = sym (set_out c.args.spaces.now c.args.i c.args.space c.if-i-spaces.false)
