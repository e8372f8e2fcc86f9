-- The limit of a position is symprec's.
use mathlib.Core.Path.{◌∙◌}
use Rattle.checks.proofs.Laws.{within_position}
use Rattle.checks.proofs.good_symprec.Goals as goal

pub returns-then-s : goal.returns-then-s
returns-then-s c = simp c.if-s.true (c.within.ensures ∙ within_position c.args.s)
