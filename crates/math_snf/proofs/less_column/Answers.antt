-- `less_column`: each row has its entry written.
use mir.Syntax.{w32}
use mir.ValLaws.{to_z-of_z}
use Rattle.math_snf.specs.Step.{kept_column, kept_line}
use Rattle.math_snf.proofs.less_column.Goals as goal

pub returns : goal.returns
unfolding kept_column kept_line
returns c = simp (c.less_at.ensures, c.less_at-2.ensures, c.less_at-3.ensures, to_z-of_z w32 c.args.k c.ranges.k)
