-- `real_inverse`: the inverse's entries as floats.
use Rattle.std.proofs.Common.{ap, ◌∙◌}
use Rattle.definitions.specs.Matrix.{inverse}
use Rattle.definitions.specs.Real.{real}
use Rattle.math_real.specs.Rows.{real_is}
use Rattle.symmetrize_positions.proofs.transform.real_inverse.Goals as goal

pub returns : goal.returns
returns c = real_is c.real.ensures ∙ ap real (c.inverse.ensures ∙ ap inverse c.widened.ensures)
