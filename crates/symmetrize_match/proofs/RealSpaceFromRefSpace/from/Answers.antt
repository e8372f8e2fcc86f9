-- The matrices' entries as floats.
use Rattle.math_real.specs.Rows.{real_is}
use Rattle.symmetrize_match.proofs.RealSpaceFromRefSpace.from.Goals as goal

pub returns : goal.returns
returns c = (
  λ i.
      record {
        matrix = real_is c.real.ensures i;
        shift = c.from.ensures i;
        diagonal = c.diagonal_of.ensures.0 i;
        left = real_is c.real-2.ensures i;
        right = real_is c.real-3.ensures i;
      },
  c.diagonal_of.ensures.1,
)
