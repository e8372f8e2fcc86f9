-- The parts of a symmetrised metric, and the basis that it gives.
use Rattle.std.specs.Prelude.{Bool, not, cond, ◌&&◌, List, map, Option, None, Some}
use Rattle.std.specs.Float.Ieee.{eq}
use Rattle.definitions.specs.Matrix.{Matrix}
use Rattle.definitions.specs.Real.{RealMatrix, zero_f, real, mul_f, transpose_f, sum_m, inverse_f, det_f}
use Rattle.definitions.specs.Symmetrization.{lattice_fails, symmetrized_basis}
use Rattle.math_real.specs.Rows.{all_finite}

-- (RᵀG)R
abbrev pub turned : RealMatrix → Matrix → RealMatrix
turned g r = mul_f (mul_f (transpose_f (real r)) g) (real r)

abbrev pub total_metric : RealMatrix → List Matrix → RealMatrix
total_metric g rs = sum_m (map (turned g) rs)

-- the old basis has an inverse, and the deformation from it to the new one is finite
abbrev pub deforms : RealMatrix → RealMatrix → Bool
deforms old new = not (eq (det_f old) zero_f) && all_finite (mul_f new (inverse_f old))

-- the new basis, where 12 does not apply
abbrev pub symmetrized : RealMatrix → List Matrix → Option RealMatrix
symmetrized old rs = cond (lattice_fails old rs) None (Some (symmetrized_basis old rs))
