-- A run's stages are short.
use Rattle.std.specs.Prelude.{◌≤◌, length}
use Rattle.definitions.specs.Matrix.{Matrix}
use Rattle.definitions.specs.Snf.{pivot, Run}
use Rattle.math_snf_laws.specs.Steps.{i00, i11, i22}
use Rattle.math_snf_laws.specs.Stages.{most, stage-passes}

module _ {m : Matrix} (r : Run m) where
  -- the passes of each stage: none without a pivot, else at most one more than its magnitude
  pub passes₀ : length r.assigned₀ ≤ most m (pivot 0 m)
  passes₀ = stage-passes i00 r.stage₀

  pub passes₁ : length r.assigned₁ ≤ most r.first.d (pivot 1 r.first.d)
  passes₁ = stage-passes i11 r.stage₁

  pub passes₂ : length r.assigned₂ ≤ most r.second.d (pivot 2 r.second.d)
  passes₂ = stage-passes i22 r.stage₂
