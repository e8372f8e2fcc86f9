-- The bound of the passes that the call `passes` tells.
use Rattle.std.specs.Prelude.{◌≡◌, Bool, true, false}
use Rattle.std.proofs.Math.Path.{refl}
use Rattle.std.proofs.Common.{ap, subst}
use Rattle.std.proofs.Math.Option.{some}
use Rattle.definitions.specs.declared.Stages.{Stages}
use Rattle.definitions.specs.declared.Passes.{Passes}
use Rattle.definitions.specs.Lists.{all}
use Rattle.definitions.specs.Limits.{small, in_range}
use Rattle.definitions.specs.Matrix.{Matrix}
use Rattle.definitions.specs.Snf.{Run, all_assigned, begun_of, passes_of}
use Rattle.definitions.specs.Calls.{passes_told, PassesPromise}
use Rattle.math_snf_laws.specs.Begun.{AtMost, all-begun}
use Rattle.math_snf_laws.proofs.Begun.{begun_at_most}
use Rattle.math_snf_laws.specs.Passes.{is_left, is_counted}

module _ (m : Matrix) (p : Passes) (h : PassesPromise m p) where
  -- "This holds of every matrix in range."
  module _ (r : Run m) (e : in_range m ≡ true) where
    -- "at most one more than the magnitude of that stage's first pivot, or 0 where none exists", in both cases
    pub bounded : (s : Stages) × ((passes_told p).1 ≡ some s) × AtMost r s
    bounded = by (all small (all_assigned r)) refl
      where
        by : (b : Bool) → all small (all_assigned r) ≡ b → (s : Stages) × ((passes_told p).1 ≡ some s) × AtMost r s
        by false f = (begun_of r, ap (λ q. (passes_told q).1) (is_left m p h r e f), begun_at_most r)
        by true f = (
          passes_of r,
          ap (λ q. (passes_told q).1) (is_counted m p h r e f),
          subst (AtMost r) (all-begun r f) (begun_at_most r),
        )
