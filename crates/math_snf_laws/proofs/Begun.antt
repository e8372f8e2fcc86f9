-- The passes that are begun are few.
use Rattle.std.specs.Prelude.{ℕ, ◌≤◌, Bool, true, false, cond, ◌++◌}
use Rattle.std.proofs.Common.{arith, le_trans}
use Rattle.definitions.specs.Matrix.{Matrix}
use Rattle.definitions.specs.Snf.{Run, all_small, begun_of}
use Rattle.math_snf_laws.proofs.Runs.{passes₀, passes₁, passes₂}
use Rattle.math_snf_laws.specs.Begun.{begun_some, AtMost}

module _ {m : Matrix} (r : Run m) where
  pub begun_at_most : AtMost r (begun_of r)
  begun_at_most =
      record {
        of_first = le_trans (begun_some r.assigned₀) (passes₀ r);
        of_second = reached (all_small r.assigned₀) (le_trans (begun_some r.assigned₁) (passes₁ r));
        of_third = reached (all_small (r.assigned₀ ++ r.assigned₁)) (le_trans (begun_some r.assigned₂) (passes₂ r));
      }
    where
      reached : (b : Bool) {n k : ℕ} → n ≤ k → cond b n 0 ≤ k
      reached true h = h
      reached false h = omega arith
