-- `bound` meets its contract: the bound is tried, and where it fails infinity is one.
use mathlib.Core.Path.{◌≡◌, refl, sym, ap, ◌∙◌}
use mathlib.Core.Bool.{true, false}
use lib.Ieee.{Float, nan, inf, fin, of_bits, le, lt}
use Rattle.definitions.specs.Real.{zero_f, sqrt}
use Rattle.symmetrize_match.proofs.bound.bound.Goals as goal

none_above : (p : Float) → lt (sqrt (inf false)) p ≡ false
unfolding lt sqrt
none_above nan = refl
none_above (inf s) = refl
none_above (fin s m e) = refl

above_zero : le zero_f (inf false) ≡ true
unfolding le of_bits
above_zero = refl

pub returns-then-not-sqrt-symprec : goal.returns-then-not-sqrt-symprec
returns-then-not-sqrt-symprec c =
    record {
      above = c.if-b.true;
      root = ap (λ r. lt r c.args.symprec) (sym c.sqrt.ensures.value) ∙ c.if-not-sqrt-symprec.true;
    }

pub returns-else-b : goal.returns-else-b
unfolding of_bits
returns-else-b c = record { above = above_zero; root = none_above c.args.symprec }
