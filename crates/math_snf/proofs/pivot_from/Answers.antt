-- `pivot_from`: the least key is read back.
use Rattle.std.proofs.Common.{ℕ, ◌^◌, ◌/◌, ◌%◌, ◌≤◌, ◌<◌, ◌≡◌, sym, subst, arith}
use mathlib.Core.Option.{Option, some}
use lib.IntN.{nat_abs}
use mir.Syntax.{w16}
use Rattle.definitions.specs.Matrix.{at}
use Rattle.definitions.specs.Snf.{Place, pivot}
use Rattle.math_matrix.specs.Bounds.{abs_fits}
use Rattle.math_matrix.proofs.Shape.{good_entry}
use Rattle.math_snf_laws.specs.Stages.{most}
use Rattle.math_snf.specs.Step.{most_passes}
use Rattle.math_snf.specs.Key.{no_key, least_key}
use Rattle.math_snf.proofs.Pivots.{Keyed, few_passes, pivot_keyed, none_by_key, place_by_key}
use Rattle.math_snf.proofs.pivot_from.Goals.{Start}
use Rattle.math_snf.proofs.pivot_from.Goals as goal

small : (s : Start) (i j : ℕ) → nat_abs (at s.args.m i j) ≤ 2 ^ 15
small s i j = abs_fits w16 _ (good_entry w16 s.args.m s.well_formed.0 i j)

abbrev found : Start → Option Place
found s = pivot s.args.s.at s.args.m

few : (s : Start) → most s.args.m (found s) ≤ most_passes
few s = few_passes s.args.m (small s) (found s)

keyed : (s : Start) (k : ℕ) → k ≡ least_key s.args.s.at s.args.m → Keyed s.args.m (small s) 0 (found s) k
keyed s k e = subst (Keyed s.args.m (small s) 0 (found s)) (sym e) (pivot_keyed s.args.m (small s) s.args.s.at (omega arith))

read : (s : Start) (k : ℕ) → k ≡ least_key s.args.s.at s.args.m → (k ≡ no_key → ⊥) → (some (k / 4 % 4, k % 4) ≡ found s) × (k / 4 % 4 < 3) × (k % 4 < 3)
read s k e h = place_by_key s.args.m (small s) (found s) k (keyed s k e) h

pub returns-then-k-eq-NO_KEY : goal.returns-then-k-eq-NO_KEY
returns-then-k-eq-NO_KEY c =
    let s = (goal.at.returns-then-k-eq-NO_KEY c).Start in
    let k = c.least_key-k in
    record {
      result_value = none_by_key s.args.m (small s) (found s) k.result (keyed s k.result k.ensures) c.if-k-eq-NO_KEY.true;
      m_bound = few s;
    }

pub invariant_of-result : goal.invariant_of-result
invariant_of-result c = record { inside = (read (goal.at.invariant_of-result c).Start c.least_key-k.result c.least_key-k.ensures c.if-k-eq-NO_KEY.false).1 }

pub invariant_of-result-2 : goal.invariant_of-result-2
invariant_of-result-2 c = record { inside = (read (goal.at.invariant_of-result-2 c).Start c.least_key-k.result c.least_key-k.ensures c.if-k-eq-NO_KEY.false).2 }

pub returns : goal.returns
returns c =
    let s = (goal.at.returns c).Start in
    record { result_value = (read s c.least_key-k.result c.least_key-k.ensures c.if-k-eq-NO_KEY.false).0; m_bound = few s }
