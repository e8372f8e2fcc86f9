-- What an accepted call of `lattice_points` gives its caller: the first |det C| cells of the lent list are points that
-- meet every whole translation once, and the others are zero.
use Rattle.std.specs.Prelude.{◌≡◌, ℕ, ◌+◌, ◌-◌, ◌<◌, ◌≤◌, List, [], ◌∷◌, length, get_or, take, replicate, ℤ, ◌==◌, slice_index_or}
use Rattle.std.proofs.Common.{sym, ap, subst, ◌∙◌, arith, take_at, get_or-append-add, ltb-false}
use Rattle.std.proofs.lemmas.List.{get_or-replicate}
use Rattle.std.proofs.Math.ListN.{get_or-append}
use Rattle.std.proofs.lemmas.Bool.{eqb-false}
use Rattle.std.specs.Prelude.{Ok}
use Rattle.definitions.specs.Refusal.{Checked, padded}
use Rattle.definitions.specs.Matrix.{Matrix}
use Rattle.definitions.specs.Snf.{points}
use Rattle.definitions.specs.Cell.{listed_points}
use Rattle.definitions.specs.Calls.{points_conditions, PointsLent}
use Rattle.definitions.specs.Demand.{ExactlyOne, DifferByWhole, Covers}
use Rattle.definitions.specs.Limits.{copies}
use Rattle.math_matrix.specs.Laws.{Three}
use Rattle.definitions.specs.Lent.{zero_point}
use Rattle.base_transformation_laws.proofs.Covered.{run-points-count, run_point_covers, run_covers}
use Rattle.laws.specs.Order.{numbered, FailAll, past}
use Rattle.laws.specs.Tests.{off, neither_left, neither_right}
use Rattle.laws.specs.Filling.{length-padded}

-- the conditions that an accepted call is past
pub points_facts : (c : Matrix) (room : ℕ) → Checked (points_conditions c room) (Ok tt) → (0 < copies c) × (copies c ≤ 64) × (copies c ≤ room)
unfolding numbered FailAll
points_facts c room e =
    let fails = past (points_conditions c room) tt e in
    let copied = off _ fails.1.0 in
    let some : copies c ≡ 0 → ⊥ = eqb-false _ _ (neither_left _ _ copied) in
    (omega arith, ltb-false _ _ (neither_right (copies c == 0) _ copied), ltb-false _ _ (off _ fails.1.1.1.0))

module _ {c : Matrix} (shape : Three c) (entry exit : List (List ℤ)) (e : Checked (points_conditions c (length entry)) (Ok tt)) (lent : PointsLent c entry exit (Ok tt)) where
  count : length (points lent.0.third) ≡ copies c
  count = run-points-count shape (points_facts c (length entry) e).0 lent.0

  -- the list keeps its length, and has room for the points
  pub lent_length : length exit ≡ length entry
  lent_length =
      ap length lent.1 ∙ length-padded zero_point (points lent.0.third) (length entry) (omega (arith, count, (points_facts c (length entry) e).2))

  pub lent_room : copies c ≤ length exit
  lent_room = omega (arith, lent_length, (points_facts c (length entry) e).2)

  -- its front is the points
  pub lent_front : take (copies c) exit ≡ points lent.0.third
  lent_front =
      ap (take (copies c)) lent.1
      ∙ take_at (points lent.0.third) (replicate (length entry - length (points lent.0.third)) zero_point) (copies c) count

  cell : (k : ℕ) → k < copies c → slice_index_or exit k [] ≡ slice_index_or (points lent.0.third) k []
  cell k h =
      ap (λ (l : List (List ℤ)). get_or l k []) lent.1
      ∙ get_or-append (points lent.0.third) (replicate (length entry - length (points lent.0.third)) zero_point) [] k (omega (arith, count))

  -- behind them stand zero points
  pub lent-rest : (k : ℕ) → copies c + k < length exit → slice_index_or exit (copies c + k) [] ≡ zero_point
  lent-rest k h =
      let n = length (points lent.0.third) in
      ap (λ (l : List (List ℤ)). get_or l (copies c + k) []) lent.1
      ∙ ap (λ (i : ℕ). get_or (padded zero_point (points lent.0.third) (length entry)) (i + k) []) (sym count)
      ∙ get_or-append-add (points lent.0.third) (replicate (length entry - n) zero_point) k []
      ∙ get_or-replicate (length entry - n) k zero_point [] (omega (arith, count, lent_length))

  -- every whole translation differs by whole conventional vectors from the point in exactly one of the first |det C|
  -- cells
  pub lent_covers : (a b d : ℤ) → ExactlyOne (copies c) (λ k. DifferByWhole c (a ∷ b ∷ d ∷ []) (slice_index_or exit k []))
  lent_covers a b d =
      let x = run_point_covers shape (points_facts c (length entry) e).0 lent.0 a b d in
      record {
        place = x.place;
        below = x.below;
        has = subst (DifferByWhole c (a ∷ b ∷ d ∷ [])) (sym (cell x.place x.below)) x.has;
        only = λ k h y. x.only k h (subst (DifferByWhole c (a ∷ b ∷ d ∷ [])) (cell k h) y);
      }

  -- and so for each of n sites, laid run by run
  pub lent-listed : (n : ℕ) → Covers c n (listed_points n (take (copies c) exit))
  lent-listed n =
      subst (λ (l : List (List ℤ)). Covers c n (listed_points n l)) (sym lent_front) (run_covers shape (points_facts c (length entry) e).0 lent.0 n)
