-- Of the list call: each site's copies, each with its place, position and point, and none missing or twice.
use Rattle.std.specs.Prelude.{ℕ, ◌+◌, ◌*◌, ◌<◌, ◌≡◌, get_or, eqb, ℤ}
use Rattle.std.proofs.Math.Path.{ap}
use Rattle.std.proofs.Common.{sym, subst, ◌∙◌, arith}
use mathlib.Core.List.{List, [], map}
use Rattle.std.proofs.Math.ListN.{length, length-replicate, replicate}
use Rattle.std.proofs.lemmas.List.{length-map}
use Rattle.std.proofs.lemmas.Bool.{eqb-false}
use Rattle.definitions.specs.declared.Position.{Position}
use Rattle.definitions.specs.Lists.{any, up_to}
use Rattle.definitions.specs.Refusal.{upto, precedence, Past, orbit_fit, Returns}
use Rattle.definitions.specs.Limits.{copies, bad_copies}
use Rattle.definitions.specs.Matrix.{Matrix}
use Rattle.definitions.specs.Real.{origin}
use Rattle.definitions.specs.Snf.{Run, points}
use Rattle.definitions.specs.Cell.{listed_position, listed_positions, listed_points, site_mapping}
use Rattle.definitions.specs.Lent.{position_from}
use Rattle.definitions.specs.SiteCalls.{listing_of}
use Rattle.definitions.specs.Demand.{Copies, DemandOfListing}
use Rattle.laws.specs.Lists.{map_at, length-up_from, below_up_to, length-each, each_at}
use Rattle.laws.specs.Tests.{off, neither_left}
use Rattle.laws.specs.Order.{FailBefore, past_before}
use Rattle.math_matrix.specs.Laws.{Three}
use Rattle.math_snf_laws.specs.Runs.{every}
use Rattle.base_transformation_laws.proofs.Covered.{run-points-count, run_covers}
use Rattle.base_transformation_laws.specs.Listed.{primitive, ListArguments, list_call}

module _ {c : Matrix} (shape : Three c) (regular : 0 < copies c) (r : Run c) (es : List ℤ) (ps : List Position) where
  abbrev pts : List (List ℤ)
  pts = points r.third

  abbrev n : ℕ
  n = length ps

  abbrev m : ℕ
  m = copies c

  points_are : length pts ≡ m
  points_are = run-points-count shape regular r

  points-count : length (listed_points n pts) ≡ n * m
  unfolding listed_points
  points-count = length-each (λ i. pts) m (λ i. points_are) (up_to n) ∙ ap (λ k. k * m) (length-up_from 0 n)

  run_length : (p : Position) → length (map (listed_position c p) pts) ≡ m
  run_length p = length-map pts (listed_position c p) ∙ points_are

  pub positions_count : length (listed_positions c ps pts) ≡ n * m
  unfolding listed_positions
  positions_count = length-each (λ p. map (listed_position c p) pts) m run_length ps

  mapping_count : length (site_mapping n m) ≡ n * m
  unfolding site_mapping
  mapping_count = length-each (λ i. replicate m i) m (λ i. length-replicate m i) (up_to n) ∙ ap (λ k. k * m) (length-up_from 0 n)

  module _ (i k : ℕ) (h : i < n) (g : k < m) where
    position : get_or (listed_positions c ps pts) (i * m + k) origin ≡ listed_position c (get_or ps i origin) (get_or pts k [])
    unfolding listed_positions
    position =
        let in-run : k < length pts = omega (arith, points_are) in
        each_at (λ p. map (listed_position c p) pts) m run_length ps i k origin origin h g
        ∙ map_at (listed_position c (get_or ps i origin)) pts k [] origin in-run

    point : get_or (listed_points n pts) (i * m + k) [] ≡ get_or pts k []
    unfolding listed_points
    point = each_at (λ i. pts) m (λ i. points_are) (up_to n) i k 0 [] (below_up_to n i h) g

  -- the listing of any run is the copies
  pub listing-copies : Copies c ps (listing_of es ps r)
  listing-copies =
      record {
        run = r;
        positions = positions_count;
        points = points-count;
        mapping = mapping_count;
        copy = λ i k h g. record { position = position i k h g; point = point i k h g; primitive = primitive shape regular r es ps i k h g };
        covers = run_covers shape regular r n;
      }

-- ---- the call

-- "of C zero" is refused
regular_past : (x : ListArguments) → Past orbit_fit (list_call.conditions x) → 0 < copies x.c
unfolding FailBefore any upto precedence
regular_past x past =
    let fails = past_before orbit_fit (list_call.conditions x) past in
    let bad = off (bad_copies x.c) (fails.1.1.1.0 tt) in
    let some : copies x.c ≡ 0 → ⊥ = eqb-false _ _ (neither_left (eqb (copies x.c) 0) _ bad) in
    omega arith

-- Demand 3 of the promise of the list call.
pub list_demand : DemandOfListing list_call
unfolding Returns
list_demand =
    record {
      has_copies = λ x past. (listing_of x.elements (places x) (every x.c), of x past (every x.c));
      just_the_copies = λ x past l h.
          subst (Copies x.c (places x)) (sym h.1.0.1.1) (of x past h.1.0.1.0);
    }
  where
    places : ListArguments → List Position
    places x = map position_from x.positions

    of : (x : ListArguments) → Past orbit_fit (list_call.conditions x) → (r : Run x.c) → Copies x.c (places x) (listing_of x.elements (places x) r)
    of x past r = listing-copies x.shape (regular_past x past) r x.elements (places x)
