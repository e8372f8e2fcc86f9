-- What the lists of copies come to: the step, and the call that finds the points.
use Rattle.std.proofs.Common.{◌≡◌, ℕ, ◌-◌, Bool, true, false, cond, List, [], ◌∷◌, ◌++◌, map}
use Rattle.std.proofs.Common.{length, take, replicate, ℤ, pos, sym, refl, ap, ◌∙◌, subst, take_at}
use mathlib.Core.List.{map-map, map-append}
use lib.ListN.{length-map}
use lib.Ieee.{Float}
use Rattle.std.specs.Prelude.{Err, Ok}
use Rattle.definitions.specs.declared.Refusal.{Refusal}
use Rattle.definitions.specs.Lists.{each}
use Rattle.definitions.specs.Limits.{copies, most_copies}
use Rattle.definitions.specs.Lent.{position_from, cells_of, zero_cells, zero_point}
use Rattle.definitions.specs.Matrix.{Matrix}
use Rattle.definitions.specs.Real.{RealMatrix, inverse_of_c}
use Rattle.definitions.specs.Refusal.{Condition, Checked, Returns, Outcome, accepted, refused, number, padded}
use Rattle.definitions.specs.Cell.{listed_position, listed_positions, listed_points, site_mapping, listed_elements}
use Rattle.definitions.specs.SiteCalls.{ListingCells, listing_rooms, HoldsListing, nothing_listed, listable, listing_at, listing_of}
use Rattle.definitions.specs.SiteCalls.{CopiesListed, list_conditions, IsListing, ListPromise}
use Rattle.laws.specs.Verdicts.{promise_accepted, promise_refused}
use Rattle.math_matrix.specs.Laws.{Three}
use Rattle.definitions.specs.Calls.{IsSnf}
use Rattle.definitions.specs.Snf.{State, points}
use Rattle.base_transformation.specs.Answers.{Ready}
use Rattle.base_transformation_laws.proofs.Covered.{run-points-count}
use Rattle.base_transformation.specs.Runs.{run_cells}
use Rattle.base_transformation.specs.Copied.{ListFacts, list_facts}
use Rattle.base_transformation.proofs.Accepted.{ready_of}
use Rattle.base_transformation.proofs.Listable.{can_list}

-- the copies' positions as they are lent, run by run
pub cells_are : (c : Matrix) (fs : List (List ℤ)) (ps : List (List Float)) → map cells_of (listed_positions c (map position_from ps) fs) ≡ each (run_cells (inverse_of_c c) fs) ps
unfolding listed_positions each
cells_are c fs [] = refl
cells_are c fs (p ∷ ps) =
    map-append cells_of (map (listed_position c (position_from p)) fs) (listed_positions c (map position_from ps) fs)
    ∙ (λ k. map-map cells_of (listed_position c (position_from p)) fs k ++ cells_are c fs ps k)

module _ (c : Matrix) (fs : List (List ℤ)) (es : List ℤ) (ps : List (List Float)) (entry exit : ListingCells) where
  abbrev can : Bool
  can = listable (length ps) (length es) (length fs) (listing_rooms entry)

  abbrev Left : Bool → Type 0
  Left b = HoldsListing entry exit (cond b (listing_at c es (map position_from ps) fs) nothing_listed)

  -- the lists hold the runs
  pub copies-listed :
      (inverse : RealMatrix) → can ≡ true → inverse ≡ inverse_of_c c
      → exit.positions ≡ padded zero_cells (each (run_cells inverse fs) ps) (length entry.positions)
      → exit.points ≡ padded zero_point (listed_points (length ps) fs) (length entry.points)
      → exit.mapping ≡ padded 0 (site_mapping (length ps) (length fs)) (length entry.mapping)
      → exit.elements ≡ padded (pos 0) (listed_elements es (length fs)) (length entry.elements)
      → CopiesListed c fs es ps entry exit
  copies-listed inverse h i a b d e =
      let n : length ps ≡ length (map position_from ps) = sym (length-map ps position_from) in
      subst Left (sym h)
      (record {
        positions =
            a ∙ ap (λ (l : List (List Float)). padded zero_cells l (length entry.positions))
            (ap (λ (m : RealMatrix). each (run_cells m fs) ps) i ∙ sym (cells_are c fs ps));
        points = b ∙ ap (λ (k : ℕ). padded zero_point (listed_points k fs) (length entry.points)) n;
        mapping = d ∙ ap (λ (k : ℕ). padded 0 (site_mapping k (length fs)) (length entry.mapping)) n;
        elements = e;
      })

  pub nothing-listed : can ≡ false → HoldsListing entry exit nothing_listed → CopiesListed c fs es ps entry exit
  nothing-listed h e = subst Left (sym h) e

-- ---- the points that a list begins with

module _ (fs l : List (List ℤ)) (n m : ℕ) (e : l ≡ padded zero_point fs n) (count : length fs ≡ m) where
  -- as the code lends them
  pub front_is : take m l ≡ fs
  front_is = rw e (take_at fs (replicate (n - length fs) zero_point) m count)

-- ---- the call

module _ (c : Matrix) (es : List ℤ) (ps : List (List Float)) (entry : ListingCells) where
  abbrev conditions : List Condition
  conditions = list_conditions c es ps (listing_rooms entry)

  abbrev pub Ended : Outcome State → Type 0
  Ended = Returns conditions (IsSnf c)

  module _ (shape : Three c) (s : State) (ended : Ended (accepted s)) where
    checked : Checked conditions (Ok tt)
    unfolding Returns Checked
    checked = (ended.0, tt)

    is_snf : IsSnf c s
    unfolding Returns
    is_snf = ended.1

    facts : ListFacts c es ps (listing_rooms entry)
    facts = list_facts c es ps (listing_rooms entry) checked

    are_points : points s ≡ points is_snf.0.third
    are_points = ap points (sym is_snf.1)

    count : length (points s) ≡ copies c
    count = ap length are_points ∙ run-points-count shape facts.copied.0 is_snf.0

    pub listed_ready : Ready s.d most_copies × (length (points s) ≡ copies c)
    listed_ready = (ready_of c most_copies (facts.copied.0, facts.copied.1, facts.copied.1) shape s is_snf, count)

    -- the listing at the points is the run's
    same : listing_at c es (map position_from ps) (points s) ≡ listing_of es (map position_from ps) is_snf.0
    same = λ k.
        record {
          positions = listed_positions c (map position_from ps) (are_points k);
          points = listed_points (length (map position_from ps)) (are_points k);
          mapping = site_mapping (length (map position_from ps)) (count k);
          elements = listed_elements es (count k);
        }

    can_be : listable (length ps) (length es) (length (points s)) (listing_rooms entry) ≡ true
    can_be =
        subst (λ (m : ℕ). listable (length ps) (length es) m (listing_rooms entry) ≡ true) (sym count)
        (can_list (length ps) (length es) (copies c) entry facts.sites facts.alike facts.few facts.room)

    pub keep-accepted :
        (exit : ListingCells) → CopiesListed c (points s) es ps entry exit → ListPromise c es ps entry exit (Ok tt)
    keep-accepted exit h =
        promise_accepted conditions (IsListing c es ps) (HoldsListing entry exit) (HoldsListing entry exit nothing_listed)
        (listing_of es (map position_from ps) is_snf.0) checked (is_snf.0, refl)
        (subst (HoldsListing entry exit) same (subst (Left c (points s) es ps entry exit) can_be h))

  pub keep_refused :
      (r : Refusal) (exit : ListingCells) → Ended (refused (number r)) → HoldsListing entry exit nothing_listed →
      ListPromise c es ps entry exit (Err r)
  unfolding Returns Checked
  keep_refused r exit e h =
      promise_refused conditions (IsListing c es ps) (HoldsListing entry exit) (HoldsListing entry exit nothing_listed) r e h
