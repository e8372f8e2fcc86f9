-- The work on lists past 12, part by part: what each sub-call left is its part of the job's answer.
use Prim.Native.Nat.{ℕ, ◌*◌, ◌≤◌}
use mathlib.Core.Path.{◌≡◌, sym, ap, ◌∙◌, subst}
use mathlib.Core.Bool.{Bool, true, false, not, cond}
use mathlib.Core.List.{List, map, Memᴰ}
use lib.ListN.{length, take, length-map}
use lib.Dec.{ltb}
use lib.IntN.{ℤ}
use lib.Ieee.{Float}
use borrow.Author.Tests.{le-ltb, eq-eqb}
use Rattle.definitions.specs.Refusal.{Verdict}
use Rattle.std.specs.Prelude.{Ok}
use Rattle.definitions.specs.Lists.{any, each, Each}
use Rattle.definitions.specs.Refusal.{Checked, Holds, padded, written}
use Rattle.definitions.specs.Limits.{copies, most_copies, too_many_sites, shorter_than}
use Rattle.definitions.specs.Snf.{Run, points}
use Rattle.definitions.specs.Job.{Job}
use Rattle.definitions.specs.Lent.{permutations_of, operations_from, position_from, cells_of, zero_cells, zero_point, unlike}
use Rattle.definitions.specs.Transformation.{aligned_to, aligned, transform_position}
use Rattle.definitions.specs.Symmetrization.{symmetrized, primitive_positions}
use Rattle.definitions.specs.Cell.{site_mapping}
use Rattle.definitions.specs.Orbit.{Labels, multiplicities}
use Rattle.definitions.specs.Calls.{align_conditions, points_conditions, AlignPromise, transformed_cells, symmetrized_cells, PositionsPromise, PointsPromise, PointsLent}
use Rattle.definitions.specs.SiteCalls.{ListingCells, listing_rooms, listable, listing_at, nothing_listed, HoldsListing, CopiesListed}
use Rattle.definitions.specs.SiteCalls.{LabelCells}
use Rattle.definitions.specs.Standardize.{Rooms, site_count}
use Rattle.definitions.specs.WholeCalls.{Given, job_from}
use Rattle.laws.specs.Verdicts.{Passed}
use Rattle.math_matrix.specs.Laws.{Three}
use Rattle.base_cell.specs.Grouping.{OrbitsLabelled}
use Rattle.base_cell.specs.Maps.{permutations-map}
use Rattle.base_transformation_laws.proofs.Covered.{run-points-count}
use Rattle.symmetrize_standardize_laws.specs.Found.{positions_count, aligned-permutations}
use Rattle.symmetrize_standardize.proofs.Facts.{site-count, of_operations, of_targets, of_positions}
use Rattle.symmetrize_standardize.proofs.Ladder.{conditions, aligned_room}
use Rattle.symmetrize_standardize.proofs.Parts.{none_pass, parts_are, length_parts, front_of, cells_back, length-cells}
use Rattle.symmetrize_standardize.proofs.Past.{length_mapping, known_like, known_within, known_regular, known_copies}
use Rattle.symmetrize_standardize.proofs.Past.{known_past, align_accepts, points_accept, positions_accept, labels_left}

module _ (x : Given) (rooms : Rooms) (p : Passed (conditions x rooms) 12) where
  abbrev j : Job
  j = job_from x

  abbrev n : ℕ
  n = length x.positions

  abbrev m : ℕ
  m = copies x.c

  abbrev k : ℕ
  k = length x.rotations_of_targets

  -- ---- the aligned permutations

  aligned_is : aligned_to (length x.positions) x.t x.rotations x.images x.rotations_of_targets ≡ aligned (job_from x)
  unfolding job_from
  aligned_is =
      let like = known_like x rooms p in
      sym (λ i. aligned_to (site-count x like i) x.t (of_operations x like i) x.images (of_targets x like i))

  sizes : (q : List ℕ) → Memᴰ q (aligned (job_from x)) → length q ≡ length x.positions
  sizes q h =
      (permutations-map (aligned-permutations (job_from x) rooms (known_past x rooms p)) q h).size ∙ site-count x (known_like x rooms p)

  as_many : length (aligned (job_from x)) ≡ length x.rotations_of_targets
  unfolding aligned_to
  as_many = ap length (sym aligned_is) ∙ length-map x.rotations_of_targets _

  pub images_of :
      (old new : List ℕ) (v : Verdict) → length old ≡ aligned_room x →
      AlignPromise x.t x.rotations x.images (length x.positions) x.rotations_of_targets old new v →
      take (length x.rotations_of_targets * length x.positions) new ≡ each (λ q. q) (aligned (job_from x))
  images_of old new v room h =
      let e = align_accepts x rooms p v (subst (λ r. Checked (align_conditions x.t x.rotations x.images n x.rotations_of_targets r) v) room h.0) in
      let answer = each (λ (q : List ℕ). q) (aligned_to n x.t x.rotations x.images x.rotations_of_targets) in
      let held : new ≡ padded 0 answer (length old) = subst (λ w. new ≡ padded 0 (written w answer) (length old)) e h.1 in
      let same : answer ≡ each (λ (q : List ℕ). q) (aligned j) = ap (each (λ (q : List ℕ). q)) aligned_is in
      let long : length answer ≡ k * n = ap length same ∙ length_parts n (aligned j) sizes ∙ ap (λ r. r * n) as_many in
      front_of 0 answer new (length old) (k * n) held long ∙ same

  pub images_long : length (each (λ q. q) (aligned (job_from x))) ≡ length x.rotations_of_targets * length x.positions
  images_long = length_parts n (aligned j) sizes ∙ ap (λ r. r * n) as_many

  pub images_are : permutations_of (length x.positions) (length x.rotations_of_targets) (each (λ q. q) (aligned (job_from x))) ≡ aligned (job_from x)
  images_are = ap (λ r. permutations_of n r (each (λ (q : List ℕ). q) (aligned j))) (sym as_many) ∙ parts_are n (aligned j) sizes

  -- ---- the symmetrised positions

  abbrev images : List ℕ
  images = each (λ q. q) (aligned (job_from x))

  cells_are :
      symmetrized_cells (transformed_cells x.t x.shift x.positions) x.rotations_of_targets x.translations_of_targets images
      ≡ map cells_of (primitive_positions (job_from x))
  unfolding job_from primitive_positions
  cells_are =
      let ps = transformed_cells x.t x.shift x.positions in
      let gs = operations_from x.rotations_of_targets x.translations_of_targets in
      let same : permutations_of (length ps) k images ≡ aligned j =
      ap (λ r. permutations_of r k images) (length-map x.positions (λ v. transform_position x.t x.shift (position_from v))) ∙ images_are in
      ap (λ qs. map cells_of (symmetrized ps gs qs)) same
      ∙ ap (λ qs. map cells_of (symmetrized qs gs (aligned j))) (sym (of_positions x (known_like x rooms p)))

  pub primitive_count : length (primitive_positions (job_from x)) ≡ length x.positions
  primitive_count = positions_count j ∙ site-count x (known_like x rooms p)

  pub primitive_held :
      (old new : List (List Float)) (v : Verdict) → length x.positions ≤ length old →
      PositionsPromise x.t x.shift x.positions x.rotations_of_targets x.translations_of_targets images old new v →
      Holds zero_cells old new (map cells_of (primitive_positions (job_from x)))
  primitive_held old new v room h =
      let e = positions_accept x rooms p images images_long images_are v (length old) room h.0 in
      let answer = symmetrized_cells (transformed_cells x.t x.shift x.positions) x.rotations_of_targets x.translations_of_targets images in
      subst (λ w. new ≡ padded zero_cells (written w answer) (length old)) e h.1 ∙ ap (λ l. padded zero_cells l (length old)) cells_are

  -- ---- the points

  pub points_held :
      Three x.c → (old new : List (List ℤ)) (v : Verdict) → length old ≡ most_copies → PointsPromise x.c old new v →
      (r : Run x.c) × (take (copies x.c) new ≡ points r.third) × (length (points r.third) ≡ copies x.c)
  points_held shape old new v room h =
      let e = points_accept x rooms p v (subst (λ r. Checked (points_conditions x.c r) v) room h.0) in
      let held : PointsLent x.c old new (Ok tt) = subst (PointsLent x.c old new) e h.1 in
      let long = run-points-count shape (known_regular x rooms p) held.0 in
      (held.0, front_of zero_point (points held.0.third) new (length old) m held.1 long, long)

  -- ---- the copies

  pub listed_held :
      (r : Run x.c) → length (points r.third) ≡ copies x.c → (entry exit : ListingCells) →
      length x.positions * copies x.c ≤ length entry.positions → length x.positions * copies x.c ≤ length entry.points →
      length x.positions * copies x.c ≤ length entry.mapping → length x.positions * copies x.c ≤ length entry.elements →
      CopiesListed x.c (points r.third) x.elements (map cells_of (primitive_positions (job_from x))) entry exit →
      HoldsListing entry exit (listing_at x.c x.elements (primitive_positions (job_from x)) (points r.third))
  unfolding Each
  listed_held r long entry exit a b c d h =
      let pp = primitive_positions j in
      let fs = points r.third in
      let listed : ℕ → ℕ → Bool = λ i l. listable i (length x.elements) l (listing_rooms entry) in
      let sited : length (map cells_of pp) ≡ n = length-cells pp ∙ primitive_count in
      let few : too_many_sites n ≡ false = (known_within x rooms p).sites in
      let like : unlike (length x.elements) n ≡ false = ap not (eq-eqb _ _ (known_like x rooms p).elements) in
      let small : ltb most_copies m ≡ false = le-ltb _ _ (known_copies x rooms p) in
      let roomy : any (shorter_than (n * m)) (listing_rooms entry) ≡ false =
      none_pass (shorter_than (n * m)) (listing_rooms entry) (le-ltb _ _ a, (le-ltb _ _ b, (le-ltb _ _ c, (le-ltb _ _ d, tt)))) in
      let yes : listed n m ≡ true = rw (few, like, small, roomy) in
      let said : listed (length (map cells_of pp)) (length fs) ≡ true = (λ i. listed (sited i) (long i)) ∙ yes in
      subst (λ qs. HoldsListing entry exit (listing_at x.c x.elements qs fs)) (cells_back pp)
      (subst (λ t. HoldsListing entry exit (cond t (listing_at x.c x.elements (map position_from (map cells_of pp)) fs) nothing_listed)) said h)

  -- ---- the labels

  pub labels_held :
      (entry exit : LabelCells) → length x.positions * copies x.c ≤ length entry.labels →
      length x.positions * copies x.c ≤ length entry.multiplicities →
      OrbitsLabelled
      (record {
        sites = length x.positions;
        count = length x.rotations_of_targets;
        images = images;
        mapping = site_mapping (length x.positions) (copies x.c);
      }) entry exit →
      (ls : List ℕ) × Labels (aligned (job_from x)) (site_mapping (site_count (job_from x)) (copies x.c)) ls
      × (length ls ≡ length x.positions * copies x.c)
      × Holds 0 entry.labels exit.labels ls
      × Holds 0 entry.multiplicities exit.multiplicities (multiplicities ls)
  labels_held entry exit a b h =
      let mapping = site_mapping n m in
      let (answer, is, held) = labels_left x rooms p images images_long entry exit a b h in
      let ls = answer.labels in (
        ls,
        subst (λ s. Labels (aligned j) (site_mapping s m) ls) (sym (site-count x (known_like x rooms p))) (subst (λ ps. Labels ps mapping ls) images_are is.0),
        is.0.each ∙ length_mapping n m,
        held.labels,
        held.multiplicities ∙ ap (λ l. padded 0 l (length entry.multiplicities)) is.1,
      )
