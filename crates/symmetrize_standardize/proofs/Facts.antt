-- What lists past the tests of 2 to 4 are: of one length where they belong together, within the limits; and the job's
-- conditions by the lists themselves.
use Prim.Native.Nat.{ℕ, ◌*◌}
use mathlib.Core.Path.{◌≡◌}
use mathlib.Core.Bool.{Bool, false, not, ◌||◌}
use mathlib.Core.List.{map}
use lib.ListN.{length}
use borrow.Author.Tests.{eqb-true, not-false}
use Rattle.definitions.specs.Lists.{all}
use Rattle.definitions.specs.Limits.{too_many_sites, not_some, too_many_candidates, in_range, in_range_of_c, lattice_within}
use Rattle.definitions.specs.Limits.{position_within, good_symprec}
use Rattle.definitions.specs.Lent.{cells_within, bad_images, unlike}
use Rattle.definitions.specs.Transformation.{rotations_of, transform_position, transformed}
use Rattle.definitions.specs.Calls.{transformed_cells}
use Rattle.definitions.specs.Wyckoff.{texts_of}
use Rattle.definitions.specs.Standardize.{site_count, bad_counts, bad_entry, bad_float, bad_image}
use Rattle.definitions.specs.WholeCalls.{Given, job_from, unlike_lists}
use Rattle.laws.specs.Tests.{neither_left, neither_right}
use Rattle.symmetrize_standardize.specs.Stages.{list_counts, list_entries, list_floats}
use Rattle.symmetrize_standardize.proofs.Together.{length-sites, elements_of, positions_of, all-sites, all_translations}
use Rattle.symmetrize_standardize.proofs.Together.{length_operations, rotations_of_lem, all_rotations, length-candidates, texts_of_lem}

-- both tests fail
abbrev Neither : Bool → Bool → Type 0
Neither a b = (a ≡ false) × (b ≡ false)

split : (a b : Bool) → (a || b) ≡ false → Neither a b
split a b e = (neither_left a b e, neither_right a b e)

same_length : (m n : ℕ) → unlike m n ≡ false → m ≡ n
same_length m n e = eqb-true m n (not-false _ e)

-- ---- one length

pub record Like (x : Given) : Type 0 where
  pub elements : length x.elements ≡ length x.positions
  pub translations : length x.translations ≡ length x.rotations
  pub targets : length x.translations_of_targets ≡ length x.rotations_of_targets
  pub multiplicities : length x.multiplicities ≡ length x.texts
  pub letters : length x.letters ≡ length x.texts

pub like : (x : Given) → unlike_lists x ≡ false → Like x
like x e =
    let (e₄, five) = split _ (unlike (length x.letters) (length x.texts)) e in
    let (e₃, four) = split _ (unlike (length x.multiplicities) (length x.texts)) e₄ in
    let (e₂, three) = split _ (unlike (length x.translations_of_targets) (length x.rotations_of_targets)) e₃ in
    let (one, two) = split _ (unlike (length x.translations) (length x.rotations)) e₂ in
    record {
      elements = same_length _ _ one;
      translations = same_length _ _ two;
      targets = same_length _ _ three;
      multiplicities = same_length _ _ four;
      letters = same_length _ _ five;
    }

-- the job's lists are the lent ones
module _ (x : Given) (k : Like x) where
  pub site-count : site_count (job_from x) ≡ length x.positions
  unfolding job_from
  site-count = length-sites x.elements x.positions k.elements

  pub of_elements : map (λ s. s.element) (job_from x).sites ≡ x.elements
  unfolding job_from
  of_elements = elements_of x.elements x.positions k.elements

  pub of_operations : rotations_of (job_from x).operations ≡ x.rotations
  unfolding job_from
  of_operations = rotations_of_lem x.rotations x.translations k.translations

  pub of_targets : rotations_of (job_from x).targets ≡ x.rotations_of_targets
  unfolding job_from
  of_targets = rotations_of_lem x.rotations_of_targets x.translations_of_targets k.targets

  pub of_texts : texts_of (job_from x).candidates ≡ x.texts
  unfolding job_from
  of_texts = texts_of_lem x.multiplicities x.letters x.texts k.multiplicities k.letters

  pub of_positions : transformed (job_from x) ≡ transformed_cells x.t x.shift x.positions
  unfolding job_from transformed
  of_positions = positions_of (transform_position x.t x.shift) x.elements x.positions k.elements

  -- the conditions of refusals 2 to 5 of the job
  pub same-counts : bad_counts (job_from x) ≡ list_counts x
  unfolding job_from
  same-counts =
      rw (
        length-sites x.elements x.positions k.elements,
        length_operations x.rotations x.translations k.translations,
        length_operations x.rotations_of_targets x.translations_of_targets k.targets,
        length-candidates x.multiplicities x.letters x.texts k.multiplicities k.letters,
      )

  pub same_entries : bad_entry (job_from x) ≡ list_entries x
  unfolding job_from
  same_entries =
      rw (
        all_rotations in_range x.rotations x.translations k.translations,
        all_rotations in_range x.rotations_of_targets x.translations_of_targets k.targets,
      )

  pub same-floats : bad_float (job_from x) ≡ list_floats x
  unfolding job_from
  same-floats =
      rw (
        all-sites position_within x.elements x.positions k.elements,
        all_translations position_within x.rotations x.translations k.translations,
        all_translations position_within x.rotations_of_targets x.translations_of_targets k.targets,
      )

  pub same-images : bad_image (job_from x) ≡ bad_images (length x.positions) (length x.rotations) x.images
  unfolding job_from
  same-images =
      rw (
        length-sites x.elements x.positions k.elements,
        length_operations x.rotations x.translations k.translations,
      )

-- ---- within the limits

pub record Within (x : Given) : Type 0 where
  pub sites : too_many_sites (length x.positions) ≡ false
  pub operations : not_some (length x.rotations) ≡ false
  pub targets : not_some (length x.rotations_of_targets) ≡ false
  pub conventional : not_some (length x.conventional) ≡ false
  pub candidates : too_many_candidates (length x.texts) ≡ false
  pub images : unlike (length x.images) (length x.rotations * length x.positions) ≡ false
  pub t_entries : not (in_range x.t) ≡ false
  pub c_entries : not (in_range_of_c x.c) ≡ false
  pub operation-entries : not (all in_range x.rotations) ≡ false
  pub target_entries : not (all in_range x.rotations_of_targets) ≡ false
  pub conventional_entries : not (all in_range x.conventional) ≡ false
  pub lattice : not (lattice_within x.lattice) ≡ false
  pub shift : not (position_within x.shift) ≡ false
  pub positions : not (all cells_within x.positions) ≡ false
  pub target_translations : not (all cells_within x.translations_of_targets) ≡ false

pub within : (x : Given) → list_counts x ≡ false → list_entries x ≡ false → list_floats x ≡ false → Within x
within x counts entries floats =
    let (c₅, c-images) = split _ (unlike (length x.images) (length x.rotations * length x.positions)) counts in
    let (c₄, c-candidates) = split _ (too_many_candidates (length x.texts)) c₅ in
    let (c₃, c-conventional) = split _ (not_some (length x.conventional)) c₄ in
    let (c₂, c-targets) = split _ (not_some (length x.rotations_of_targets)) c₃ in
    let (c-sites, c-operations) = split _ (not_some (length x.rotations)) c₂ in
    let (e₄, e-conventional) = split _ (not (all in_range x.conventional)) entries in
    let (e₃, e-targets) = split _ (not (all in_range x.rotations_of_targets)) e₄ in
    let (e₂, e-operations) = split _ (not (all in_range x.rotations)) e₃ in
    let (e-t, e-c) = split _ (not (in_range_of_c x.c)) e₂ in
    let (f₅, f-symprec) = split _ (not (good_symprec x.symprec)) floats in
    let (f₄, f-targets) = split _ (not (all cells_within x.translations_of_targets)) f₅ in
    let (f₃, f-operations) = split _ (not (all cells_within x.translations)) f₄ in
    let (f₂, f-positions) = split _ (not (all cells_within x.positions)) f₃ in
    let (f-lattice, f-shift) = split _ (not (position_within x.shift)) f₂ in
    record {
      sites = c-sites;
      operations = c-operations;
      targets = c-targets;
      conventional = c-conventional;
      candidates = c-candidates;
      images = c-images;
      t_entries = e-t;
      c_entries = e-c;
      operation-entries = e-operations;
      target_entries = e-targets;
      conventional_entries = e-conventional;
      lattice = f-lattice;
      shift = f-shift;
      positions = f-positions;
      target_translations = f-targets;
    }
