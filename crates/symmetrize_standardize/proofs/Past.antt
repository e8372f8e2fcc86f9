-- Lists past 12: within every limit, with room for the answer; and so no sub-call refuses them.
use Prim.Native.Nat.{ℕ, ◌*◌, ◌≤◌, ◌<◌}
use mathlib.Core.Path.{◌≡◌, refl, sym, ap, ◌∙◌, subst}
use mathlib.Core.Bool.{Bool, false, not, ◌||◌}
use mathlib.Core.List.{List, [], ◌∷◌, map}
use mathlib.Core.Logic.{◌⊎◌, inl, inr, ⊎_elim}
use native.Mathlib.Omega.{arith}
use native.Mathlib.Nat.{le_refl}
use lib.ListN.{length, replicate, length-replicate}
use lib.Dec.{T, ltb, eqb}
use borrow.Author.Tests.{ltb-false, le-ltb, eq-eqb, eqb-false}
use Rattle.definitions.specs.Refusal.{Verdict}
use Rattle.std.specs.Prelude.{Ok}
use Rattle.definitions.specs.Lists.{all, any, Some, Each, up_to}
use Rattle.definitions.specs.Refusal.{Applies, NoneOf, Checked, Past, precedence, upto, orbit_fit}
use Rattle.definitions.specs.Limits.{not_unimodular, bad_copies, copies, too_many_listed, most_copies, shorter_than}
use Rattle.definitions.specs.Snf.{Leaves}
use Rattle.definitions.specs.Permutation.{is_permutation, permutation_at}
use Rattle.definitions.specs.Cell.{site_mapping}
use Rattle.definitions.specs.Lent.{permutations_of, bad_images, unlike}
use Rattle.definitions.specs.Transformation.{rotation_absent, aligned}
use Rattle.definitions.specs.Calls.{centring_conditions, points_conditions, align_conditions, lattice_conditions, symmetrize_conditions}
use Rattle.definitions.specs.SiteCalls.{prepare_all_conditions, LabelArguments, bad_mapping, LabelCells, label_rooms, IsLabelled, HoldsLabels}
use Rattle.definitions.specs.Standardize.{Rooms, site_count, listed_count, listed_rooms, too_short, BadCoordinates, TextLeaves, job_conditions}
use Rattle.definitions.specs.WholeCalls.{Given, job_from}
use Rattle.laws.specs.Tests.{not_so, off, neither, neither_left, neither_right, true_of}
use Rattle.laws.specs.Lists.{all_head, all_tail, all_cons, none_head, none_tail, length-each, length-up_from}
use Rattle.laws.specs.Order.{numbered}
use Rattle.laws.specs.Verdicts.{Passed, found_none, accept, verdict_of}
use Rattle.base_cell.specs.Grouping.{OrbitsLabelled, labelled_past}
use Rattle.symmetrize_standardize_laws.specs.Found.{aligned-all, mapping_pass}
use Rattle.symmetrize_standardize.specs.Stages.{candidates_room, Roomy}
use Rattle.symmetrize_standardize.proofs.General.{told_accepted}
use Rattle.symmetrize_standardize.proofs.Parts.{none_pass}
use Rattle.symmetrize_standardize.proofs.Facts.{Like, Within, site-count, of_texts}
use Rattle.symmetrize_standardize.proofs.Ladder.{conditions, like_lists, within_limits, permutations, table_rooms, aligned_room, aligned_room_lem, candidates_room_lem}
use Rattle.symmetrize_standardize.proofs.Ladder.{align_passed, lattice_passed, listed_is, absent_is}

-- ---- what is known

one : {P : Type 0} → (P → ⊥) → P ⊎ ⊥ → ⊥
one f = ⊎_elim f (λ n. n)

all_unmap : {A B : Type 0} (t : B → Bool) (f : A → B) (l : List A) → T (all t (map f l)) → T (all (λ a. t (f a)) l)
unfolding all
all_unmap t f [] h = tt
all_unmap t f (a ∷ l) h = all_cons (λ a. t (f a)) a l (all_head t (f a) (map f l) h) (all_unmap t f l (all_tail t (f a) (map f l) h))

pub length_mapping : (n m : ℕ) → length (site_mapping n m) ≡ n * m
unfolding site_mapping
length_mapping n m = length-each (λ i. replicate m i) m (λ i. length-replicate m i) (up_to n) ∙ ap (λ k. k * m) (length-up_from 0 n)

module _ (x : Given) (rooms : Rooms) (p : Passed (conditions x rooms) 12) where
  abbrev n : ℕ
  n = length x.positions

  abbrev m : ℕ
  m = copies x.c

  pub known_like : Like x
  unfolding Passed
  known_like = like_lists x rooms (p.0, tt)

  pub known_within : Within x
  unfolding Passed
  known_within = within_limits x rooms (p.0, (p.1.0, (p.1.1.0, (p.1.1.1.0, tt))))

  given_permutations : bad_images (length x.positions) (length x.rotations) x.images ≡ false
  unfolding Passed
  given_permutations = permutations x rooms (p.0, (p.1.0, (p.1.1.0, (p.1.1.1.0, (p.1.1.1.1.0, tt)))))

  dets : (not_unimodular x.t || bad_copies x.c) ≡ false
  unfolding Passed job_from
  dets = off _ p.1.1.1.1.1.1.0

  unimodular : not_unimodular x.t ≡ false
  unimodular = neither_left (not_unimodular x.t) (bad_copies x.c) dets

  copied : bad_copies x.c ≡ false
  copied = neither_right (not_unimodular x.t) (bad_copies x.c) dets

  pub known_regular : 0 < copies x.c
  known_regular =
      let some : copies x.c ≡ 0 → ⊥ = eqb-false _ _ (neither_left (eqb (copies x.c) 0) _ copied) in
      omega arith

  pub known_copies : copies x.c ≤ 64
  known_copies = ltb-false _ _ (neither_right (eqb (copies x.c) 0) _ copied)

  pub known_sites : length x.positions ≤ 256
  known_sites = ltb-false _ _ known_within.sites

  pub known_entries : aligned_room x ≡ length x.rotations_of_targets * length x.positions
  known_entries = aligned_room_lem x known_within

  pub known_candidates : candidates_room (length x.texts) ≡ length x.texts
  known_candidates = candidates_room_lem x known_within

  readable : BadCoordinates x.texts → ⊥
  unfolding Passed
  readable b = p.1.1.1.1.1.0 (subst BadCoordinates (sym (of_texts x known_like)) b)

  kept : (Leaves x.c ⊎ Some TextLeaves x.texts) → ⊥
  unfolding Passed job_from
  kept h = p.1.1.1.1.1.1.1.0 (subst (λ ts. Leaves x.c ⊎ Some TextLeaves ts) (sym (of_texts x known_like)) h)

  few_listed : too_many_listed (n * m) ≡ false
  unfolding Passed
  few_listed = ap too_many_listed (sym (listed_is x known_like)) ∙ off _ p.1.1.1.1.1.1.1.1.0

  pub known_listed : length x.positions * copies x.c ≤ 1024
  known_listed = ltb-false _ _ few_listed

  pub known_roomy : Roomy (length x.positions) (length x.positions * copies x.c) rooms
  unfolding Passed
  known_roomy =
      let short = off (too_short (job_from x) rooms) p.1.1.1.1.1.1.1.1.1.0 in
      let lists : any (shorter_than (n * m)) (listed_rooms rooms) ≡ false =
      ap (λ k. any (shorter_than k) (listed_rooms rooms)) (sym (listed_is x known_like)) ∙ neither_left _ (shorter_than (site_count (job_from x)) rooms.primitive) short in
      let t = shorter_than (n * m) in
      let r₁ = rooms.points ∷ rooms.mapping ∷ rooms.elements ∷ rooms.labels ∷ rooms.multiplicities ∷ rooms.letters ∷ [] in
      let r₂ = rooms.mapping ∷ rooms.elements ∷ rooms.labels ∷ rooms.multiplicities ∷ rooms.letters ∷ [] in
      let r₃ = rooms.elements ∷ rooms.labels ∷ rooms.multiplicities ∷ rooms.letters ∷ [] in
      let r₄ = rooms.labels ∷ rooms.multiplicities ∷ rooms.letters ∷ [] in
      let r₅ = rooms.multiplicities ∷ rooms.letters ∷ [] in
      let r₆ = rooms.letters ∷ [] in
      let l₁ = none_tail t rooms.positions r₁ lists in
      let l₂ = none_tail t rooms.points r₂ l₁ in
      let l₃ = none_tail t rooms.mapping r₃ l₂ in
      let l₄ = none_tail t rooms.elements r₄ l₃ in
      let l₅ = none_tail t rooms.labels r₅ l₄ in
      let l₆ = none_tail t rooms.multiplicities r₆ l₅ in
      record {
        positions = ltb-false _ _ (none_head t rooms.positions r₁ lists);
        points = ltb-false _ _ (none_head t rooms.points r₂ l₁);
        mapping = ltb-false _ _ (none_head t rooms.mapping r₃ l₂);
        elements = ltb-false _ _ (none_head t rooms.elements r₄ l₃);
        labels = ltb-false _ _ (none_head t rooms.labels r₅ l₄);
        multiplicities = ltb-false _ _ (none_head t rooms.multiplicities r₆ l₅);
        letters = ltb-false _ _ (none_head t rooms.letters [] l₆);
        primitive =
            ltb-false _ _
            (ap (λ k. shorter_than k rooms.primitive) (sym (site-count x known_like))
            ∙ neither_right (any (shorter_than (listed_count (job_from x))) (listed_rooms rooms)) _ short);
      }

  pub known_past : Past orbit_fit (job_conditions (job_from x) rooms)
  unfolding Passed NoneOf upto precedence Applies
  known_past = (
    λ a. a,
    (
      one p.1.0,
      (
        one p.1.1.0,
        (
          one p.1.1.1.0,
          (
            one p.1.1.1.1.0,
            (
              one p.1.1.1.1.1.0,
              (
                one p.1.1.1.1.1.1.0,
                (
                  one p.1.1.1.1.1.1.1.0,
                  (
                    one p.1.1.1.1.1.1.1.1.0,
                    (
                      one p.1.1.1.1.1.1.1.1.1.0,
                      (
                        one p.1.1.1.1.1.1.1.1.1.1.0,
                        (
                          one p.1.1.1.1.1.1.1.1.1.1.1.0,
                          tt,
                        ),
                      ),
                    ),
                  ),
                ),
              ),
            ),
          ),
        ),
      ),
    ),
  )

  -- ---- the sub-calls accept

  pub prepared-accepts : (v : Verdict) → Checked (prepare_all_conditions x.texts (table_rooms x)) v → v ≡ (Ok tt)
  unfolding Passed numbered any precedence verdict_of found_none Each
  prepared-accepts v e =
      let cs = prepare_all_conditions x.texts (table_rooms x) in
      let w = length x.texts in
      let t = shorter_than w in
      let few : t (candidates_room w) ≡ false = ap t known_candidates ∙ le-ltb w w (le_refl w) in
      let roomy : any t (table_rooms x) ≡ false =
      none_pass t (table_rooms x) (few, (few, (few, (few, (few, tt))))) in
      told_accepted cs tt v e
      (accept cs (not_so known_within.candidates, (readable, ((λ l. kept (inr l)), (not_so roomy, tt)))) refl)

  pub factors_accept : (v : Verdict) → Checked (centring_conditions x.c) v → v ≡ (Ok tt)
  unfolding Passed numbered any precedence verdict_of found_none
  factors_accept v e =
      told_accepted (centring_conditions x.c) tt v e
      (accept (centring_conditions x.c) (not_so known_within.c_entries, (not_so copied, ((λ l. kept (inl l)), tt))) refl)

  pub points_accept : (v : Verdict) → Checked (points_conditions x.c most_copies) v → v ≡ (Ok tt)
  unfolding Passed numbered any precedence verdict_of found_none
  points_accept v e =
      let cs = points_conditions x.c most_copies in
      told_accepted cs tt v e
      (accept cs (not_so known_within.c_entries, (not_so copied, ((λ l. kept (inl l)), (not_so (le-ltb _ _ known_copies), tt)))) refl)

  pub align_accepts :
      (v : Verdict) → Checked (align_conditions x.t x.rotations x.images (length x.positions) x.rotations_of_targets (aligned_room x)) v →
      v ≡ (Ok tt)
  unfolding Passed numbered any precedence verdict_of found_none
  align_accepts v e =
      let cs = align_conditions x.t x.rotations x.images (length x.positions) x.rotations_of_targets (aligned_room x) in
      let q = align_passed x known_within unimodular given_permutations in
      let present : T (rotation_absent x.t x.rotations x.rotations_of_targets) → ⊥ =
      λ h. p.1.1.1.1.1.1.1.1.1.1.0 (subst T (sym (absent_is x known_like)) h) in
      told_accepted cs tt v e (accept cs (q.0, (q.1.0, (q.1.1.0, (q.1.1.1.0, (q.1.1.1.1.0, (present, tt)))))) refl)

  pub lattice-accepts : (v : Verdict) → Checked (lattice_conditions x.lattice x.t x.c x.conventional) v → v ≡ (Ok tt)
  unfolding Passed numbered any precedence verdict_of found_none job_from
  lattice-accepts v e =
      let cs = lattice_conditions x.lattice x.t x.c x.conventional in
      let q = lattice_passed x known_within unimodular copied in
      told_accepted cs tt v e
      (accept cs (q.0, (q.1.0, (q.1.1.0, (q.1.1.1.0, (p.1.1.1.1.1.1.1.1.1.1.1.0, tt))))) refl)

  -- the step that labels leaves an answer, with so many images
  pub labels_left :
      (images : List ℕ) → length images ≡ length x.rotations_of_targets * length x.positions → (entry exit : LabelCells) →
      length x.positions * copies x.c ≤ length entry.labels → length x.positions * copies x.c ≤ length entry.multiplicities →
      let x' : LabelArguments =
      record {
        sites = length x.positions;
        count = length x.rotations_of_targets;
        images = images;
        mapping = site_mapping (length x.positions) (copies x.c);
      } in
      OrbitsLabelled x' entry exit → (a : LabelCells) × IsLabelled x' a × HoldsLabels entry exit a
  unfolding Each
  labels_left images long entry exit a b h =
      let x' : LabelArguments = record { sites = n; count = length x.rotations_of_targets; images = images; mapping = site_mapping n m } in
      let w = known_within in
      let like-images : unlike (length images) (length x.rotations_of_targets * length x.positions) ≡ false = ap not (eq-eqb _ _ long) in
      let mapped : bad_mapping n (site_mapping n m) ≡ false = ap not (true_of (all (λ i. ltb i n) (site_mapping n m)) (mapping_pass n m)) in
      let few : too_many_listed (length (site_mapping n m)) ≡ false = ap too_many_listed (length_mapping n m) ∙ few_listed in
      let t = shorter_than (length (site_mapping n m)) in
      let short₁ : t (length entry.labels) ≡ false = ap (λ k. shorter_than k (length entry.labels)) (length_mapping n m) ∙ le-ltb _ _ a in
      let short₂ : t (length entry.multiplicities) ≡ false = ap (λ k. shorter_than k (length entry.multiplicities)) (length_mapping n m) ∙ le-ltb _ _ b in
      labelled_past x' entry exit (neither (neither w.sites w.targets) like-images) mapped few
      (none_pass t (label_rooms entry) (short₁, (short₂, tt))) h

  -- images that are the aligned permutations, one for each target
  module _ (images : List ℕ) (long : length images ≡ length x.rotations_of_targets * length x.positions) (are : permutations_of (length x.positions) (length x.rotations_of_targets) images ≡ aligned (job_from x)) where
    permuted : bad_images (length x.positions) (length x.rotations_of_targets) images ≡ false
    permuted =
        let t : ℕ → Bool = λ o. is_permutation n (permutation_at n images o) in
        ap not
        (true_of (all t (up_to (length x.rotations_of_targets)))
        (all_unmap (is_permutation n) (permutation_at n images) (up_to (length x.rotations_of_targets))
        (subst (λ ps. T (all (is_permutation n) ps)) (sym are)
        (subst (λ k. T (all (is_permutation k) (aligned (job_from x)))) (site-count x known_like)
        (aligned-all (job_from x) rooms known_past)))))

    pub positions_accept :
        (v : Verdict) (room : ℕ) → length x.positions ≤ room →
        Checked (symmetrize_conditions x.t x.shift x.positions x.rotations_of_targets x.translations_of_targets images room) v → v ≡ (Ok tt)
    unfolding Passed numbered any precedence verdict_of found_none
    positions_accept v room h e =
        let cs = symmetrize_conditions x.t x.shift x.positions x.rotations_of_targets x.translations_of_targets images room in
        let w = known_within in
        let like-translations : unlike (length x.translations_of_targets) (length x.rotations_of_targets) ≡ false = ap not (eq-eqb _ _ known_like.targets) in
        let like-images : unlike (length images) (length x.rotations_of_targets * length x.positions) ≡ false = ap not (eq-eqb _ _ long) in
        told_accepted cs tt v e
        (accept cs (
          not_so (neither (neither (neither w.sites w.targets) like-translations) like-images),
          (
            not_so (neither w.t_entries w.target_entries),
            (
              not_so (neither (neither w.shift w.positions) w.target_translations),
              (not_so permuted, (not_so unimodular, (not_so (le-ltb _ _ h), tt))),
            ),
          ),
        ) refl)
