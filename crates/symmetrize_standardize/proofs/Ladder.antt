-- The whole call's verdict before 13: by its own tests up to 4, then by what its sub-calls told.
use Prim.Native.Nat.{ℕ, ◌*◌, ◌≤◌}
use mathlib.Core.Path.{◌≡◌, refl, sym, ap, ◌∙◌, subst}
use mathlib.Core.Bool.{Bool, true, false, ◌||◌, cond}
use mathlib.Core.List.{List, [], ◌∷◌}
use mathlib.Core.Logic.{◌⊎◌, inl, inr, ⊎_elim}
use native.Mathlib.Omega.{arith}
use native.Mathlib.Nat.{le_refl}
use lib.ListN.{length}
use lib.Dec.{T}
use borrow.Author.Tests.{ltb-false, le-ltb}
use Rattle.definitions.specs.Refusal.{Verdict}
use Rattle.std.specs.Prelude.{Err, Ok}
use Rattle.definitions.specs.declared.Refusal.TheVariants.{Counts, MatrixEntry, FloatRange, SiteImage, Coordinates, Determinant, Diagonalisation}
use Rattle.definitions.specs.declared.Refusal.TheVariants.{ListedSites, Buffer, TargetRotation, Lattice}
use Rattle.definitions.specs.Lists.{any, Some}
use Rattle.definitions.specs.Refusal.{Condition, Applies, Checked, precedence}
use Rattle.definitions.specs.Limits.{too_many_candidates, not_unimodular, bad_copies, copies, too_many_listed, shorter_than}
use Rattle.definitions.specs.Lent.{bad_images}
use Rattle.definitions.specs.Snf.{Leaves}
use Rattle.definitions.specs.Symmetrization.{lattice_fails, conventional_basis}
use Rattle.definitions.specs.Calls.{centring_conditions, align_conditions, lattice_conditions}
use Rattle.definitions.specs.SiteCalls.{prepare_all_conditions}
use Rattle.definitions.specs.Transformation.{rotation_absent, target_absent}
use Rattle.definitions.specs.Standardize.{Rooms, site_count, listed_count, listed_rooms, too_short, BadCoordinates, TextLeaves}
use Rattle.definitions.specs.WholeCalls.{Given, job_from, unlike_lists, lists_conditions}
use Rattle.laws.specs.Tests.{so, not_so, off, neither, neither_left, neither_right, or_left, or_right, true_of}
use Rattle.laws.specs.Order.{numbered}
use Rattle.laws.specs.Verdicts.{HoldsAt, Passed, found_at_lem, refuse, verdict_of, verdict_in}
use Rattle.symmetrize_standardize.specs.Stages.{refused_with, list_counts, list_entries, list_floats, given_verdict}
use Rattle.symmetrize_standardize.specs.declared.verdicts.Told.{Told}
use Rattle.symmetrize_standardize.specs.Stages.{candidates_room, images_room, lacks_room, work_verdict, whole_verdict}
use Rattle.symmetrize_standardize.proofs.General.{Until, rung, until_then, told_applies, told_first}
use Rattle.symmetrize_standardize.proofs.Facts.{Like, like, site-count, of_operations, of_targets, of_texts}
use Rattle.symmetrize_standardize.proofs.Facts.{same-counts, same_entries, same-floats, same-images, Within, within}

-- ---- 2 to 4

module _ (x : Given) (rooms : Rooms) where
  abbrev pub conditions : List Condition
  conditions = lists_conditions x rooms

  -- what lists past 4 are
  pub like_lists : Passed conditions 1 → Like x
  unfolding Passed
  like_lists p = like x (off _ p.0)

  pub within_limits : Passed conditions 4 → Within x
  unfolding Passed
  within_limits p =
      let k = like x (off _ p.0) in
      within x (sym (same-counts x k) ∙ off _ p.1.0) (sym (same_entries x k) ∙ off _ p.1.1.0)
      (sym (same-floats x k) ∙ off _ p.1.1.1.0)

  -- and past 5
  pub permutations : Passed conditions 5 → bad_images (length x.positions) (length x.rotations) x.images ≡ false
  unfolding Passed
  permutations p = sym (same-images x (like x (off _ p.0))) ∙ off _ p.1.1.1.1.0

  pub given_until : Until conditions 4 (given_verdict x)
  unfolding Passed HoldsAt verdict_of found_at_lem
  given_until =
      rung conditions 0 4 Counts (unlike_lists x) _ tt (λ h. h) (λ h. h) (λ p h. refl) (λ p₁.
      let k = like x (off _ p₁.0) in
      rung conditions 1 4 Counts (list_counts x) _ p₁ (subst T (sym (same-counts x k))) (subst T (same-counts x k)) (λ p h. refl) (λ p₂.
      rung conditions 2 4 MatrixEntry (list_entries x) _ p₂ (subst T (sym (same_entries x k))) (subst T (same_entries x k)) (λ p h. refl) (λ p₃.
      rung conditions 3 4 FloatRange (list_floats x) (Ok tt) p₃ (subst T (sym (same-floats x k))) (subst T (same-floats x k)) (λ p h. refl) (λ p₄. p₄))))

-- ---- the sub-calls

-- room for every candidate in five tables, and for every permutation
abbrev pub table_rooms : Given → List ℕ
table_rooms x =
    let r = candidates_room (length x.texts) in
    r ∷ r ∷ r ∷ r ∷ r ∷ []

abbrev pub aligned_room : Given → ℕ
aligned_room x = images_room (length x.positions) (length x.rotations_of_targets)

-- which is all that there are, within the limits
pub aligned_room_lem : (x : Given) → Within x → aligned_room x ≡ length x.rotations_of_targets * length x.positions
aligned_room_lem x w = λ i. cond (w.sites i) 0 (cond (w.targets i) 0 (length x.rotations_of_targets * length x.positions))

pub few_candidates : (w : ℕ) → candidates_room w ≤ 64
few_candidates w = by (too_many_candidates w) refl
  where
    by : (b : Bool) → too_many_candidates w ≡ b → cond b 0 w ≤ 64
    by true e = let h : 0 ≤ 64 = omega arith in h
    by false e = ltb-false _ _ e

pub candidates_room_lem : (x : Given) → Within x → candidates_room (length x.texts) ≡ length x.texts
candidates_room_lem x w = λ i. cond (w.candidates i) 0 (length x.texts)

-- their verdicts are right
pub record Right (x : Given) (s : Told) : Type 0 where
  pub prepared : Checked (prepare_all_conditions x.texts (table_rooms x)) (verdict_in s.prepared)
  pub factors : Checked (centring_conditions x.c) (verdict_in s.factors)
  pub aligned :
      Checked (align_conditions x.t x.rotations x.images (length x.positions) x.rotations_of_targets (aligned_room x))
      (verdict_in s.aligned)
  pub lattice : Checked (lattice_conditions x.lattice x.t x.c x.conventional) (verdict_in s.lattice)

-- what they are past
module _ (x : Given) (w : Within x) where
  pub prepare_counts : Passed (prepare_all_conditions x.texts (table_rooms x)) 1
  unfolding Passed
  prepare_counts = (not_so w.candidates, tt)

  pub centring-entries : Passed (centring_conditions x.c) 1
  unfolding Passed
  centring-entries = (not_so w.c_entries, tt)

  pub align_limits :
      Passed (align_conditions x.t x.rotations x.images (length x.positions) x.rotations_of_targets (aligned_room x)) 2
  unfolding Passed
  align_limits = (
    not_so (neither (neither (neither w.sites w.operations) w.images) w.targets),
    (not_so (neither (neither w.t_entries w.operation-entries) w.target_entries), tt),
  )

  module _ (unimodular : not_unimodular x.t ≡ false) where
    pub align_passed :
        bad_images (length x.positions) (length x.rotations) x.images ≡ false →
        Passed (align_conditions x.t x.rotations x.images (length x.positions) x.rotations_of_targets (aligned_room x)) 5
    unfolding Passed
    align_passed permuted =
        let q = align_limits in
        let entries = length x.rotations_of_targets * length x.positions in
        let fits : shorter_than entries (aligned_room x) ≡ false = ap (shorter_than entries) (aligned_room_lem x w) ∙ le-ltb entries entries (le_refl entries) in
        (q.0, (q.1.0, (not_so permuted, (not_so unimodular, (not_so fits, tt)))))

    pub lattice_passed : bad_copies x.c ≡ false → Passed (lattice_conditions x.lattice x.t x.c x.conventional) 4
    unfolding Passed
    lattice_passed copied = (
      not_so w.conventional,
      (
        not_so (neither (neither w.t_entries w.c_entries) w.conventional_entries),
        (not_so w.lattice, (not_so (neither unimodular copied), tt)),
      ),
    )

-- ---- 5 and 11 by the aligned permutations, 6 and 8 by the prepared candidates, 8 by C, 12 by the lattice

module _ (x : Given) (s : Told) (r : Right x s) (w : Within x) where
  pub five : T (refused_with SiteImage s.aligned) → T (bad_images (length x.positions) (length x.rotations) x.images)
  unfolding Applies
  five h =
      ⊎_elim (λ b. b) (λ n. absurd n)
      (told_applies (align_conditions x.t x.rotations x.images (length x.positions) x.rotations_of_targets (aligned_room x)) s.aligned r.aligned SiteImage h)

  pub from_five : T (bad_images (length x.positions) (length x.rotations) x.images) → T (refused_with SiteImage s.aligned)
  unfolding HoldsAt verdict_of found_at_lem numbered any precedence
  from_five h =
      let cs = align_conditions x.t x.rotations x.images (length x.positions) x.rotations_of_targets (aligned_room x) in
      told_first cs tt s.aligned r.aligned SiteImage
      (refuse cs 2 (align_limits x w) h (Err SiteImage) refl)

  pub six : T (refused_with Coordinates s.prepared) → BadCoordinates x.texts
  unfolding Applies
  six h = ⊎_elim (λ b. b) (λ n. absurd n) (told_applies (prepare_all_conditions x.texts (table_rooms x)) s.prepared r.prepared Coordinates h)

  pub from_six : BadCoordinates x.texts → T (refused_with Coordinates s.prepared)
  unfolding HoldsAt verdict_of found_at_lem numbered any precedence
  from_six b =
      told_first (prepare_all_conditions x.texts (table_rooms x)) tt s.prepared r.prepared Coordinates
      (refuse (prepare_all_conditions x.texts (table_rooms x)) 1 (prepare_counts x w) b (Err Coordinates) refl)

  pub eight : T (refused_with Diagonalisation s.factors || refused_with Diagonalisation s.prepared) → Leaves x.c ⊎ Some TextLeaves x.texts
  unfolding Applies
  eight h = by (refused_with Diagonalisation s.factors) refl h
    where
      of_c : T (refused_with Diagonalisation s.factors) → Leaves x.c
      of_c h = ⊎_elim (λ b. b) (λ n. absurd n) (told_applies (centring_conditions x.c) s.factors r.factors Diagonalisation h)

      of_texts' : T (refused_with Diagonalisation s.prepared) → Some TextLeaves x.texts
      of_texts' h = ⊎_elim (λ b. b) (λ n. absurd n) (told_applies (prepare_all_conditions x.texts (table_rooms x)) s.prepared r.prepared Diagonalisation h)

      by : (b : Bool) → refused_with Diagonalisation s.factors ≡ b → T (b || refused_with Diagonalisation s.prepared) → Leaves x.c ⊎ Some TextLeaves x.texts
      by true e h = inl (of_c (so e))
      by false e h = inr (of_texts' h)

  pub from_eight :
      (BadCoordinates x.texts → ⊥) → bad_copies x.c ≡ false → Leaves x.c ⊎ Some TextLeaves x.texts →
      T (refused_with Diagonalisation s.factors || refused_with Diagonalisation s.prepared)
  unfolding Passed HoldsAt verdict_of found_at_lem numbered any precedence
  from_eight readable copied =
      ⊎_elim
      (λ l. so (or_left {a = refused_with Diagonalisation s.factors} (refused_with Diagonalisation s.prepared) (true_of (refused_with Diagonalisation s.factors) (of_c l))))
      (λ l. so (or_right (refused_with Diagonalisation s.factors) {b = refused_with Diagonalisation s.prepared} (true_of (refused_with Diagonalisation s.prepared) (of_texts' l))))
    where
      of_c : Leaves x.c → T (refused_with Diagonalisation s.factors)
      of_c l =
          told_first (centring_conditions x.c) tt s.factors r.factors Diagonalisation
          (refuse (centring_conditions x.c) 2 ((centring-entries x w).0, (not_so copied, tt)) l (Err Diagonalisation) refl)

      of_texts' : Some TextLeaves x.texts → T (refused_with Diagonalisation s.prepared)
      of_texts' l =
          told_first (prepare_all_conditions x.texts (table_rooms x)) tt s.prepared r.prepared Diagonalisation
          (refuse (prepare_all_conditions x.texts (table_rooms x)) 2 ((prepare_counts x w).0, (readable, tt)) l (Err Diagonalisation) refl)

  pub eleven : T (refused_with TargetRotation s.aligned) → T (rotation_absent x.t x.rotations x.rotations_of_targets)
  unfolding Applies
  eleven h =
      ⊎_elim (λ b. b) (λ n. absurd n)
      (told_applies (align_conditions x.t x.rotations x.images (length x.positions) x.rotations_of_targets (aligned_room x)) s.aligned r.aligned TargetRotation h)

  pub from_eleven :
      bad_images (length x.positions) (length x.rotations) x.images ≡ false → not_unimodular x.t ≡ false →
      T (rotation_absent x.t x.rotations x.rotations_of_targets) → T (refused_with TargetRotation s.aligned)
  unfolding HoldsAt verdict_of found_at_lem numbered any precedence
  from_eleven permuted unimodular h =
      let cs = align_conditions x.t x.rotations x.images (length x.positions) x.rotations_of_targets (aligned_room x) in
      told_first cs tt s.aligned r.aligned TargetRotation
      (refuse cs 5 (align_passed x w unimodular permuted) h (Err TargetRotation) refl)

  pub twelve : T (refused_with Lattice s.lattice) → T (lattice_fails (conventional_basis x.lattice x.t x.c) x.conventional)
  unfolding Applies
  twelve h =
      ⊎_elim (λ b. b) (λ n. absurd n)
      (told_applies (lattice_conditions x.lattice x.t x.c x.conventional) s.lattice r.lattice Lattice h)

  pub from_twelve :
      not_unimodular x.t ≡ false → bad_copies x.c ≡ false →
      T (lattice_fails (conventional_basis x.lattice x.t x.c) x.conventional) → T (refused_with Lattice s.lattice)
  unfolding HoldsAt verdict_of found_at_lem numbered any precedence
  from_twelve unimodular copied h =
      let cs = lattice_conditions x.lattice x.t x.c x.conventional in
      told_first cs tt s.lattice r.lattice Lattice
      (refuse cs 4 (lattice_passed x w unimodular copied) h (Err Lattice) refl)

-- ---- 9 and 10

module _ (x : Given) (k : Like x) where
  pub listed_is : listed_count (job_from x) ≡ length x.positions * copies x.c
  unfolding job_from
  listed_is = ap (λ n. n * copies x.c) (site-count x k)

  pub short_is :
      (rooms : Rooms) →
      too_short (job_from x) rooms
      ≡ lacks_room rooms (length x.positions * copies x.c) (length x.positions)
  short_is rooms =
      ap (λ n. any (shorter_than n) (listed_rooms rooms) || shorter_than (site_count (job_from x)) rooms.primitive) listed_is
      ∙ ap (λ n. any (shorter_than (length x.positions * copies x.c)) (listed_rooms rooms) || shorter_than n rooms.primitive) (site-count x k)

  pub absent_is : target_absent (job_from x) ≡ rotation_absent x.t x.rotations x.rotations_of_targets
  unfolding job_from
  absent_is = λ i. rotation_absent x.t (of_operations x k i) (of_targets x k i)

-- ---- 2 to 12

module _ (x : Given) (rooms : Rooms) (s : Told) (r : Right x s) where
  abbrev work : Verdict
  work = work_verdict x.t x.c (length x.positions) rooms s

  work_until : Passed (conditions x rooms) 4 → Until (conditions x rooms) 12 work
  unfolding Passed HoldsAt verdict_of found_at_lem job_from
  work_until p₄ =
      let cs = conditions x rooms in
      let k = like_lists x rooms (p₄.0, tt) in
      let w = within_limits x rooms p₄ in
      let texts = of_texts x k in
      rung cs 4 12 SiteImage (refused_with SiteImage s.aligned) _ p₄
      (λ h. subst T (sym (same-images x k)) (five x s r w h)) (λ h. from_five x s r w (subst T (same-images x k) h)) (λ p h. refl) (λ p₅.
      let permuted = permutations x rooms p₅ in
      rung cs 5 12 Coordinates (refused_with Coordinates s.prepared) _ p₅
      (λ h. subst BadCoordinates (sym texts) (six x s r w h)) (λ h. from_six x s r w (subst BadCoordinates texts h)) (λ p h. refl) (λ p₆.
      rung cs 6 12 Determinant (not_unimodular x.t || bad_copies x.c) _ p₆ (λ h. h) (λ h. h) (λ p h. refl) (λ p₇.
      let dets = off _ p₇.1.1.1.1.1.1.0 in
      let unimodular = neither_left (not_unimodular x.t) (bad_copies x.c) dets in
      let copied = neither_right (not_unimodular x.t) (bad_copies x.c) dets in
      rung cs 7 12 Diagonalisation (refused_with Diagonalisation s.factors || refused_with Diagonalisation s.prepared) _ p₇
      (λ h. subst (λ ts. Leaves x.c ⊎ Some TextLeaves ts) (sym texts) (eight x s r w h))
      (λ h. from_eight x s r w (λ b. p₇.1.1.1.1.1.0 (subst BadCoordinates (sym texts) b)) copied (subst (λ ts. Leaves x.c ⊎ Some TextLeaves ts) texts h))
      (λ p h. refl) (λ p₈.
      rung cs 8 12 ListedSites (too_many_listed (length x.positions * copies x.c)) _ p₈
      (subst (λ n. T (too_many_listed n)) (sym (listed_is x k))) (subst (λ n. T (too_many_listed n)) (listed_is x k)) (λ p h. refl) (λ p₉.
      rung cs 9 12 Buffer
      (lacks_room rooms (length x.positions * copies x.c) (length x.positions)) _ p₉
      (subst T (sym (short_is x k rooms))) (subst T (short_is x k rooms)) (λ p h. refl) (λ p₁₀.
      rung cs 10 12 TargetRotation (refused_with TargetRotation s.aligned) _ p₁₀
      (λ h. subst T (sym (absent_is x k)) (eleven x s r w h)) (λ h. from_eleven x s r w permuted unimodular (subst T (absent_is x k) h)) (λ p h. refl) (λ p₁₁.
      rung cs 11 12 Lattice (refused_with Lattice s.lattice) (Ok tt) p₁₁
      (twelve x s r w) (from_twelve x s r w unimodular copied) (λ p h. refl) (λ p₁₂. p₁₂))))))))

  -- Past 12, or refused with the lowest number that applies.
  pub whole_until : Until (conditions x rooms) 12 (whole_verdict x rooms s)
  whole_until = until_then (conditions x rooms) 4 12 (given_verdict x) work (given_until x rooms) work_until
