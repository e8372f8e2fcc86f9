-- The work on a job that is past the refusals before 13: the permutations are aligned, the candidates have spaces and
-- the sites have
-- labels.
use Prim.Native.Nat.{ℕ, zero, suc, ◌<◌}
use Rattle.std.specs.Prelude.{◌≡◌, Bool, ◌⊎◌, length, replicate, ltb, eqb}
use Rattle.std.proofs.Math.Path.{refl}
use Rattle.std.proofs.Common.{sym, subst, ◌∙◌, inl, inr, ⊎_elim, lt→ltb}
use Rattle.std.proofs.Math.Bool.{true, false}
use mathlib.Core.List.Memᴰ
use mathlib.Core.List.{List, [], ◌∷◌, ◌++◌, reverse, reverse_aux, Memᴰ}
use Rattle.std.proofs.Math.Option.{Option, none, some, none-ne-some, some-injective}
use native.Mathlib.Omega.{arith}
use Rattle.std.proofs.lemmas.List.{length-map}
use Rattle.std.proofs.Math.Dec.{T}
use borrow.Author.Tests.{eqb-false}
use Rattle.definitions.specs.Lists.{all, any, first, each, up_to}
use Rattle.definitions.specs.Refusal.{upto, precedence, Past, orbit_fit}
use Rattle.definitions.specs.Limits.{copies, bad_copies, not_unimodular}
use Rattle.definitions.specs.Matrix.{Matrix}
use Rattle.definitions.specs.Snf.{Run}
use Rattle.definitions.specs.Job.{Job}
use Rattle.definitions.specs.Permutation.{is_permutation, permutation_at}
use Rattle.definitions.specs.Transformation.{operation_for, rotation_absent, target_absent, rotations_of, is_none, permutation_or, aligned_to, transform_position, transformed, aligned}
use Rattle.definitions.specs.Symmetrization.{symmetrized_at, symmetrized, primitive_positions}
use Rattle.definitions.specs.Cell.{site_mapping}
use Rattle.definitions.specs.Wyckoff.{texts_of, Found}
use Rattle.definitions.specs.Standardize.{site_count, BadCoordinates, Rooms, job_conditions, lettering_of, Work}
use Rattle.laws.specs.Tests.{passed, off, neither_left, neither_right}
use Rattle.laws.specs.Lists.{all_cons, all_head, all_tail, all_mem, from_up_to, in_up_to, length-up_from}
use Rattle.laws.specs.Order.{FailBefore, past_before}
use Rattle.base_cell.specs.Maps.{Permutations, permutations-all}
use Rattle.base_cell.specs.Labels.{labels_by}
use Rattle.base_cell.proofs.ClassLabels.{labels_computed}
use Rattle.base_cell.specs.Classes.{classes}
use Rattle.math_snf_laws.specs.Runs.{every}
use Rattle.symmetrize_wyckoff.specs.Spaces.{spaces_found}

-- a job's primitive positions are one a site
pub positions_count : (j : Job) → length (primitive_positions j) ≡ site_count j
unfolding primitive_positions symmetrized transformed
positions_count j =
    length-map (up_to (length (transformed j))) (symmetrized_at (transformed j) j.targets (aligned j))
    ∙ length-up_from 0 (length (transformed j))
    ∙ length-map j.sites (λ s. transform_position j.t j.shift s.position)

-- ---- permutations

first_mem : {A : Type 0} (t : A → Bool) (l : List A) (x : A) → first t l ≡ some x → Memᴰ x l
unfolding first
first_mem t [] x e = absurd (none-ne-some x e)
first_mem {A} t (a ∷ l) x e = by (t a) e (first_mem t l x)
  where
    by : (b : Bool) → elim b as (λ (u : Bool). Option A) [ true ↦ some a | false ↦ first t l ] ≡ some x → (first t l ≡ some x → Memᴰ x l) → Memᴰ x (a ∷ l)
    by true e rest = Memᴰ.head (sym (some-injective a x e))
    by false e rest = Memᴰ.tail (rest e)

reversed_mem : {A : Type 0} (l r : List A) (x : A) → Memᴰ x (reverse_aux l r) → Memᴰ x l ⊎ Memᴰ x r
reversed_mem [] r x m = inr m
reversed_mem {A} (a ∷ l) r x m = ⊎_elim (λ i. inl (Memᴰ.tail i)) (λ i. back (Memᴰ.cases_cons i)) (reversed_mem l (a ∷ r) x m)
  where
    back : (x ≡ a) ⊎ Memᴰ x r → Memᴰ x (a ∷ l) ⊎ Memᴰ x r
    back (inl e) = inl (Memᴰ.head e)
    back (inr i) = inr i

module _ (n : ℕ) (t : Matrix) (rs : List Matrix) (images : List ℕ) where
  operation_below : (g : Matrix) (k : ℕ) → operation_for t rs g ≡ some k → k < length rs
  unfolding operation_for
  operation_below g k e =
      from_up_to (length rs) k
      (⊎_elim (λ m. m) (λ m. absurd (Memᴰ.not-nil m))
      (reversed_mem (up_to (length rs)) [] k (first_mem _ (reverse (up_to (length rs))) k e)))

  -- each target has an operation, and each operation's images are a permutation
  aligned-pass :
      ((k : ℕ) → k < length rs → T (is_permutation n (permutation_at n images k))) → (gs : List Matrix) → (T (rotation_absent t rs gs) → ⊥) →
      T (all (is_permutation n) (aligned_to n t rs images gs))
  unfolding all any rotation_absent aligned_to
  aligned-pass perm [] h = tt
  aligned-pass perm (g ∷ gs) h = by (operation_for t rs g) refl h (aligned-pass perm gs)
    where
      by :
          (o : Option ℕ) → operation_for t rs g ≡ o → (T (elim (is_none o) [ true ↦ true | false ↦ rotation_absent t rs gs ]) → ⊥) →
          ((T (rotation_absent t rs gs) → ⊥) → T (all (is_permutation n) (aligned_to n t rs images gs))) →
          T (all (is_permutation n) (permutation_or n images o ∷ aligned_to n t rs images gs))
      by none e h rest = absurd (h tt)
      by (some k) e h rest = all_cons (is_permutation n) (permutation_at n images k) (aligned_to n t rs images gs) (perm k (operation_below g k e)) (rest h)

-- ---- the mapping

module _ {A : Type 0} (t : A → Bool) where
  all_append : (l k : List A) → T (all t l) → T (all t k) → T (all t (l ++ k))
  all_append [] k h g = g
  all_append (a ∷ l) k h g = all_cons t a (l ++ k) (all_head t a l h) (all_append l k (all_tail t a l h) g)

  all_replicate : (n : ℕ) (a : A) → T (t a) → T (all t (replicate n a))
  unfolding all
  all_replicate zero a h = tt
  all_replicate (suc n) a h = all_cons t a (replicate n a) h (all_replicate n a h)

  all-each : {B : Type 0} (f : B → List A) (l : List B) → ((b : B) → Memᴰ b l → T (all t (f b))) → T (all t (each f l))
  unfolding all each
  all-each f [] h = tt
  all-each f (b ∷ l) h = all_append (f b) (each f l) (h b (Memᴰ.head refl)) (all-each f l (λ c m. h c (Memᴰ.tail m)))

pub mapping_pass : (n m : ℕ) → T (all (λ i. ltb i n) (site_mapping n m))
unfolding site_mapping
mapping_pass n m = all-each (λ i. ltb i n) (λ i. replicate m i) (up_to n) (λ i h. all_replicate (λ i. ltb i n) m i (lt→ltb i n (from_up_to n i h)))

-- ---- past the refusals before 13

module _ (j : Job) (rooms : Rooms) (past : Past orbit_fit (job_conditions j rooms)) where
  before : FailBefore orbit_fit (job_conditions j rooms)
  before = past_before orbit_fit (job_conditions j rooms) past

  -- operation k's images are a permutation
  abbrev permutes : ℕ → Bool
  permutes k = is_permutation (site_count j) (permutation_at (site_count j) j.images k)

  images-pass : T (all permutes (up_to (length j.operations)))
  unfolding FailBefore any upto precedence
  images-pass = passed (all permutes (up_to (length j.operations))) (before.1.1.1.0 tt)

  readable : BadCoordinates (texts_of j.candidates) → ⊥
  unfolding FailBefore any upto precedence
  readable = before.1.1.1.1.0 tt

  targets_present : T (target_absent j) → ⊥
  unfolding FailBefore any upto precedence
  targets_present = before.1.1.1.1.1.1.1.1.1.0 tt

  -- "of C zero" is refused
  pub copies_positive : 0 < copies j.c
  unfolding FailBefore any upto precedence
  copies_positive =
      let bad = neither_right (not_unimodular j.t) (bad_copies j.c) (off _ (before.1.1.1.1.1.0 tt)) in
      let some : copies j.c ≡ 0 → ⊥ = eqb-false _ _ (neither_left (eqb (copies j.c) 0) _ bad) in
      omega arith

  pub aligned-all : T (all (is_permutation (site_count j)) (aligned j))
  aligned-all = aligned-pass (site_count j) j.t (rotations_of j.operations) j.images perm (rotations_of j.targets) targets_present
    where
      perm : (k : ℕ) → k < length (rotations_of j.operations) → T (permutes k)
      perm k h =
          let g : k < length j.operations = subst (λ n. k < n) (length-map j.operations (λ o. o.rotation)) h in
          all_mem permutes (up_to (length j.operations)) k images-pass (in_up_to (length j.operations) k g)

  pub aligned-permutations : Permutations (site_count j) (aligned j)
  aligned-permutations = permutations-all (site_count j) (aligned j) aligned-all

  -- what is found of the design, with any run of C
  pub design_found : (r : Run j.c) → Found (lettering_of j r)
  design_found r =
      let s = spaces_found (texts_of j.candidates) readable in
      record {
        spaces = s.0;
        are_spaces = s.1;
        labels = labels_by (classes (site_count j) (aligned j)) (site_mapping (site_count j) (copies j.c));
        are_labels = labels_computed (site_count j) (aligned j) (site_mapping (site_count j) (copies j.c)) aligned-all (mapping_pass (site_count j) (copies j.c));
      }

  pub work_found : Work j
  work_found = record { run = every j.c; found = design_found (every j.c) }
