-- From what the steps found and wrote to the promise of the call.
use Prim.Native.Nat.{ℕ, zero, suc, ◌+◌}
use mathlib.Core.Path.{◌≡◌, refl, sym, ap, subst, ◌∙◌}
use mathlib.Core.Bool.{true, false}
use mathlib.Core.List.{List, ◌∷◌, map}
use mathlib.Core.Logic.{⊎_elim}
use native.Mathlib.Omega.{arith}
use lib.Dec.{T}
use Rattle.definitions.specs.declared.JobCounts.{JobCounts}
use Rattle.std.specs.Prelude.{Result, Ok, Err}
use Rattle.definitions.specs.declared.Refusal.{Refusal}
use Rattle.definitions.specs.declared.Refusal.TheVariants.{JobBytes, Buffer}
use Rattle.definitions.specs.Refusal.{Condition, accepted, refused, Checked, number}
use Rattle.definitions.specs.Job.{Parts, IsJob, NoJob, float, position_of, rows_of, job_of}
use Rattle.definitions.specs.Lent.{cells_of}
use Rattle.definitions.specs.WholeCalls.{Given, given_of, HoldsGiven, nothing_given, too_short_for, read_conditions, ReadPromise}
use Rattle.laws.specs.Tests.{so, not_so}
use Rattle.laws.specs.Verdicts.{HoldsAt, Passed, found_at_lem, found_none, refuse, accept, verdict_of, accepted_with, refused_with_lem}
use Rattle.job_laws.proofs.Decode.{job_unique}
use Rattle.job.specs.Places.{items, run, parts_at, word_at, integer_at, floats_at, entries_at, text_at, lattice_at, cells_from, matrix_from, site_at, operation_at, candidate_at, sites_from, operations_from, images_from, targets_from, rotations_from, candidates_from, symprec_from}
use Rattle.job.specs.Counted.{JobOf, Counted, counts_are, not_no_job}
use Rattle.definitions.specs.WholeCalls.{count_conditions, CountPromise}
use Rattle.job.specs.Given.{given_at, rooms_of, short, Settled, readable, counted_given, ReadCounted}
use Rattle.job.proofs.Items.{items_from}
use Rattle.job.proofs.Words.{word8_is}

-- ---- the parts' lists, by places

-- one operand of each command, o bytes behind its beginning
pub run-map :
    {A B : Type 0} (f : List ℕ → ℕ → A) (g : A → B) (F : ℕ → B) (bs : List ℕ) (w o : ℕ) →
    ((p : ℕ) → g (f bs (p + 1)) ≡ F (p + o)) → (at n : ℕ) → map g (run f bs w at n) ≡ items F w (at + o) n
unfolding items
run-map f g F bs w o same at zero = refl
run-map f g F bs w o same at (suc n) =
    let shift : at + w + o ≡ at + o + w = omega arith in
    let rest = run-map f g F bs w o same (at + w) n ∙ ap (λ (p : ℕ). items F w p n) shift in
    λ i. same at i ∷ rest i

images_are : (bs : List ℕ) (at n : ℕ) → run (word_at 1) bs 2 at n ≡ items (word_at 1 bs) 2 (at + 1) n
images_are bs at n = items_from (word_at 1 bs) 2 at 1 n

-- the lists that the parts are stand at these places
pub given_is : (bs : List ℕ) (k : JobCounts) → given_of (parts_at bs k) ≡ given_at bs k
unfolding given_of parts_at job_of
given_is bs k =
    let far : (a b c : ℕ) → a + b ≡ c → (p : ℕ) → p + a + b ≡ p + c = λ a b c e p. omega (arith, e) in
    let elements = run-map site_at (λ s. s.element) (integer_at 4 bs) bs 29 1 (λ p. refl) sites_from k.sites in
    let positions = run-map site_at (λ s. cells_of (position_of s.position)) (cells_from bs) bs 29 5 (λ p. ap (cells_from bs) (far 1 4 5 refl p)) sites_from k.sites in
    let rotations = run-map operation_at (λ o. rows_of o.rotation) (matrix_from bs) bs 34 1 (λ p. refl) in
    let translations = run-map operation_at (λ o. cells_of (position_of o.translation)) (cells_from bs) bs 34 10 (λ p. ap (cells_from bs) (far 1 9 10 refl p)) in
    let images = images_are bs (images_from k) k.images in
    let conventional = run-map entries_at rows_of (matrix_from bs) bs 10 1 (λ p. refl) (rotations_from k) k.rotations in
    let multiplicities = run-map candidate_at (λ w. w.multiplicity) (word_at 2 bs) bs 68 1 (λ p. refl) (candidates_from k) k.candidates in
    let letters = run-map candidate_at (λ w. w.letter) (word_at 1 bs) bs 68 3 (λ p. ap (word_at 1 bs) (far 1 2 3 refl p)) (candidates_from k) k.candidates in
    let texts = run-map candidate_at (λ w. w.text) (text_at bs) bs 68 4 (λ p. ap (text_at bs) (far 1 3 4 refl p)) (candidates_from k) k.candidates in
    let symprec = ap float (sym (word8_is bs (symprec_from k + 1))) in
    λ i.
    record {
      lattice = lattice_at bs;
      t = matrix_from bs 74;
      shift = position_of (floats_at 3 bs 83);
      c = matrix_from bs 108;
      elements = elements i;
      positions = positions i;
      rotations = rotations (operations_from k) k.operations i;
      translations = translations (operations_from k) k.operations i;
      images = images i;
      rotations_of_targets = rotations (targets_from k) k.targets i;
      translations_of_targets = translations (targets_from k) k.targets i;
      conventional = conventional i;
      multiplicities = multiplicities i;
      letters = letters i;
      texts = texts i;
      symprec = symprec i;
    }

-- ---- the promise

-- counted
pub count_kept : (bs : List ℕ) (r : Result JobCounts Refusal) → Counted bs r → CountPromise bs r
unfolding verdict_of found_none found_at_lem Passed HoldsAt
count_kept bs (Ok k) j =
    let cs = count_conditions bs in
    let p = parts_at bs k in
    (accepted p, accepted_with cs (IsJob bs) p (accept cs (not_no_job bs k j, tt) refl) j.is, ap accepted (counts_are bs k))
count_kept bs (Err r) x =
    let cs = count_conditions bs in (
      refused 1,
      refused_with_lem cs (IsJob bs) JobBytes (refuse cs 0 tt x.1 (Err JobBytes) refl),
      ap (λ s. refused (number s)) (sym x.0),
    )

-- read
module _ (bs : List ℕ) (entry exit : Given) where
  too_short_is : (k : JobCounts) → too_short_for entry (parts_at bs k) ≡ short k (rooms_of entry)
  too_short_is k = ap (λ (n : JobCounts). short n (rooms_of entry)) (counts_are bs k)

  pub read_kept : (k : JobCounts) → JobOf bs k → short k (rooms_of entry) ≡ false → HoldsGiven entry exit (given_at bs k) → ReadPromise bs entry exit (Ok k)
  unfolding verdict_of found_none Passed
  read_kept k j e h =
      let cs = read_conditions bs entry in
      let p = parts_at bs k in
      let fits : (q : Parts) × IsJob bs q × T (too_short_for entry q) → ⊥ = λ x.
      not_so (too_short_is k ∙ e) (subst (λ (q : Parts). T (too_short_for entry q)) (job_unique bs x.0 p x.1 j.is) x.2) in (
        accepted p,
        (accepted_with cs (IsJob bs) p (accept cs (not_no_job bs k j, (fits, tt)) refl) j.is, subst (HoldsGiven entry exit) (sym (given_is bs k)) h),
        ap accepted (counts_are bs k),
      )

  pub refused_kept : (r : Refusal) → Settled bs (rooms_of entry) (Err r) → HoldsGiven entry exit nothing_given → ReadPromise bs entry exit (Err r)
  unfolding verdict_of found_at_lem Passed HoldsAt
  refused_kept r s h = ⊎_elim none_there too_short s
    where
      cs : List Condition
      cs = read_conditions bs entry

      with : (m : Refusal) → Checked cs (Err m) → r ≡ m → ReadPromise bs entry exit (Err r)
      with m e q = (refused (number m), (refused_with_lem cs (IsJob bs) m e, h), ap (λ s. refused (number s)) (sym q))

      none_there : (r ≡ JobBytes) × NoJob bs → ReadPromise bs entry exit (Err r)
      none_there x = with JobBytes (refuse cs 0 tt x.1 (Err JobBytes) refl) x.0

      too_short : (r ≡ Buffer) × ((k : JobCounts) × JobOf bs k × (short k (rooms_of entry) ≡ true)) → ReadPromise bs entry exit (Err r)
      too_short x =
          let k = x.1.0 in
          let j = x.1.1 in
          with Buffer (refuse cs 1 (not_no_job bs k j, tt) (parts_at bs k, j.is, so (too_short_is k ∙ x.1.2)) (Err Buffer) refl) x.0

  -- counted already
  pub counted-kept : (k : JobCounts) → readable bs k (rooms_of entry) ≡ true → HoldsGiven entry exit (given_at bs k) → ReadCounted bs k entry exit
  counted-kept k e h = subst (HoldsGiven entry exit) (sym (given_is bs k) ∙ ap (λ b. counted_given b bs k) (sym e)) h

  pub counted_none : (k : JobCounts) → readable bs k (rooms_of entry) ≡ false → HoldsGiven entry exit nothing_given → ReadCounted bs k entry exit
  counted_none k e h = subst (HoldsGiven entry exit) (ap (λ b. counted_given b bs k) (sym e)) h
