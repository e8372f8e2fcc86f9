-- What the steps of reading a job find.
use Rattle.std.specs.Prelude.{ℕ, ◌+◌, ◌≤◌, ◌≡◌, Bool, true, false, ◌||◌, List, length, ltb}
use Rattle.std.proofs.Common.{⊎_elim, arith, ltb-false, le-ltb}
use Rattle.std.specs.Prelude.{Result, Ok, Err}
use Rattle.definitions.specs.declared.JobCounts.{JobCounts}
use Rattle.definitions.specs.declared.Refusal.{Refusal}
use Rattle.definitions.specs.declared.Refusal.TheVariants.{JobBytes}
use Rattle.definitions.specs.Limits.{most_bytes}
use Rattle.definitions.specs.Job.{IsJob, NoJob}
use Rattle.definitions.specs.WholeCalls.{counts_of}
use Rattle.laws.specs.Tests.{neither, neither_left, neither_right}
use Rattle.job.specs.Places.{parts_at, symprec_from, length_items, word_at, entries_at}
use Rattle.job.specs.Places.{site_at, operation_at, candidate_at}
use Rattle.job.specs.Places.{sites_from, operations_from, images_from, targets_from, rotations_from, candidates_from}

-- a test says whether P
pub record Decided (P : Type 0) (r : Bool) : Type 0 where
  pub yes : r ≡ true → P
  pub no : r ≡ false → P → ⊥

-- the bytes are a job of so many of each command
pub record JobOf (bs : List ℕ) (k : JobCounts) : Type 0 where
  pub few : length bs ≤ most_bytes
  pub is : IsJob bs (parts_at bs k)
  pub room : symprec_from k + 10 ≡ length bs

abbrev pub Counted : List ℕ → Result JobCounts Refusal → Type 0
Counted bs (Ok k) = JobOf bs k
Counted bs (Err r) = (r ≡ JobBytes) × NoJob bs

-- ---- laws

-- as many of each as were counted
pub counts_are : (bs : List ℕ) (k : JobCounts) → counts_of (parts_at bs k) ≡ k
unfolding parts_at
counts_are bs k = λ i.
    record {
      sites = length_items (λ p. site_at bs (p + 1)) 29 sites_from k.sites i;
      operations = length_items (λ p. operation_at bs (p + 1)) 34 (operations_from k) k.operations i;
      images = length_items (λ p. word_at 1 bs (p + 1)) 2 (images_from k) k.images i;
      targets = length_items (λ p. operation_at bs (p + 1)) 34 (targets_from k) k.targets i;
      rotations = length_items (λ p. entries_at bs (p + 1)) 10 (rotations_from k) k.rotations i;
      candidates = length_items (λ p. candidate_at bs (p + 1)) 68 (candidates_from k) k.candidates i;
    }

pub not_no_job : (bs : List ℕ) (k : JobCounts) → JobOf bs k → NoJob bs → ⊥
not_no_job bs k j = ⊎_elim (λ h. absurd (omega (arith, j.few))) (λ f. f (parts_at bs k) j.is)

-- ---- counts beside limits

-- there are more of a command than the limit says
abbrev pub more_than : JobCounts → JobCounts → Bool
more_than most k =
    ltb most.sites k.sites
    || ltb most.operations k.operations
    || ltb most.images k.images
    || ltb most.targets k.targets
    || ltb most.rotations k.rotations
    || ltb most.candidates k.candidates

-- not more of any
pub record Within (most k : JobCounts) : Type 0 where
  pub sites : k.sites ≤ most.sites
  pub operations : k.operations ≤ most.operations
  pub images : k.images ≤ most.images
  pub targets : k.targets ≤ most.targets
  pub rotations : k.rotations ≤ most.rotations
  pub candidates : k.candidates ≤ most.candidates

module _ (most k : JobCounts) where
  pub within_of : more_than most k ≡ false → Within most k
  within_of h =
      let a = ltb most.sites k.sites in
      let b = ltb most.operations k.operations in
      let c = ltb most.images k.images in
      let d = ltb most.targets k.targets in
      let e = ltb most.rotations k.rotations in
      let f = ltb most.candidates k.candidates in
      let five : (a || b || c || d || e) ≡ false = neither_left _ f h in
      let four : (a || b || c || d) ≡ false = neither_left _ e five in
      let three : (a || b || c) ≡ false = neither_left _ d four in
      let two : (a || b) ≡ false = neither_left _ c three in
      record {
        sites = ltb-false _ _ (neither_left a b two);
        operations = ltb-false _ _ (neither_right a b two);
        images = ltb-false _ _ (neither_right (a || b) c three);
        targets = ltb-false _ _ (neither_right (a || b || c) d four);
        rotations = ltb-false _ _ (neither_right (a || b || c || d) e five);
        candidates = ltb-false _ _ (neither_right (a || b || c || d || e) f h);
      }

  pub within_not : Within most k → more_than most k ≡ false
  within_not w =
      neither
      (neither
      (neither
      (neither
      (neither (le-ltb _ _ w.sites) (le-ltb _ _ w.operations))
      (le-ltb _ _ w.images))
      (le-ltb _ _ w.targets))
      (le-ltb _ _ w.rotations))
      (le-ltb _ _ w.candidates)
