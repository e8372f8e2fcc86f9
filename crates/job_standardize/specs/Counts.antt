-- How many of each command a legal job may have: a job of more has bad counts.
use Rattle.std.specs.Prelude.{ℕ, ◌*◌, ◌≤◌, ◌≡◌, refl, Bool, true, false, ◌||◌, length, T}
use Rattle.std.proofs.Common.{subst, arith, ltb-false, eqb-true}
use Rattle.std.proofs.lemmas.Bool.{not-false}
use Rattle.std.proofs.Math.ListN.{length-map}
use Rattle.definitions.specs.declared.JobCounts.{JobCounts}
use Rattle.definitions.specs.Limits.{too_many_sites, not_some, too_many_candidates}
use Rattle.definitions.specs.Limits.{most_sites, most_operations, most_images, most_candidates}
use Rattle.definitions.specs.Job.{Parts, job_of, site_of, operation_of, candidate_of, rows_of}
use Rattle.definitions.specs.Lent.{unlike}
use Rattle.definitions.specs.Standardize.{bad_counts}
use Rattle.definitions.specs.WholeCalls.{counts_of}
use Rattle.laws.specs.Limits.{few, few_entries}
use Rattle.laws.specs.Tests.{so, not_so, neither_left, neither_right}
use Rattle.job.specs.Counted.{more_than, within_not}

-- the most of each command that a legal job may have
abbrev pub most_legal : JobCounts
most_legal =
    record {
      sites = most_sites;
      operations = most_operations;
      images = most_images;
      targets = most_operations;
      rotations = most_operations;
      candidates = most_candidates;
    }

by_cases : (b : Bool) → (b ≡ false → ⊥) → T b
by_cases true h = tt
by_cases false h = absurd (h refl)

module _ (p : Parts) where
  abbrev n : ℕ
  n = length p.sites

  abbrev k : ℕ
  k = length p.operations

  -- the tests of the counts, over the parts' own lengths
  abbrev bad : Bool
  bad =
      too_many_sites n
      || not_some k
      || not_some (length p.targets)
      || not_some (length p.rotations)
      || too_many_candidates (length p.candidates)
      || unlike (length p.images) (k * n)

  bad_is : bad ≡ bad_counts (job_of p)
  unfolding job_of
  bad_is =
      rw (length-map p.sites site_of, length-map p.operations operation_of, length-map p.targets operation_of)
      (rw (length-map p.rotations rows_of, length-map p.candidates candidate_of))

  module _ (h : bad ≡ false) where
    abbrev first_five : Bool
    first_five =
        too_many_sites n
        || not_some k
        || not_some (length p.targets)
        || not_some (length p.rotations)
        || too_many_candidates (length p.candidates)

    five : first_five ≡ false
    five = neither_left first_five _ h

    four : (too_many_sites n || not_some k || not_some (length p.targets) || not_some (length p.rotations)) ≡ false
    four = neither_left _ (too_many_candidates (length p.candidates)) five

    three : (too_many_sites n || not_some k || not_some (length p.targets)) ≡ false
    three = neither_left _ (not_some (length p.rotations)) four

    two : (too_many_sites n || not_some k) ≡ false
    two = neither_left _ (not_some (length p.targets)) three

    sites_few : n ≤ most_sites
    sites_few = ltb-false most_sites n (neither_left (too_many_sites n) (not_some k) two)

    some_operations : not_some k ≡ false
    some_operations = neither_right (too_many_sites n) (not_some k) two

    targets_few : length p.targets ≤ most_operations
    targets_few = few _ (neither_right (too_many_sites n || not_some k) _ three)

    rotations_few : length p.rotations ≤ most_operations
    rotations_few = few _ (neither_right (too_many_sites n || not_some k || not_some (length p.targets)) _ four)

    images_few : length p.images ≤ most_images
    images_few =
        let u : length p.images ≡ k * n =
        eqb-true _ _ (not-false _ (neither_right first_five (unlike (length p.images) (k * n)) h)) in
        let f = few_entries n k some_operations sites_few in
        omega (arith, u, f)

    not_many : more_than most_legal (counts_of p) ≡ false
    not_many =
        within_not most_legal (counts_of p)
        (record {
          sites = sites_few;
          operations = few k some_operations;
          images = images_few;
          targets = targets_few;
          rotations = rotations_few;
          candidates = ltb-false most_candidates _ (neither_right
              (too_many_sites n || not_some k || not_some (length p.targets) || not_some (length p.rotations)) _ five);
        })

  -- a job of more is refused with 2
  pub many-bad : more_than most_legal (counts_of p) ≡ true → T (bad_counts (job_of p))
  many-bad e = subst T bad_is (by_cases bad (λ h. not_so (not_many h) (so e)))
