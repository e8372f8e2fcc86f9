-- What counting the commands of the bytes says of the call on them.
use Rattle.std.specs.Prelude.{ℕ, ◌≡◌, true, List}
use Rattle.std.proofs.Common.{sym, ap, ◌∙◌, subst}
use Rattle.std.specs.Prelude.{Result, Ok, Err, IsErrAnd}
use Rattle.definitions.specs.declared.JobCounts.{JobCounts}
use Rattle.definitions.specs.declared.Refusal.{Refusal}
use Rattle.definitions.specs.declared.Refusal.TheVariants.{Counts}
use Rattle.definitions.specs.WholeCalls.{AnswerCells, HoldsAnswer, nothing_answered, BytesPromise}
use Rattle.job.specs.Places.{parts_at}
use Rattle.job.specs.Counted.{JobOf, Counted, counts_are, not_no_job, more_than, Within}
use Rattle.job_standardize.specs.Bytes.{no_job_promise, counts_promise}
use Rattle.job_standardize.specs.Counts.{most_legal, many-bad}

-- the call on the bytes refuses with r, if it clears the lent cells
abbrev pub Refuses : List ℕ → Refusal → Type 0
Refuses bs r =
    (entry exit : AnswerCells) → HoldsAnswer entry exit nothing_answered → BytesPromise bs entry exit (Err r)

-- counts that a legal job may have, or a refusal
abbrev pub Legal : List ℕ → Result JobCounts Refusal → Type 0
Legal bs (Ok k) = JobOf bs k × Within most_legal k
Legal bs (Err r) = Refuses bs r

module _ (bs : List ℕ) where
  pub not_counted : (r : Refusal) → Counted bs (Err r) → Refuses bs r
  not_counted r x entry exit zero =
      subst (λ s. BytesPromise bs entry exit (Err s)) (sym x.0) (no_job_promise bs x.1 entry exit zero)

  -- what `?` passes on
  pub passed_on :
      (found : Result JobCounts Refusal) (r : Refusal) → Refuses bs r → IsErrAnd found (λ s. s ≡ r) → Legal bs found
  passed_on (Ok k) r h e = absurd e
  passed_on (Err s) r h e = subst (Refuses bs) (sym e) h

  pub too_many : (k : JobCounts) → JobOf bs k → more_than most_legal k ≡ true → Refuses bs Counts
  too_many k j e entry exit zero =
      counts_promise bs (parts_at bs k) j.is (not_no_job bs k j)
      (many-bad (parts_at bs k) (ap (more_than most_legal) (counts_are bs k) ∙ e)) entry exit zero
