-- From what stands at the places to whether the bytes are a job.
use Prim.Native.Nat.{ℕ, ◌≤◌, ◌<◌}
use mathlib.Core.List.{List}
use mathlib.Core.Logic.{inl, inr}
use lib.ListN.{length}
use lib.Dec.{T}
use lib.Pow.{are_bytes}
use Rattle.definitions.specs.declared.JobCounts.{JobCounts}
use Rattle.definitions.specs.Limits.{most_bytes}
use Rattle.definitions.specs.Job.{NoJob}
use Rattle.job_laws.proofs.Decode.{decode_sound, job_decodes}
use Rattle.job.specs.Places.{parts_at, Layout, Opens, Closes, symprec_from}
use Rattle.job.specs.Counted.{JobOf}
use Rattle.job.proofs.Whole.{job_reads, job_opens, job_closes}

module _ (bs : List ℕ) where
  pub too_long : most_bytes < length bs → NoJob bs
  too_long h = inl h

  pub opens_not : (Opens bs → ⊥) → NoJob bs
  opens_not f = inr (λ p j. f (job_opens bs p (job_decodes bs p j)))

  module _ (k : JobCounts) (x : Layout bs k) where
    pub closes_not : (Closes bs (symprec_from k) → ⊥) → NoJob bs
    closes_not f = inr (λ p j. f (job_closes bs k p x (job_decodes bs p j)))

    pub a_job : length bs ≤ most_bytes → T (are_bytes bs) → Opens bs → Closes bs (symprec_from k) → JobOf bs k
    a_job h t o z = record { few = h; is = decode_sound bs (parts_at bs k) (job_reads bs k o x z) t; room = z.room }
