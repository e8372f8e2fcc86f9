-- From the call on lists to the call on bytes: where the bytes are a job's, what the one promises the other does.
use Rattle.std.specs.Prelude.{ℕ, refl, List, T}
use Rattle.std.proofs.Common.{sym, inl, inr}
use Rattle.std.proofs.Math.Path.{subst}
use Rattle.std.specs.Prelude.{Result, Err}
use Rattle.definitions.specs.declared.Refusal.{Refusal}
use Rattle.definitions.specs.declared.Refusal.TheVariants.{JobBytes, Counts}
use Rattle.definitions.specs.declared.AnswerCounts.{AnswerCounts}
use Rattle.definitions.specs.Refusal.{Condition, ◌when◌, Applies, NoneOf, upto, precedence, job_bytes, counts, Outcome}
use Rattle.definitions.specs.Refusal.{accepted, refused, Returns}
use Rattle.definitions.specs.Job.{Parts, IsJob, NoJob, job_of}
use Rattle.definitions.specs.Standardize.{Rooms, bad_counts, job_conditions, OfParts, bytes_conditions, Answer}
use Rattle.definitions.specs.Standardize.{IsAnswer}
use Rattle.definitions.specs.WholeCalls.{job_from, unlike_lists, lists_conditions, AnswerCells, rooms_of, HoldsAnswer}
use Rattle.definitions.specs.WholeCalls.{nothing_answered, ListsPromise, BytesPromise, given_of}
use Rattle.laws.specs.Order.{none_over, later_applies, applies_later}
use Rattle.laws.specs.Tests.{not_so}
use Rattle.symmetrize_standardize_laws.specs.Whole.{job_to_bytes, bytes_to_job}
use Rattle.job_standardize.specs.Given.{job_given, like_lists}

module _ (bs : List ℕ) (p : Parts) (i : IsJob bs p) (is_job : NoJob bs → ⊥) (rooms : Rooms) where
  abbrev head : Condition
  head = counts when T (unlike_lists (given_of p))

  abbrev of_job : List Condition
  of_job = job_conditions (job_from (given_of p)) rooms

  to_bytes : (k : ℕ) → Applies (lists_conditions (given_of p) rooms) k → Applies (bytes_conditions bs rooms) k
  to_bytes k a =
      job_to_bytes bs rooms p i (job_from (given_of p)) (sym (job_given p)) k
      (applies_later head of_job k (not_so (like_lists p)) a)

  from_bytes : (k : ℕ) → Applies (bytes_conditions bs rooms) k → Applies (lists_conditions (given_of p) rooms) k
  from_bytes k a =
      later_applies head of_job k (bytes_to_job bs rooms p i (job_from (given_of p)) (sym (job_given p)) is_job k a)

  -- what the call on lists returns, the call on bytes does
  bytes_return :
      (o : Outcome Answer) → Returns (lists_conditions (given_of p) rooms) (IsAnswer (job_from (given_of p))) o →
      Returns (bytes_conditions bs rooms) (λ a. OfParts bs (λ q. IsAnswer (job_of q) a)) o
  unfolding Returns
  bytes_return (accepted a) r = (
    none_over (bytes_conditions bs rooms) (lists_conditions (given_of p) rooms) from_bytes precedence r.0,
    (p, i, subst (λ j. IsAnswer j a) (job_given p) r.1),
  )
  bytes_return (refused k) r = (
    to_bytes k r.0,
    none_over (bytes_conditions bs rooms) (lists_conditions (given_of p) rooms) from_bytes (upto k precedence) r.1,
  )

-- the promise of the call on lists is that of the call on bytes
pub bytes_promise :
    (bs : List ℕ) (p : Parts) → IsJob bs p → (NoJob bs → ⊥) → (entry exit : AnswerCells)
    (r : Result AnswerCounts Refusal) → ListsPromise (given_of p) entry exit r → BytesPromise bs entry exit r
bytes_promise bs p i is_job entry exit r (accepted a, (ret, holds), told) =
    (accepted a, (bytes_return bs p i is_job (rooms_of entry) (accepted a) ret, holds), told)
bytes_promise bs p i is_job entry exit r (refused k, (ret, zero), told) =
    (refused k, (bytes_return bs p i is_job (rooms_of entry) (refused k) ret, zero), told)

-- bytes that are no job's: 1
pub no_job_promise :
    (bs : List ℕ) → NoJob bs → (entry exit : AnswerCells) → HoldsAnswer entry exit nothing_answered →
    BytesPromise bs entry exit (Err JobBytes)
unfolding Returns Applies NoneOf upto precedence
no_job_promise bs n entry exit zero = (refused job_bytes, ((inl n, tt), zero), refl)

-- a job with bad counts: 2
pub counts_promise :
    (bs : List ℕ) (p : Parts) → IsJob bs p → (NoJob bs → ⊥) → T (bad_counts (job_of p)) → (entry exit : AnswerCells) →
    HoldsAnswer entry exit nothing_answered → BytesPromise bs entry exit (Err Counts)
unfolding Returns Applies NoneOf upto precedence
counts_promise bs p i is_job bad entry exit zero =
    (refused counts, ((inl (p, i, bad), (applies_not_1, tt)), zero), refl)
  where
    applies_not_1 : Applies (bytes_conditions bs (rooms_of entry)) job_bytes → ⊥
    applies_not_1 a = is_job (only a)
      where
        only : Applies (bytes_conditions bs (rooms_of entry)) job_bytes → NoJob bs
        only (inl n) = n
        only (inr x) = elim x [ ]
