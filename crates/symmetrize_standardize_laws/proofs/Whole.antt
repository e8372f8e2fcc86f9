-- Demand 3 of the promises of the whole call, on lists and on bytes.
use Rattle.std.specs.Prelude.{refl}
use Rattle.std.proofs.Common.{sym, subst}
use Rattle.definitions.specs.Refusal.{Past, orbit_fit}
use Rattle.definitions.specs.Job.{job_of}
use Rattle.definitions.specs.Standardize.{job_conditions, OfParts, bytes_conditions, IsAnswer, JobReturns}
use Rattle.definitions.specs.WholeCalls.{job_from, lists_conditions, HoldsAnswer, nothing_answered, rooms_of}
use Rattle.definitions.specs.Demand.{DemandOfWhole}
use Rattle.laws.specs.Verdicts.{answered_returns}
use Rattle.math_matrix.specs.Laws.{Three}
use Rattle.symmetrize_standardize_laws.specs.Calls.{bytes_call, lists_call}
use Rattle.symmetrize_standardize_laws.specs.Answers.{Answers}
use Rattle.symmetrize_standardize_laws.proofs.Answers.{demand_of_whole}
use Rattle.symmetrize_standardize_laws.specs.Whole.{job_past, lists_return, shape_of, bytes_past, job_returns, three_of, one_job}

-- ---- on lists

-- Demand 3 of the promise of the whole call on lists.
pub whole_lists : DemandOfWhole lists_call
whole_lists = demand_of_whole lists_call answers
  where
    answers : Answers lists_call
    answers =
        record {
          rooms = λ x. rooms_of x.entry;
          one_job = λ x past. (job_from x.given, refl, λ k e. sym e);
          shape = λ x j e. subst (λ h. Three h.c) e (shape_of x.given x.shape);
          past = λ x j e p. subst (λ h. Past orbit_fit (job_conditions h (rooms_of x.entry))) e (job_past x.given (rooms_of x.entry) p);
          returns = λ x j e p o h.
              subst (λ h. JobReturns h (rooms_of x.entry) o) e
              (lists_return x.given (rooms_of x.entry) p o
              (answered_returns (lists_conditions x.given (rooms_of x.entry)) (IsAnswer (job_from x.given)) (HoldsAnswer x.entry h.0)
              (HoldsAnswer x.entry h.0 nothing_answered) o h.1));
        }

-- ---- on bytes

-- Demand 3 of the promise of the whole call on bytes.
pub whole_bytes : DemandOfWhole bytes_call
whole_bytes = demand_of_whole bytes_call answers
  where
    answers : Answers bytes_call
    answers =
        record {
          rooms = λ x. rooms_of x.entry;
          one_job = one_job;
          shape = λ x j i. subst (λ h. Three h.c) i.2 (three_of i.0);
          past = λ x j i. bytes_past x.bytes (rooms_of x.entry) i.0 i.1 j i.2;
          returns = λ x j i past o h.
              job_returns x.bytes (rooms_of x.entry) i.0 i.1 j i.2 past o
              (answered_returns (bytes_conditions x.bytes (rooms_of x.entry)) (λ a. OfParts x.bytes (λ p. IsAnswer (job_of p) a))
              (HoldsAnswer x.entry h.0) (HoldsAnswer x.entry h.0 nothing_answered) o h.1);
        }
