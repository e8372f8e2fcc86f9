-- The whole call, on a job's bytes and on a job's lists, as the calls that demand 3 speaks of: what their promises
-- allow to be told.
use Rattle.std.specs.Prelude.{ℕ, ◌≡◌, List, T}
use Rattle.std.proofs.Math.Pow.{are_bytes}
use Rattle.definitions.specs.Job.{Parts, IsJob, job_of}
use Rattle.definitions.specs.Standardize.{IsAnswer, bytes_conditions, OfParts}
use Rattle.definitions.specs.WholeCalls.{Given, job_from, lists_conditions, AnswerCells, rooms_of, WholeAnswered}
use Rattle.definitions.specs.Demand.{WholeCall}
use Rattle.math_matrix.specs.Laws.{Three}

-- bytes, as their type says, and the lent lists
pub record BytesArguments : Type 0 where
  pub bytes : List ℕ
  pub are_bytes_lem : T (are_bytes bytes)
  pub entry : AnswerCells

abbrev pub bytes_call : WholeCall
bytes_call =
    record {
      Arguments = BytesArguments;
      conditions = λ x. bytes_conditions x.bytes (rooms_of x.entry);
      IsJob = λ x j. (p : Parts) × IsJob x.bytes p × (job_of p ≡ j);
      Promises = λ x o.
          (exit : AnswerCells)
          × WholeAnswered (bytes_conditions x.bytes (rooms_of x.entry)) (λ a. OfParts x.bytes (λ p. IsAnswer (job_of p) a)) x.entry exit o;
    }

-- a job's lists, where C has three rows of three, as its type says, and the lent lists
pub record ListsArguments : Type 0 where
  pub given : Given
  pub shape : Three given.c
  pub entry : AnswerCells

abbrev pub lists_call : WholeCall
lists_call =
    record {
      Arguments = ListsArguments;
      conditions = λ x. lists_conditions x.given (rooms_of x.entry);
      IsJob = λ x j. job_from x.given ≡ j;
      Promises = λ x o.
          (exit : AnswerCells)
          × WholeAnswered (lists_conditions x.given (rooms_of x.entry)) (IsAnswer (job_from x.given)) x.entry exit o;
    }
