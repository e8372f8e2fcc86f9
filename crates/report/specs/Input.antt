-- How much of standard input has to be read: one byte more than a job has at the most.
use Rattle.std.specs.Prelude.{ℕ, suc, ◌≤◌, ◌<◌, ◌≡◌, refl, Bool, true, false, List, ltb, length, take}
use Rattle.std.proofs.Common.{ap, ◌∙◌, subst, inl, arith, ltb-false, ltb-true, take_all, length-take-le}
use Rattle.definitions.specs.Lists.{any}
use Rattle.definitions.specs.Refusal.{job_bytes, Applies, NoneOf, upto, precedence, Outcome, refused, Returns}
use Rattle.definitions.specs.Limits.{most_bytes}
use Rattle.definitions.specs.Job.{NoJob, job_of}
use Rattle.definitions.specs.Standardize.{Answer, IsAnswer, OfParts, bytes_conditions, BytesReturn}
use Rattle.definitions.specs.Report.{report}
use Rattle.definitions.specs.WholeCalls.{ample, ReportPromise}
use Rattle.laws.specs.Order.{numbered}
use Rattle.laws.proofs.Order.{refused_first}

abbrev pub input_bytes : ℕ
input_bytes = suc most_bytes

-- bytes that are no job's are refused with 1, and with no other number
returns_one : (bs : List ℕ) → NoJob bs → BytesReturn bs ample (refused job_bytes)
unfolding Returns Applies NoneOf upto precedence
returns_one bs n = (inl n, tt)

only_one : (bs : List ℕ) → NoJob bs → (o : Outcome Answer) → BytesReturn bs ample o → o ≡ refused job_bytes
unfolding Returns numbered any precedence
only_one bs n =
    let r = returns_one bs n in
    refused_first (bytes_conditions bs ample) tt (λ a. OfParts bs (λ p. IsAnswer (job_of p) a)) job_bytes r.0 r.1

-- the report of the first bytes is the report of all of them
pub first_bytes : (bs text : List ℕ) → ReportPromise (take input_bytes bs) text → ReportPromise bs text
first_bytes bs text (o, ret, e) = by (ltb most_bytes (length bs)) refl
  where
    by : (b : Bool) → ltb most_bytes (length bs) ≡ b → ReportPromise bs text
    by false few =
        let within : length bs ≤ input_bytes = omega (arith, ltb-false most_bytes (length bs) few) in
        subst (λ l. ReportPromise l text) (take_all input_bytes bs within) (o, ret, e)
    by true over =
        let many : most_bytes < length bs = ltb-true most_bytes (length bs) over in
        let enough : most_bytes < length (take input_bytes bs) = omega (arith, length-take-le input_bytes bs many) in
        let one = only_one (take input_bytes bs) (inl enough) o ret in
        (refused job_bytes, returns_one bs (inl many), e ∙ ap report one)
