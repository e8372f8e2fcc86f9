-- The text in the buffer is the report of the job's bytes, whole.
use Rattle.std.specs.Prelude.{ℕ, zero, suc, ◌-◌, ◌≤◌, ◌≡◌, refl, List, [], ◌∷◌, ◌++◌, length, get_or, take, replicate}
use Rattle.std.proofs.Common.{sym, ap, ◌∙◌, inl, arith, ltb-false}
use Rattle.std.proofs.Math.Path.{subst}
use Rattle.std.specs.Prelude.{Result}
use Rattle.definitions.specs.declared.Refusal.{Refusal}
use Rattle.definitions.specs.declared.AnswerCounts.{AnswerCounts}
use Rattle.definitions.specs.Lists.{any}
use Rattle.definitions.specs.Refusal.{Holds, Applies, precedence, listed_sites, PastAll, Outcome, accepted, refused}
use Rattle.definitions.specs.Refusal.{Returns, TellsOf, outcome}
use Rattle.definitions.specs.Limits.{too_many_listed, most_listed}
use Rattle.definitions.specs.Job.{job_of}
use Rattle.definitions.specs.Standardize.{Answer, IsAnswer, listed_count, bytes_conditions, OfParts}
use Rattle.definitions.specs.WholeCalls.{AnswerCells, rooms_of, HoldsAnswer, answer_counts, BytesPromise, ample}
use Rattle.definitions.specs.WholeCalls.{Shown, SameEntries, Tells, ReportWritten, ReportPromise}
use Rattle.laws.specs.Order.{none_of}
use Rattle.laws.specs.Tests.{off}
use Rattle.report_text.specs.Text.{report_bytes}
use Rattle.report_text.proofs.Room.{report_room, refusal_room, written_within, written_whole}

-- ---- a list with zeros behind it has the list's entries, and 0 behind them

zeros : (k j : ℕ) → ◌≡◌ {A = ℕ} (get_or (replicate k 0) j 0) 0
zeros zero j = refl
zeros (suc k) zero = refl
zeros (suc k) (suc j) = zeros k j

behind : (l : List ℕ) (k j : ℕ) → ◌≡◌ {A = ℕ} (get_or (l ++ replicate k 0) j 0) (get_or l j 0)
behind [] k j = zeros k j
behind (x ∷ l) k zero = refl
behind (x ∷ l) k (suc j) = behind l k j

entries : (old cells answer : List ℕ) → Holds 0 old cells answer → SameEntries cells answer
entries old cells answer e j = ap (λ l. get_or l j 0) e ∙ behind answer (length old - length answer) j

-- ---- the outcome that is told

abbrev pub shown : AnswerCells → Shown
shown e = record { mapping = e.mapping; labels = e.labels; multiplicities = e.multiplicities; letters = e.letters }

module _ (bs : List ℕ) (entry exit : AnswerCells) (r : Result AnswerCounts Refusal) where
  -- an accepted answer has at most 1,024 listed sites
  few_sites :
      (a : Answer) → PastAll (bytes_conditions bs (rooms_of entry)) → OfParts bs (λ p. IsAnswer (job_of p) a) → a.sites ≤ most_listed
  unfolding Applies any precedence
  few_sites a past (p, i, (w, e)) =
      let few = off (too_many_listed (listed_count (job_of p))) (λ t. none_of (bytes_conditions bs (rooms_of entry)) precedence listed_sites tt past (inl (p, i, t))) in
      subst (λ (b : Answer). b.sites ≤ most_listed) (sym e) (ltb-false most_listed (listed_count (job_of p)) few)

  tells : (a : Answer) → HoldsAnswer entry exit a → TellsOf answer_counts (accepted a) r → Tells (outcome (λ c. c) r) (shown exit) (accepted a)
  tells a h e =
      record {
        told = e;
        mapping = λ b q. subst (λ c. SameEntries exit.mapping c.mapping) (same a b q) (entries entry.mapping exit.mapping a.mapping h.mapping);
        labels = λ b q. subst (λ c. SameEntries exit.labels c.labels) (same a b q) (entries entry.labels exit.labels a.labels h.labels);
        multiplicities = λ b q.
            subst (λ c. SameEntries exit.multiplicities c.multiplicities) (same a b q) (entries entry.multiplicities exit.multiplicities a.multiplicities h.multiplicities);
        letters = λ b q. subst (λ c. SameEntries exit.letters c.letters) (same a b q) (entries entry.letters exit.letters a.letters h.letters);
      }
    where
      same : (a b : Answer) → ◌≡◌ {A = Outcome Answer} (accepted a) (accepted b) → a ≡ b
      same a b q = ap answer q
        where
          answer : Outcome Answer → Answer
          answer (accepted c) = c
          answer (refused k) = a

  tells_refused : (k : ℕ) → TellsOf answer_counts (refused k) r → Tells (outcome (λ c. c) r) (shown exit) (refused k)
  tells_refused k e =
      record {
        told = e;
        mapping = λ b q. absurd (never b q);
        labels = λ b q. absurd (never b q);
        multiplicities = λ b q. absurd (never b q);
        letters = λ b q. absurd (never b q);
      }
    where
      never : (b : Answer) → ◌≡◌ {A = Outcome Answer} (refused k) (accepted b) → ⊥
      never b q = subst (λ o. elim o as (λ (x : Outcome Answer). Type 0) [ accepted c ↦ ⊥ | refused l ↦ Unit {0} ]) q tt

  -- What is printed: the report, and every byte of it.
  pub printed :
      rooms_of entry ≡ ample → BytesPromise bs entry exit r → (old new : List ℕ) (n : ℕ) → report_bytes ≤ length old →
      ReportWritten (outcome (λ c. c) r) (shown exit) old new n → ReportPromise bs (take n new) × (n ≤ length new)
  unfolding Returns
  printed rooms (accepted a, (ret, holds), told) old new n room w =
      let written = w (accepted a) (tells a holds told) in (
        (
          accepted a,
          subst (λ m. Returns (bytes_conditions bs m) (λ b. OfParts bs (λ p. IsAnswer (job_of p) b)) (accepted a)) rooms ret,
          written_whole written (omega (arith, report_room a (few_sites a ret.0 ret.1), room)),
        ),
        written_within written,
      )
  printed rooms (refused k, (ret, nothing), told) old new n room w =
      let written = w (refused k) (tells_refused k told) in (
        (
          refused k,
          subst (λ m. Returns (bytes_conditions bs m) (λ b. OfParts bs (λ p. IsAnswer (job_of p) b)) (refused k)) rooms ret,
          written_whole written (omega (arith, refusal_room k, room)),
        ),
        written_within written,
      )
