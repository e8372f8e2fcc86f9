-- Demand 3 of the contracts of the whole call: what is told and what the lent cells hold, for a job past every refusal
-- checked before 13. That they do stands in proofs/.
use Rattle.std.specs.Prelude.{ℕ, ◌≡◌, refl, ◌↔◌, List, length}
use Rattle.std.proofs.Common.{sym, ap, ◌∙◌, subst, arith}
use Rattle.std.specs.Prelude.{Result, Err, Ok}
use Rattle.definitions.specs.declared.Refusal.{Refusal}
use Rattle.definitions.specs.declared.Refusal.TheVariants.{OrbitFit}
use Rattle.definitions.specs.declared.AnswerCounts.{AnswerCounts}
use Rattle.definitions.specs.Refusal.{Condition, Past, orbit_fit, Outcome, accepted, refused, number, TellsOf}
use Rattle.laws.specs.Verdicts.{tells_answer, tells_number, ok_once, err_once, not_both, number_one}
use Rattle.definitions.specs.Job.{Job}
use Rattle.definitions.specs.Symmetrization.{primitive_positions}
use Rattle.definitions.specs.Wyckoff.{Unfit}
use Rattle.definitions.specs.Standardize.{Answer, Work, lettering_of, answer_of, site_count}
use Rattle.definitions.specs.WholeCalls.{AnswerCells, HoldsAnswer, nothing_answered, answer_counts, WholePromised, WholeAnswered}
use Rattle.definitions.specs.Demand.{Copies, listed, WholeCall, DemandOfWhole}

-- The job j, what is told of it, and the lent cells before and after.
pub record CellsAnswer (j : Job) (entry exit : AnswerCells) (told : Result AnswerCounts Refusal) : Type 0 where
  pub work : Work j
  -- no site is counted twice or missed
  pub copies : Copies j.c (primitive_positions j) (listed (answer_of work))
  pub sites : length (primitive_positions j) ≡ site_count j
  -- an accepted answer has all five, and they are just these
  pub accepts :
      (n m : ℕ) → told ≡ Ok (record { sites = n; orbits = m }) →
      (n ≡ (answer_of work).sites) × (m ≡ (answer_of work).orbits) × HoldsAnswer entry exit (answer_of work)
  -- a refusal is alone
  pub refuses : (r : Refusal) → told ≡ Err r → HoldsAnswer entry exit nothing_answered
  -- 13 comes exactly when some orbit has no fit
  pub thirteen : (told ≡ Err OrbitFit) ↔ Unfit (lettering_of j work.run)

-- a call whose demand is proved, arguments of it that are a job past the refusals before 13, and what is told of them
module _
    (c : WholeCall) (demand : DemandOfWhole c) (x : c.Arguments) (j : Job) (is : c.IsJob x j)
    (past : Past orbit_fit (c.conditions x)) where
  module _
      (cs : List Condition) (Is : Answer → Type 0) (entry exit : AnswerCells)
      (promises : (o : Outcome Answer) → WholeAnswered cs Is entry exit o → c.Promises x o) (told : Result AnswerCounts Refusal) where
    abbrev work : Work j
    work = (demand.each-site_once x j (is, past)).0

    accepts :
        WholePromised cs Is entry exit told → (n m : ℕ) → told ≡ Ok (record { sites = n; orbits = m }) →
        (n ≡ (answer_of work).sites) × (m ≡ (answer_of work).orbits) × HoldsAnswer entry exit (answer_of work)
    accepts (accepted a, h, e) n m q =
        let just : a ≡ answer_of work = demand.just_the_five x j (is, past) a (promises (accepted a) h) work in
        let same = ok_once told _ _ q (tells_answer answer_counts a told e) in
        (ap (λ b. b.sites) same ∙ ap (λ b. b.sites) just, ap (λ b. b.orbits) same ∙ ap (λ b. b.orbits) just, subst (HoldsAnswer entry exit) just h.1)
    accepts (refused k, h, e) n m q = let t = tells_number answer_counts k told e in absurd (not_both told _ t.0 q t.1)

    refuses : WholePromised cs Is entry exit told → (r : Refusal) → told ≡ Err r → HoldsAnswer entry exit nothing_answered
    refuses (accepted a, h, e) r q = absurd (not_both told _ r (tells_answer answer_counts a told e) q)
    refuses (refused l, h, e) r q = h.1

    thirteen : WholePromised cs Is entry exit told → (told ≡ Err OrbitFit) ↔ Unfit (lettering_of j work.run)
    thirteen (o, h, e) = by o (promises o h) e
      where
        exactly : (o : Outcome Answer) → c.Promises x o → (o ≡ refused orbit_fit) ↔ Unfit (lettering_of j work.run)
        exactly o p = demand.letters.thirteen x (lettering_of j work.run) ((j, is, work.run, refl), past) o p

        by : (o : Outcome Answer) → c.Promises x o → TellsOf answer_counts o told → (told ≡ Err OrbitFit) ↔ Unfit (lettering_of j work.run)
        by (accepted a) p e = (
          λ q. absurd (not_both told _ OrbitFit (tells_answer answer_counts a told e) q),
          λ u. let f : ◌≡◌ {A = Outcome Answer} (accepted a) (refused orbit_fit) = (exactly (accepted a) p).1 u in let z : ◌≡◌ {A = ℕ} 0 1 = cc in absurd (omega arith),
        )
        by (refused k) p e =
            let t = tells_number answer_counts k told e in (
              λ q.
                  let s = err_once told _ _ t.1 q in
                  (exactly (refused k) p).0 (ap refused (sym t.2 ∙ ap number s)),
              λ u.
                  let e : ◌≡◌ {A = Outcome Answer} (refused k) (refused orbit_fit) = (exactly (refused k) p).1 u in
                  let f : k ≡ orbit_fit = cc in
                  t.1 ∙ ap Err (number_one t.0 OrbitFit (t.2 ∙ f)),
            )

    pub answered : WholePromised cs Is entry exit told → CellsAnswer j entry exit told
    answered h =
        record {
          work = work;
          copies = (demand.each-site_once x j (is, past)).1;
          sites = (demand.each-site_once x j (is, past)).2;
          accepts = accepts h;
          refuses = refuses h;
          thirteen = thirteen h;
        }
