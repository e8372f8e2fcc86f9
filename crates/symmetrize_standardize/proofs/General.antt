-- Stage by stage: a verdict by tests in the order of the conditions, and what a sub-call tells of a condition.
use Prim.Native.Nat.{ℕ, suc}
use mathlib.Core.Path.{◌≡◌, refl, subst}
use mathlib.Core.Bool.{Bool, true, false, cond}
use mathlib.Core.List.{List}
use mathlib.Core.Option.{some}
use lib.Dec.{T, eqb_refl, eqb→eq}
use Rattle.definitions.specs.Refusal.{Verdict}
use Rattle.std.specs.Prelude.{Result, Err, Ok}
use Rattle.definitions.specs.declared.Refusal.{Refusal}
use Rattle.definitions.specs.Refusal.{Condition, Applies, Checked, accepted, refused, Returns, Promised, number}
use Rattle.laws.specs.Order.{numbered}
use Rattle.laws.proofs.Order.{checked_unique}
use Rattle.laws.specs.Verdicts.{HoldsAt, Passed, pass, found_at_lem, refuse, verdict_of, verdict_in, tells_number, not_both}
use Rattle.symmetrize_standardize.specs.Stages.{refused_with, then_verdict}

-- ---- a verdict on the way

-- the first n tests are made: refused by one of them, or past them all
abbrev pub Until : List Condition → ℕ → Verdict → Type 0
Until cs n (Ok u) = Passed cs n
Until cs n (Err k) = Checked cs (Err k)

-- The test b of the condition n, and what comes behind it. `settles` is `λ p h. refl` under `unfolding verdictOf
-- found-at`.
pub rung :
    (cs : List Condition) (n m : ℕ) (r : Refusal) (b : Bool) (rest : Verdict) →
    Passed cs n → (T b → HoldsAt cs n) → (HoldsAt cs n → T b) →
    ((p : Passed cs n) (h : HoldsAt cs n) → verdict_of cs (found_at_lem cs n p h) ≡ some (refused (number r))) →
    (Passed cs (suc n) → Until cs m rest) → Until cs m (cond b (Err r) rest)
rung cs n m r true rest p to from settles more = refuse cs n p (to tt) (Err r) (settles p (to tt))
rung cs n m r false rest p to from settles more = more (pass cs n p from)

pub until_then : (cs : List Condition) (n m : ℕ) (v w : Verdict) → Until cs n v → (Passed cs n → Until cs m w) → Until cs m (then_verdict v w)
until_then cs n m (Ok u) w p more = more p
until_then cs n m (Err k) w e more = e

-- ---- what a sub-call tells

pub same_verdict : (v : Verdict) → verdict_in v ≡ v
same_verdict (Ok u) = refl
same_verdict (Err r) = refl

module _ (cs : List Condition) where
  module _ {A : Type 0} where
    -- it is the refusal r: its number applies
    pub told_applies :
        (v : Result A Refusal) → Checked cs (verdict_in v) → (r : Refusal) → T (refused_with r v) → Applies cs (number r)
    unfolding Checked Returns
    told_applies (Ok a) e r h = absurd h
    told_applies (Err s) e r h = subst (Applies cs) (eqb→eq (number s) (number r) h) e.0

    -- r is the first that applies: it is the refusal r
    pub told_first :
        T (numbered cs) → (v : Result A Refusal) → Checked cs (verdict_in v) → (r : Refusal) → Checked cs (Err r) →
        T (refused_with r v)
    told_first t (Ok a) e r h = absurd (not_both (Err r) tt r (checked_unique cs t (Err r) (Ok tt) h e) refl)
    told_first t (Err s) e r h =
        subst (λ w. T (refused_with {A = Unit {0}} r w)) (checked_unique cs t (Err r) (Err s) h e) (eqb_refl (number r))

  pub told_accepted : T (numbered cs) → (v : Verdict) → Checked cs v → Checked cs (Ok tt) → v ≡ (Ok tt)
  told_accepted t v e h = checked_unique cs t v (Ok tt) e h

-- ---- what a promise tells

module _ {A : Type 0} (cs : List Condition) (Is Holds : A → Type 0) (Zero : Type 0) where
  pub promised_checked : (v : Verdict) → Promised cs Is Holds Zero v → Checked cs v
  unfolding Checked Returns
  promised_checked v (accepted a, h, e) = subst (Returns cs (λ u. Unit {0})) e (h.0.0, tt)
  promised_checked v (refused k, h, e) = subst (Returns cs (λ u. Unit {0})) e h.0

  pub promised_answer : (v : Verdict) → v ≡ (Ok tt) → Promised cs Is Holds Zero v → (a : A) × Is a × Holds a
  unfolding Returns
  promised_answer v q (accepted a, h, e) = (a, h.0.1, h.1)
  promised_answer v q (refused k, h, e) = let t = tells_number {A = A} {B = Unit {0}} (λ a. tt) k v e in absurd (not_both v tt t.0 q t.1)

-- ---- by cases of a test

pub pick_here : {A : Type 0} (b : Bool) (x y : A) → b ≡ true → x ≡ cond b x y
pick_here b x y e = rw e

pub pick_next : {A : Type 0} (b : Bool) (x y v : A) → b ≡ false → v ≡ y → v ≡ cond b x y
pick_next b x y v e f = rw e f
