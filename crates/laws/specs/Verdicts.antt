-- From tests to a verdict, for any conditions: what the tests found of each, and the first number in the order of
-- precedence that applies.
-- A call tests in that order and returns at once, so a condition behind the one that holds may be untested.
use Rattle.std.specs.Prelude.{ℕ, zero, suc, ◌≡◌, refl, Bool, ◌⊎◌, eqb, length}
use Rattle.std.proofs.Common.{sym, ap, ◌∙◌, inl, inr, ⊎_elim}
use Rattle.std.proofs.Math.Path.{subst}
use Rattle.std.proofs.Math.Bool.{true, false}
use mathlib.Core.List.{List, [], ◌∷◌}
use Rattle.std.proofs.Math.Option.{Option, none, some}
use Rattle.std.proofs.Math.Dec.{T, eqb_refl}
use Rattle.definitions.specs.Refusal.{Condition, Checked, Applies, NoneOf, upto, precedence, Outcome, accepted, refused, Returns, Answered, Promised}
use Rattle.definitions.specs.Refusal.{number as number_of, outcome, outcome_of, TellsOf, Verdict}
use Rattle.std.specs.Prelude.{get_or, ◌-◌, Result, Ok, Err, IsErrAnd}
use Rattle.definitions.specs.declared.Refusal.{Refusal}
use Rattle.definitions.specs.declared.Refusal.TheVariants.{
  JobBytes,
  Counts,
  MatrixEntry,
  FloatRange,
  SiteImage,
  Coordinates,
  Determinant,
  Diagonalisation,
  ListedSites,
  Buffer,
  TargetRotation,
  Lattice,
  OrbitFit,
}

-- what was found of a condition
pub data Tested (P : Type 0) : Type 0 where
  holds : P → Tested P
  fails : (P → ⊥) → Tested P
  untested : Tested P

-- of a condition that is a test's
abbrev pub is_true : {b : Bool} → b ≡ true → Tested (T b)
is_true e = holds (subst T (sym e) tt)

abbrev pub is_false : {b : Bool} → b ≡ false → Tested (T b)
is_false e = fails (subst T e)

-- what was found of each condition of a call
unfoldable pub TestedAll : List Condition → Type 0
TestedAll [] = Unit {0}
TestedAll (c ∷ cs) = Tested c.holds × TestedAll cs

unfoldable pub either : {P Q : Type 0} → Tested P → Tested Q → Tested (P ⊎ Q)
either (holds p) q = holds (inl p)
either (fails p) (holds q) = holds (inr q)
either (fails p) (fails q) = fails (⊎_elim p q)
either (fails p) untested = untested
either untested (holds q) = holds (inr q)
either untested (fails q) = untested
either untested untested = untested

module _ (c : Condition) (cs : List Condition) (t : Tested c.holds) (k : ℕ) (rest : Tested (Applies cs k)) where
  by_number : (b : Bool) → Tested (elim b [ true ↦ c.holds ⊎ Applies cs k | false ↦ Applies cs k ])
  unfolding either
  by_number true = either t rest
  by_number false = rest

-- what was found of the number k
applies : (cs : List Condition) → TestedAll cs → (k : ℕ) → Tested (Applies cs k)
unfolding TestedAll Applies by_number
applies [] ts k = fails (λ x. x)
applies (c ∷ cs) ts k = by_number c cs ts.0 k (applies cs ts.1 k) (eqb c.number k)

-- what was found of the numbers ks: none applies, or k is the first that does, or an untested one comes first
pub data Found (cs : List Condition) (ks : List ℕ) : Type 0 where
  clear : NoneOf cs ks → Found cs ks
  first : (k : ℕ) → Applies cs k → NoneOf cs (upto k ks) → Found cs ks
  unknown : Found cs ks

module _ (cs : List Condition) (j : ℕ) (js : List ℕ) where
  here : Applies cs j → Found cs (j ∷ js)
  unfolding upto NoneOf
  here a = first j a (by (eqb j j) (eqb_refl j))
    where
      by : (b : Bool) → T b → NoneOf cs (elim b [ true ↦ [] | false ↦ j ∷ upto j js ])
      by true t = tt
      by false t = absurd t

  later : (Applies cs j → ⊥) → Found cs js → Found cs (j ∷ js)
  unfolding upto NoneOf
  later n (clear c) = clear (n, c)
  later n (first k a c) = first k a (by (eqb j k))
    where
      by : (b : Bool) → NoneOf cs (elim b [ true ↦ [] | false ↦ j ∷ upto k js ])
      by true = tt
      by false = (n, c)
  later n unknown = unknown

  step : Tested (Applies cs j) → ((u : Unit {0}) → Found cs js) → Found cs (j ∷ js)
  unfolding here later
  step (holds a) rest = here a
  step (fails n) rest = later n (rest tt)
  step untested rest = unknown

unfoldable pub scan : (cs : List Condition) → TestedAll cs → (ks : List ℕ) → Found cs ks
unfolding applies step NoneOf
scan cs ts [] = clear tt
scan cs ts (k ∷ ks) = step cs k ks (applies cs ts k) (λ u. scan cs ts ks)

verdict : {cs : List Condition} {ks : List ℕ} → Found cs ks → Option (Outcome (Unit {0}))
verdict (clear n) = some (accepted tt)
verdict (first k a n) = some (refused k)
verdict unknown = none

-- the verdict of the tests, where they settle it
unfoldable pub verdict_of : (cs : List Condition) → TestedAll cs → Option (Outcome (Unit {0}))
unfolding scan verdict precedence
verdict_of cs ts = verdict (scan cs ts precedence)

module _ (cs : List Condition) where
  Right : Option (Outcome (Unit {0})) → Type 0
  Right none = Unit {0}
  Right (some o) = Returns cs (λ (u : Unit {0}). Unit {0}) o

  right : (f : Found cs precedence) → Right (verdict f)
  unfolding verdict Right Checked Returns
  right (clear n) = (n, tt)
  right (first k a n) = (a, n)
  right unknown = tt

  -- A verdict that the tests settle is right: `checked cs (t₁, (t₂, (t₃, tt))) v refl` under `unfolding verdict_of`.
  pub checked : (ts : TestedAll cs) (v : Verdict) → verdict_of cs ts ≡ some (outcome_of tt v) → Checked cs v
  unfolding verdict_of Right Checked
  checked ts v e = subst Right e (right (scan cs ts precedence))

-- ---- a verdict is one

-- 0 for accepted, which is no refusal's number
abbrev pub number : Verdict → ℕ
number (Ok u) = 0
number (Err r) = number_of r

pub same_number : {v a b : Verdict} → v ≡ a → v ≡ b → number a ≡ number b
same_number e f = ap number (sym e ∙ f)

-- ---- a number is one refusal's

refusal_of : ℕ → Refusal
refusal_of n =
    get_or (
    JobBytes
    ∷ Counts
    ∷ MatrixEntry
    ∷ FloatRange
    ∷ SiteImage
    ∷ Coordinates
    ∷ Determinant
    ∷ Diagonalisation
    ∷ ListedSites
    ∷ Buffer
    ∷ TargetRotation
    ∷ Lattice
    ∷ OrbitFit
    ∷ []
    ) (n - 1) JobBytes

number_back : (r : Refusal) → refusal_of (number_of r) ≡ r
unfolding refusal_of
number_back JobBytes = refl
number_back Counts = refl
number_back MatrixEntry = refl
number_back FloatRange = refl
number_back SiteImage = refl
number_back Coordinates = refl
number_back Determinant = refl
number_back Diagonalisation = refl
number_back ListedSites = refl
number_back Buffer = refl
number_back TargetRotation = refl
number_back Lattice = refl
number_back OrbitFit = refl

pub number_one : (r s : Refusal) → number_of r ≡ number_of s → r ≡ s
number_one r s e = sym (number_back r) ∙ ap refusal_of e ∙ number_back s

-- ---- a refusal passed on by `?`

-- what a promise says of the refusal that was passed on, it says of the result
pub passed_on : {A : Type 0} (P : Result A Refusal → Type 0) (k : Refusal) (r : Result A Refusal) → IsErrAnd r (λ j. j ≡ k) → P (Err k) → P r
passed_on P k (Ok a) e p = absurd e
passed_on P k (Err j) e p = subst (λ i. P (Err i)) (sym e) p

-- ---- what a result tells of an outcome

value_or : {A : Type 0} → A → Outcome A → A
value_or d (accepted a) = a
value_or d (refused k) = d

number_or : {A : Type 0} → ℕ → Outcome A → ℕ
number_or d (accepted a) = d
number_or d (refused k) = k

IsRefused : {A : Type 0} → Outcome A → Type 0
IsRefused (accepted a) = ⊥
IsRefused (refused k) = Unit {0}

-- of an accepted answer what g says of it
pub tells_answer : {A B : Type 0} (g : A → B) (a : A) (r : Result B Refusal) → TellsOf g (accepted a) r → r ≡ Ok (g a)
unfolding value_or IsRefused
tells_answer g a (Ok b) e = ap Ok (sym (ap (value_or b) e))
tells_answer g a (Err s) e = absurd (subst IsRefused (sym e) tt)

-- of a refusal its number
pub tells_number : {A B : Type 0} (g : A → B) (k : ℕ) (r : Result B Refusal) → TellsOf g (refused k) r → (s : Refusal) × (r ≡ Err s) × (number_of s ≡ k)
unfolding number_or IsRefused
tells_number g k (Ok b) e = absurd (subst IsRefused e tt)
tells_number g k (Err s) e = (s, refl, sym (ap (number_or k) e))

-- a result has one value, or one error
ok_or : {A B : Type 0} → A → Result A B → A
ok_or d (Ok a) = a
ok_or d (Err b) = d

err_or : {A B : Type 0} → B → Result A B → B
err_or d (Ok a) = d
err_or d (Err b) = b

pub ok_once : {A B : Type 0} (r : Result A B) (a b : A) → r ≡ Ok a → r ≡ Ok b → a ≡ b
unfolding ok_or
ok_once r a b e f = ap (ok_or a) (sym e ∙ f)

pub err_once : {A B : Type 0} (r : Result A B) (a b : B) → r ≡ Err a → r ≡ Err b → a ≡ b
unfolding err_or
err_once r a b e f = ap (err_or a) (sym e ∙ f)

-- no result is both
pub not_both : {A B : Type 0} (r : Result A B) (a : A) (b : B) → r ≡ Ok a → r ≡ Err b → ⊥
not_both r a b e f = subst Is (sym e ∙ f) tt
  where
    Is : {A B : Type 0} → Result A B → Type 0
    Is (Ok a) = Unit {0}
    Is (Err b) = ⊥

-- ---- a verdict with an answer

module _ {A : Type 0} (cs : List Condition) (Answer : A → Type 0) where
  pub refused_with_lem : (r : Refusal) → Checked cs (Err r) → Returns cs Answer (refused (number_of r))
  unfolding Checked Returns
  refused_with_lem r e = e

  pub accepted_with : (a : A) → Checked cs (Ok tt) → Answer a → Returns cs Answer (accepted a)
  unfolding Checked Returns
  accepted_with a e h = (e.0, h)

-- the verdict of a call that answers a value
abbrev pub verdict_in : {B : Type 0} → Result B Refusal → Verdict
verdict_in (Ok b) = Ok tt
verdict_in (Err r) = Err r

module _ {A B : Type 0} (cs : List Condition) (Answer : A → Type 0) (f : B → A) where
  pub checked_in : (r : Result B Refusal) → Returns cs Answer (outcome f r) → Checked cs (verdict_in r)
  unfolding Checked Returns
  checked_in (Ok b) h = (h.0, tt)
  checked_in (Err r) h = h

-- ---- an answer in several lent lists

module _ {A : Type 0} (cs : List Condition) (Is Holds : A → Type 0) (Zero : Type 0) where
  -- what such a call returns
  pub answered_returns : (o : Outcome A) → Answered cs Is Holds Zero o → Returns cs Is o
  answered_returns (accepted a) h = h.0
  answered_returns (refused k) h = h.0

  -- how its promise is kept
  pub promise_accepted : (a : A) → Checked cs (Ok tt) → Is a → Holds a → Promised cs Is Holds Zero (Ok tt)
  promise_accepted a e i h = (accepted a, (accepted_with cs Is a e i, h), refl)

  pub promise_refused : (r : Refusal) → Checked cs (Err r) → Zero → Promised cs Is Holds Zero (Err r)
  promise_refused r e z = (refused (number_of r), (refused_with_lem cs Is r e, z), refl)

-- ---- test by test: a call's conditions in the order of its tests

-- the n-th condition holds
unfoldable pub HoldsAt : List Condition → ℕ → Type 0
HoldsAt [] n = ⊥
HoldsAt (c ∷ cs) zero = c.holds
HoldsAt (c ∷ cs) (suc n) = HoldsAt cs n

-- none of the first n does
unfoldable pub Passed : List Condition → ℕ → Type 0
Passed cs zero = Unit {0}
Passed [] (suc n) = Unit {0}
Passed (c ∷ cs) (suc n) = (c.holds → ⊥) × Passed cs n

-- one test more
pub pass : (cs : List Condition) (n : ℕ) → Passed cs n → (HoldsAt cs n → ⊥) → Passed cs (suc n)
unfolding Passed HoldsAt
pass [] n p f = tt
pass (c ∷ cs) zero p f = (f, tt)
pass (c ∷ cs) (suc n) p f = (p.0, pass cs n p.1 f)

unfoldable pub none_tested : (cs : List Condition) → TestedAll cs
unfolding TestedAll
none_tested [] = tt
none_tested (c ∷ cs) = (untested, none_tested cs)

unfoldable pub found_at_lem : (cs : List Condition) (n : ℕ) → Passed cs n → HoldsAt cs n → TestedAll cs
unfolding TestedAll Passed HoldsAt none_tested
found_at_lem [] n p h = absurd h
found_at_lem (c ∷ cs) zero p h = (holds h, none_tested cs)
found_at_lem (c ∷ cs) (suc n) p h = (fails p.0, found_at_lem cs n p.1 h)

unfoldable pub found_none : (cs : List Condition) → Passed cs (length cs) → TestedAll cs
unfolding TestedAll Passed
found_none [] p = tt
found_none (c ∷ cs) p = (fails p.0, found_none cs p.1)

-- The n-th test is the first that holds: `refuse cs n p h v refl` under `unfolding verdict_of found_at_lem`; none does:
-- `accept cs p refl`.
pub refuse : (cs : List Condition) (n : ℕ) (p : Passed cs n) (h : HoldsAt cs n) (v : Verdict) → verdict_of cs (found_at_lem cs n p h) ≡ some (outcome_of tt v) → Checked cs v
refuse cs n p h v e = checked cs (found_at_lem cs n p h) v e

pub accept : (cs : List Condition) (p : Passed cs (length cs)) → verdict_of cs (found_none cs p) ≡ some (accepted tt) → Checked cs (Ok tt)
accept cs p e = checked cs (found_none cs p) (Ok tt) e
