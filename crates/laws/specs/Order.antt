-- Which number applies first: one at the most. What is left to a call that is past the numbers before one.
use Rattle.std.specs.Prelude.{ℕ, ◌≡◌, Bool, ◌&&◌, List, [], ◌∷◌, ◌++◌, ◌⊎◌, T, eqb}
use Rattle.std.proofs.Common.{sym, subst, ◌∙◌, inl, eqb→eq}
use Rattle.std.proofs.Math.Bool.{true, false}
use Rattle.std.proofs.Math.Logic.{inr, ⊎_elim}
use Rattle.std.proofs.Math.Dec.{eqb_refl}
use Rattle.definitions.specs.Lists.{any}
use Rattle.definitions.specs.Refusal.{Condition, Applies, NoneOf, upto, precedence, Past, Returns, Checked, number, Verdict}
use Rattle.std.specs.Prelude.{Ok, Err}
use Rattle.laws.specs.Tests.{and_left, and_right}

abbrev pub among : List ℕ → ℕ → Bool
among ns k = any (λ n. eqb n k) ns

pub none_of : (cs : List Condition) (ks : List ℕ) (k : ℕ) → T (among ks k) → NoneOf cs ks → Applies cs k → ⊥
unfolding any NoneOf
none_of cs [] k m n a = m
none_of cs (i ∷ ks) k m n a = by (eqb i k) (eqb→eq i k) m (none_of cs ks k)
  where
    by : (b : Bool) → (T b → i ≡ k) → T (elim b [ true ↦ true | false ↦ among ks k ]) → (T (among ks k) → NoneOf cs ks → Applies cs k → ⊥) → ⊥
    by true e m rest = n.0 (subst (Applies cs) (sym (e tt)) a)
    by false e m rest = rest m n.1 a

-- where the conditions ds apply as the conditions cs do, or more
pub none_over : (cs ds : List Condition) → ((k : ℕ) → Applies cs k → Applies ds k) → (ks : List ℕ) → NoneOf ds ks → NoneOf cs ks
unfolding NoneOf
none_over cs ds more [] n = tt
none_over cs ds more (k ∷ ks) n = (λ a. n.0 (more k a), none_over cs ds more ks n.1)

module _ (c : Condition) (cs : List Condition) (k : ℕ) where
  By : Bool → Type 0
  By b = elim b as (λ (x : Bool). Type 0) [ true ↦ c.holds ⊎ Applies cs k | false ↦ Applies cs k ]

  pub later_applies : Applies cs k → Applies (c ∷ cs) k
  unfolding Applies By
  later_applies a = by (eqb c.number k)
    where
      by : (b : Bool) → By b
      by true = inr a
      by false = a

  pub applies_later : (c.holds → ⊥) → Applies (c ∷ cs) k → Applies cs k
  unfolding Applies By
  applies_later n a = by (eqb c.number k) a
    where
      by : (b : Bool) → By b → Applies cs k
      by true a = ⊎_elim (λ h. absurd (n h)) (λ a. a) a
      by false a = a

pub head_applies : (c : Condition) (cs : List Condition) → c.holds → Applies (c ∷ cs) c.number
unfolding Applies
head_applies c cs h = by (eqb c.number c.number) (eqb_refl c.number)
  where
    by : (b : Bool) → T b → elim b as (λ (x : Bool). Type 0) [ true ↦ c.holds ⊎ Applies cs c.number | false ↦ Applies cs c.number ]
    by true t = inl h
    by false t = absurd t

-- ---- one condition more, at the end

abbrev Either : Condition → List Condition → ℕ → Type 0
Either d cs k = Applies cs k ⊎ ((d.number ≡ k) × d.holds)

applies_alone : (d : Condition) (k : ℕ) → Applies (d ∷ []) k → (d.number ≡ k) × d.holds
unfolding Applies
applies_alone d k = by (eqb d.number k) (eqb→eq d.number k)
  where
    by : (b : Bool) → (T b → d.number ≡ k) → elim b as (λ (x : Bool). Type 0) [ true ↦ d.holds ⊎ ⊥ | false ↦ ⊥ ] → (d.number ≡ k) × d.holds
    by true e a = ⊎_elim (λ h. (e tt, h)) (λ n. absurd n) a
    by false e a = absurd a

-- a number that applies is one of those before, or the last one's
pub applies_last : (cs : List Condition) (d : Condition) (k : ℕ) → Applies (cs ++ (d ∷ [])) k → Either d cs k
unfolding Applies
applies_last [] d k a = inr (applies_alone d k a)
applies_last (c ∷ cs) d k a = by (eqb c.number k) a (applies_last cs d k)
  where
    With : List Condition → Bool → Type 0
    With l b = elim b as (λ (x : Bool). Type 0) [ true ↦ c.holds ⊎ Applies l k | false ↦ Applies l k ]

    by : (b : Bool) → With (cs ++ (d ∷ [])) b → (Applies (cs ++ (d ∷ [])) k → Either d cs k) → With cs b ⊎ ((d.number ≡ k) × d.holds)
    by true a rest = ⊎_elim (λ h. inl (inl h)) (λ r. ⊎_elim (λ x. inl (inr x)) (λ y. inr y) (rest r)) a
    by false a rest = rest a

pub applies_more : (cs : List Condition) (d : Condition) (k : ℕ) → Applies cs k → Applies (cs ++ (d ∷ [])) k
unfolding Applies
applies_more [] d k a = absurd a
applies_more (c ∷ cs) d k a = by (eqb c.number k) a (applies_more cs d k)
  where
    With : List Condition → Bool → Type 0
    With l b = elim b as (λ (x : Bool). Type 0) [ true ↦ c.holds ⊎ Applies l k | false ↦ Applies l k ]

    by : (b : Bool) → With cs b → (Applies cs k → Applies (cs ++ (d ∷ [])) k) → With (cs ++ (d ∷ [])) b
    by true a rest = ⊎_elim (λ h. inl h) (λ r. inr (rest r)) a
    by false a rest = rest a

-- a condition that cannot hold past those before its number may be left out
pub checked_without :
    (cs : List Condition) (d : Condition) (v : Verdict) → (Past d.number (cs ++ (d ∷ [])) → d.holds → ⊥) →
    Checked (cs ++ (d ∷ [])) v → Checked cs v
unfolding Checked Returns
checked_without cs d (Ok u) never e = (none_over cs (cs ++ (d ∷ [])) (applies_more cs d) precedence e.0, tt)
checked_without cs d (Err r) never e = (
  ⊎_elim (λ a. a) (λ x. absurd (never (subst (λ n. Past n (cs ++ (d ∷ []))) (sym x.0) e.1) x.1)) (applies_last cs d (number r) e.0),
  none_over cs (cs ++ (d ∷ [])) (applies_more cs d) (upto (number r) precedence) e.1,
)

-- ---- every condition has a number of the order

unfoldable pub numbered : List Condition → Bool
unfolding any precedence
numbered [] = true
numbered (c ∷ cs) = among precedence c.number && numbered cs

pub applies_numbered : (cs : List Condition) (k : ℕ) → T (numbered cs) → Applies cs k → T (among precedence k)
unfolding numbered Applies
applies_numbered [] k t a = absurd a
applies_numbered (c ∷ cs) k t a =
    by (eqb c.number k) (eqb→eq c.number k) a (applies_numbered cs k (and_right (among precedence c.number) (numbered cs) t))
  where
    by :
        (b : Bool) → (T b → c.number ≡ k) → elim b as (λ (x : Bool). Type 0) [ true ↦ c.holds ⊎ Applies cs k | false ↦ Applies cs k ] →
        (Applies cs k → T (among precedence k)) → T (among precedence k)
    by true e a rest = subst (λ n. T (among precedence n)) (e tt) (and_left (among precedence c.number) (numbered cs) t)
    by false e a rest = rest a

-- ---- the first number that applies

-- two numbers of a list, each with none before it that applies, are one
pub first_unique :
    (cs : List Condition) (ks : List ℕ) (k l : ℕ) → T (among ks k) → T (among ks l) → Applies cs k → NoneOf cs (upto k ks) →
    Applies cs l → NoneOf cs (upto l ks) → k ≡ l
unfolding any upto NoneOf
first_unique cs [] k l m n a p b q = absurd m
first_unique cs (i ∷ ks) k l m n a p b q =
    by (eqb i k) (eqb→eq i k) (eqb i l) (eqb→eq i l) m n p q (λ m n p q. first_unique cs ks k l m n a p b q)
  where
    In : Bool → ℕ → Type 0
    In t j = T (elim t [ true ↦ true | false ↦ among ks j ])

    Before : Bool → ℕ → Type 0
    Before t j = NoneOf cs (elim t as (λ (x : Bool). List ℕ) [ true ↦ [] | false ↦ i ∷ upto j ks ])

    by :
        (s : Bool) → (T s → i ≡ k) → (t : Bool) → (T t → i ≡ l) → In s k → In t l → Before s k → Before t l →
        (T (among ks k) → T (among ks l) → NoneOf cs (upto k ks) → NoneOf cs (upto l ks) → k ≡ l) → k ≡ l
    by true e true f m n p q rest = sym (e tt) ∙ f tt
    by true e false f m n p q rest = absurd (q.0 (subst (Applies cs) (sym (e tt)) a))
    by false e true f m n p q rest = absurd (p.0 (subst (Applies cs) (sym (f tt)) b))
    by false e false f m n p q rest = rest m n p.1 q.1

-- ---- a call past all of its conditions, or past those before one

-- each condition of the list fails
unfoldable pub FailAll : List Condition → Type 0
FailAll [] = Unit {0}
FailAll (c ∷ cs) = (c.holds → ⊥) × FailAll cs

fail_all : (cs : List Condition) → ((k : ℕ) → T (among precedence k) → Applies cs k → ⊥) → T (numbered cs) → FailAll cs
unfolding numbered FailAll
fail_all [] f t = tt
fail_all (c ∷ cs) f t = (
  λ h. f c.number (and_left (among precedence c.number) (numbered cs) t) (head_applies c cs h),
  fail_all cs (λ k m a. f k m (later_applies c cs k a)) (and_right (among precedence c.number) (numbered cs) t),
)

-- Used as `past cs tt e` under `unfolding numbered`.
pub past : (cs : List Condition) → T (numbered cs) → Checked cs (Ok tt) → FailAll cs
unfolding Checked Returns
past cs t e = fail_all cs (λ k m a. none_of cs precedence k m e.0 a) t

-- each condition with a number before k fails
unfoldable pub FailBefore : ℕ → List Condition → Type 0
FailBefore k [] = Unit {0}
FailBefore k (c ∷ cs) = (T (among (upto k precedence) c.number) → c.holds → ⊥) × FailBefore k cs

pub past_before : (k : ℕ) (cs : List Condition) → Past k cs → FailBefore k cs
unfolding FailBefore
past_before k cs p = go cs (λ l m a. none_of cs (upto k precedence) l m p a)
  where
    go : (ds : List Condition) → ((l : ℕ) → T (among (upto k precedence) l) → Applies ds l → ⊥) → FailBefore k ds
    go [] f = tt
    go (c ∷ ds) f = (λ m h. f c.number m (head_applies c ds h), go ds (λ l m a. f l m (later_applies c ds l a)))
