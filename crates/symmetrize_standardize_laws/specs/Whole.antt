-- The promises of the whole call, on lists and on bytes, as calls that demand 3 speaks of; it stands in proofs/.
use Rattle.std.specs.Prelude.{ℕ, ◌≡◌, refl, Bool, true, false, List, [], ◌∷◌, map, ◌⊎◌, T, eqb}
use Rattle.std.proofs.Common.{sym, ap, ◌∙◌, subst, inl, inr, ⊎_elim}
use Rattle.std.proofs.Math.Option.{Option, none, some}
use Rattle.definitions.specs.Lists.{any}
use Rattle.definitions.specs.Refusal.{Condition, ◌when◌, Applies, upto, precedence, Past, job_bytes, counts, orbit_fit, Outcome, accepted, refused, Returns}
use Rattle.definitions.specs.Job.{Parts, Job, IsJob, NoJob, job_of}
use Rattle.definitions.specs.Standardize.{Rooms, Rule, ◌says◌, rules, bytes_rules, job_conditions, OfParts, bytes_conditions, Answer, IsAnswer, JobReturns, BytesReturn}
use Rattle.definitions.specs.WholeCalls.{Given, job_from, unlike_lists, lists_conditions, rooms_of}
use Rattle.definitions.specs.Demand.{IsOneJob}
use Rattle.laws.specs.Order.{none_of, none_over, later_applies, applies_later}
use Rattle.math_matrix.specs.Laws.{Three}
use Rattle.job_laws.specs.Decode.{decode}
use Rattle.job_laws.proofs.Decode.{decode_sound, not_a_job, job_unique}
use Rattle.symmetrize_standardize_laws.specs.Calls.{bytes_call}

-- what a call returns under conditions that apply alike
pub returns_alike :
    {A : Type 0} (cs ds : List Condition) (Is : A → Type 0) → ((k : ℕ) → Applies cs k → Applies ds k) → ((k : ℕ) → Applies ds k → Applies cs k) →
    (o : Outcome A) → Returns cs Is o → Returns ds Is o
unfolding Returns
returns_alike cs ds Is to from (accepted a) r = (none_over ds cs from precedence r.0, r.1)
returns_alike cs ds Is to from (refused k) r = (to k r.0, none_over ds cs from (upto k precedence) r.1)

-- ---- on lists

module _ (x : Given) (rooms : Rooms) where
  abbrev of_job : List Condition
  of_job = job_conditions (job_from x) rooms

  abbrev head : Condition
  head = counts when T (unlike_lists x)

  like : Past orbit_fit (lists_conditions x rooms) → T (unlike_lists x) → ⊥
  unfolding Applies any upto precedence
  like past h = none_of (lists_conditions x rooms) (upto orbit_fit precedence) counts tt past (inl h)

  pub job_past : Past orbit_fit (lists_conditions x rooms) → Past orbit_fit of_job
  job_past = none_over of_job (lists_conditions x rooms) (later_applies head of_job) (upto orbit_fit precedence)

  pub lists_return :
      Past orbit_fit (lists_conditions x rooms) → (o : Outcome Answer) → Returns (lists_conditions x rooms) (IsAnswer (job_from x)) o →
      JobReturns (job_from x) rooms o
  lists_return past =
      returns_alike (lists_conditions x rooms) of_job (IsAnswer (job_from x)) (λ k. applies_later head of_job k (like past)) (later_applies head of_job)

pub shape_of : (x : Given) → Three x.c → Three (job_from x).c
unfolding job_from
shape_of x h = h

-- ---- on bytes

-- a rule of jobs as one of parts
abbrev rule_of_parts : Rule Job → Rule Parts
rule_of_parts r = r.number says λ p. r.holds (job_of p)

-- conditions by rules: where each of the one kind gives one of the other
applies_rules :
    (A B : Rule Job → Type 0) → ((r : Rule Job) → A r → B r) → (rs : List (Rule Job)) (k : ℕ) →
    Applies (map (λ r. r.number when A r) rs) k → Applies (map (λ r. r.number when B r) rs) k
unfolding Applies
applies_rules A B f [] k a = a
applies_rules A B f (r ∷ rs) k a = by (eqb r.number k) a (applies_rules A B f rs k)
  where
    Rest : (Rule Job → Type 0) → Type 0
    Rest P = Applies (map (λ r. r.number when P r) rs) k

    Cases : (Rule Job → Type 0) → Bool → Type 0
    Cases P b = elim b as (λ (x : Bool). Type 0) [ true ↦ P r ⊎ Rest P | false ↦ Rest P ]

    by : (b : Bool) → Cases A b → (Rest A → Rest B) → Cases B b
    by true a rest = ⊎_elim (λ h. inl (f r h)) (λ h. inr (rest h)) a
    by false a rest = rest a

module _ (bs : List ℕ) (rooms : Rooms) (p : Parts) (i : IsJob bs p) (j : Job) (e : job_of p ≡ j) where
  abbrev head_1 : Condition
  head_1 = job_bytes when NoJob bs

  abbrev rest : List Condition
  rest = map (λ r. r.number when OfParts bs r.holds) (bytes_rules rooms)

  of_parts : (P : Job → Type 0) → OfParts bs (λ q. P (job_of q)) → P j
  of_parts P x = subst P (ap job_of (job_unique bs x.0 p x.1 i) ∙ e) x.2

  to_parts : (P : Job → Type 0) → P j → OfParts bs (λ q. P (job_of q))
  to_parts P h = (p, i, subst P (sym e) h)

  pub job_to_bytes : (k : ℕ) → Applies (job_conditions j rooms) k → Applies (bytes_conditions bs rooms) k
  job_to_bytes k a =
      later_applies head_1 rest k
      (applies_rules (λ r. r.holds j) (λ r. OfParts bs (rule_of_parts r).holds) (λ r. to_parts r.holds) (rules rooms) k a)

  pub bytes_to_job : (NoJob bs → ⊥) → (k : ℕ) → Applies (bytes_conditions bs rooms) k → Applies (job_conditions j rooms) k
  bytes_to_job is_job k a =
      applies_rules (λ r. OfParts bs (rule_of_parts r).holds) (λ r. r.holds j) (λ r. of_parts r.holds) (rules rooms) k
      (applies_later head_1 rest k is_job a)

  is_job : Past orbit_fit (bytes_conditions bs rooms) → NoJob bs → ⊥
  unfolding Applies any upto precedence
  is_job past n = none_of (bytes_conditions bs rooms) (upto orbit_fit precedence) job_bytes tt past (inl n)

  pub bytes_past : Past orbit_fit (bytes_conditions bs rooms) → Past orbit_fit (job_conditions j rooms)
  bytes_past = none_over (job_conditions j rooms) (bytes_conditions bs rooms) job_to_bytes (upto orbit_fit precedence)

  pub job_returns : Past orbit_fit (bytes_conditions bs rooms) → (o : Outcome Answer) → BytesReturn bs rooms o → JobReturns j rooms o
  unfolding Returns
  job_returns past (accepted a) h =
      (none_over (job_conditions j rooms) (bytes_conditions bs rooms) job_to_bytes precedence h.0, of_parts (λ k. IsAnswer k a) h.1)
  job_returns past (refused k) h =
      (bytes_to_job (is_job past) k h.0, none_over (job_conditions j rooms) (bytes_conditions bs rooms) job_to_bytes (upto k precedence) h.1)

pub three_of : (p : Parts) → Three (job_of p).c
unfolding job_of
three_of p = refl

-- bytes past 1 are a job's
pub one_job : IsOneJob bytes_call
unfolding Applies any upto precedence
one_job x past = by (decode x.bytes) refl
  where
    cs : List Condition
    cs = bytes_conditions x.bytes (rooms_of x.entry)

    is_job' : NoJob x.bytes → ⊥
    is_job' n = none_of cs (upto orbit_fit precedence) job_bytes tt past (inl n)

    by : (o : Option Parts) → decode x.bytes ≡ o → (j : Job) × bytes_call.IsJob x j × ((k : Job) → bytes_call.IsJob x k → k ≡ j)
    by none e = absurd (is_job' (inr (not_a_job x.bytes e)))
    by (some p) e =
        let i = decode_sound x.bytes p e x.are_bytes_lem in
        (job_of p, (p, i, refl), λ k q. sym q.2 ∙ ap job_of (job_unique x.bytes q.0 p q.1 i))
