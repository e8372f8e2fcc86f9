-- "A call returns an accepted answer, or one number and nothing else." The one place of the numbers, and of the order
-- in which they are checked.
use Rattle.std.specs.Prelude.{ℕ, ◌-◌, true, false, ◌≡◌, List, [], ◌∷◌, ◌++◌, ◌⊎◌, eqb, length, replicate}
use Rattle.std.specs.Prelude.{Result, Ok, Err}
use Rattle.definitions.specs.declared.Refusal.{Refusal}
use Rattle.definitions.specs.declared.Refusal.TheVariants.{
  JobBytes,
  Counts,
  MatrixEntry,
  FloatRange,
  SiteImage,
  Coordinates,
  Determinant,
  Diagonalisation,
  ListedSites,
  Buffer,
  TargetRotation,
  Lattice,
  OrbitFit,
}

-- ---- the numbers

abbrev pub job_bytes : ℕ
job_bytes = 1

abbrev pub counts : ℕ
counts = 2

abbrev pub matrix_entry : ℕ
matrix_entry = 3

abbrev pub float_range : ℕ
float_range = 4

abbrev pub site_image : ℕ
site_image = 5

abbrev pub coordinates : ℕ
coordinates = 6

abbrev pub determinant : ℕ
determinant = 7

abbrev pub diagonalisation : ℕ
diagonalisation = 8

abbrev pub listed_sites : ℕ
listed_sites = 9

abbrev pub buffer : ℕ
buffer = 10

abbrev pub target_rotation : ℕ
target_rotation = 11

abbrev pub lattice : ℕ
lattice = 12

abbrev pub orbit_fit : ℕ
orbit_fit = 13

-- "If an answer is an enum, a definition lists this paper's number .. for each of its cases"
abbrev pub number : Refusal → ℕ
number JobBytes = job_bytes
number Counts = counts
number MatrixEntry = matrix_entry
number FloatRange = float_range
number SiteImage = site_image
number Coordinates = coordinates
number Determinant = determinant
number Diagonalisation = diagonalisation
number ListedSites = listed_sites
number Buffer = buffer
number TargetRotation = target_rotation
number Lattice = lattice
number OrbitFit = orbit_fit

-- The order of precedence: "The lowest number that applies is returned". A later request inserts its number here, and
-- nothing below changes.
unfoldable pub precedence : List ℕ
precedence =
    job_bytes
    ∷ counts
    ∷ matrix_entry
    ∷ float_range
    ∷ site_image
    ∷ coordinates
    ∷ determinant
    ∷ diagonalisation
    ∷ listed_sites
    ∷ buffer
    ∷ target_rotation
    ∷ lattice
    ∷ orbit_fit
    ∷ []

-- ---- conditions

-- A number with what it says of a call's own arguments. A call has the list of those "that concern its arguments", in
-- any order.
pub record Condition : Type 1 where
  pub number : ℕ
  pub holds : Type 0

infix 60 ◌when◌
abbrev pub ◌when◌ : ℕ → Type 0 → Condition
k when P = record { number = k; holds = P }

-- the number k applies: one of the call's conditions with that number holds
unfoldable pub Applies : List Condition → ℕ → Type 0
Applies [] k = ⊥
Applies (c ∷ cs) k = elim (eqb c.number k) [ true ↦ c.holds ⊎ Applies cs k | false ↦ Applies cs k ]

-- none of the numbers ks applies
unfoldable pub NoneOf : List Condition → List ℕ → Type 0
NoneOf cs [] = Unit {0}
NoneOf cs (k ∷ ks) = (Applies cs k → ⊥) × NoneOf cs ks

-- the part of a list before k
unfoldable pub upto : ℕ → List ℕ → List ℕ
upto k [] = []
upto k (j ∷ js) = elim (eqb j k) [ true ↦ [] | false ↦ j ∷ upto k js ]

-- "past every refusal checked before" k
abbrev pub Past : ℕ → List Condition → Type 0
Past k cs = NoneOf cs (upto k precedence)

-- past every refusal
abbrev pub PastAll : List Condition → Type 0
PastAll cs = NoneOf cs precedence

-- ---- what a call returns

pub data Outcome (A : Type 0) : Type 0 where
  accepted : A → Outcome A
  refused : ℕ → Outcome A

-- A call with the conditions cs, whose accepted answer is what `Answer` says of it, returns this: an answer where no
-- number applies, and otherwise the first number that applies.
unfoldable pub Returns : {A : Type 0} → List Condition → (A → Type 0) → Outcome A → Type 0
Returns cs Answer (accepted a) = PastAll cs × Answer a
Returns cs Answer (refused k) = Applies cs k × Past k cs

-- "If an answer is an enum, a definition lists this paper's number and values for each of its cases": what a call
-- returns, where f reads this paper's answer off what the code's holds.
abbrev pub outcome : {A B : Type 0} → (B → A) → Result B Refusal → Outcome A
outcome f (Ok b) = accepted (f b)
outcome f (Err r) = refused (number r)

-- what is read off a result that holds the number of a refusal, whatever number it is
abbrev pub outcome_by_number : {A : Type 0} → Result A ℕ → Outcome A
outcome_by_number (Ok a) = accepted a
outcome_by_number (Err k) = refused k

-- what a call says whose answer stands in lent lists
abbrev pub Verdict : Type 0
Verdict = Result (Unit {0}) Refusal

-- the verdict of a call whose answer a stands in lent lists
abbrev pub outcome_of : {A : Type 0} → A → Verdict → Outcome A
outcome_of a v = outcome (λ u. a) v

-- The verdict v is right for the conditions cs: accepted where no number applies, and otherwise refused with the first
-- that does.
unfoldable pub Checked : List Condition → Verdict → Type 0
unfolding Returns
Checked cs v = Returns cs (λ (u : Unit {0}). Unit {0}) (outcome_of tt v)

-- a list at the front of so many cells, the others zero
abbrev pub padded : {A : Type 0} → A → List A → ℕ → List A
padded zero front room = front ++ replicate (room - length front) zero

-- what a call writes: its answer if it accepts, nothing if it refuses
abbrev pub written : {A : Type 0} → Verdict → List A → List A
written (Ok u) answer = answer
written (Err r) answer = []

-- A lent list after the call: "After a refusal all lent output is zero", "and so are output entries past the answer".
abbrev pub Lent : {A : Type 0} → A → List A → List A → List A → Verdict → Type 0
Lent zero answer entry exit v = exit ≡ padded zero (written v answer) (length entry)

-- a call with the conditions cs whose answer stands in one lent list
abbrev pub Filled : {A : Type 0} → A → List Condition → List A → List A → List A → Verdict → Type 0
Filled zero cs answer entry exit v = Checked cs v × Lent zero answer entry exit v

-- ---- the promise of a call whose answer stands in several lent lists

-- A call with the conditions cs, whose accepted answer is what `Is` says of it, leaves it in the lent lists as `Holds`
-- says;
-- refused, it leaves them `Zero`.
abbrev pub Answered : {A : Type 0} → List Condition → (A → Type 0) → (A → Type 0) → Type 0 → Outcome A → Type 0
Answered cs Is Holds Zero (accepted a) = Returns cs Is (accepted a) × Holds a
Answered cs Is Holds Zero (refused k) = Returns cs Is (refused k) × Zero

-- what is told of an outcome, where g is told of an accepted answer
abbrev pub told : {A B : Type 0} → (A → B) → Outcome A → Outcome B
told g (accepted a) = accepted (g a)
told g (refused k) = refused k

-- The result r tells the outcome o: an accepted answer by what g says of it, a refusal by its number.
abbrev pub TellsOf : {A B : Type 0} → (A → B) → Outcome A → Result B Refusal → Type 0
TellsOf g o r = told g o ≡ outcome (λ b. b) r

-- The promise: there is such an outcome, and the verdict v tells it.
abbrev pub Promised : {A : Type 0} → List Condition → (A → Type 0) → (A → Type 0) → Type 0 → Verdict → Type 0
Promised {A} cs Is Holds Zero v = (o : Outcome A) × Answered cs Is Holds Zero o × TellsOf (λ a. tt) o v

-- one lent list holds an answer, and is zero behind it
abbrev pub Holds : {A : Type 0} → A → List A → List A → List A → Type 0
Holds zero entry exit answer = exit ≡ padded zero answer (length entry)
