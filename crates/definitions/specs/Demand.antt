-- Demand 3, sentence by sentence, as statements about calls. They are proved where the calls are; nothing here is
-- assumed.
use Rattle.std.specs.Prelude.{ℕ, ◌+◌, ◌*◌, ◌<◌, ◌≡◌, ◌↔◌, get_or, length, ℤ}
use mathlib.Core.List.{List, [], ◌∷◌, Memᴰ}
use Rattle.definitions.specs.declared.Position.{Position}
use Rattle.definitions.specs.Refusal.{Condition, Past, orbit_fit, Outcome, accepted, refused}
use Rattle.definitions.specs.Limits.{copies}
use Rattle.definitions.specs.Matrix.{Matrix, apply, sub_v}
use Rattle.definitions.specs.Real.{origin}
use Rattle.definitions.specs.Permutation.{after}
use Rattle.definitions.specs.Orbit.{Joined, Labels, multiplicities}
use Rattle.definitions.specs.Transformation.{aligned}
use Rattle.definitions.specs.Snf.{Run, points}
use Rattle.definitions.specs.Cell.{listed_position}
use Rattle.definitions.specs.Symmetrization.{primitive_positions}
use Rattle.definitions.specs.Job.{Job}
use Rattle.definitions.specs.Wyckoff.{Lettering, Found, Unfit, sites_of, letters}
use Rattle.definitions.specs.Standardize.{site_count, Work, lettering_of, Answer, answer_of}
use Rattle.definitions.specs.SiteCalls.{Listing}

-- ---- no site is counted twice or missed

pub record ExactlyOne (n : ℕ) (P : ℕ → Type 0) : Type 0 where
  pub place : ℕ
  pub below : place < n
  pub has : P place
  pub only : (k : ℕ) → k < n → P k → k ≡ place

-- v and w differ "by whole conventional vectors": by C times three whole numbers
abbrev pub DifferByWhole : Matrix → List ℤ → List ℤ → Type 0
DifferByWhole c v w = (a b d : ℤ) × (sub_v v w ≡ apply c (a ∷ b ∷ d ∷ []))

-- The list `pts` has C's |det C| copies of each of n sites, run by run: "For every primitive site and every whole
-- translation exactly
-- one of that site's listed copies .. has a point that differs from the translation by whole conventional vectors."
abbrev pub Covers : Matrix → ℕ → List (List ℤ) → Type 0
Covers c n pts =
    (i : ℕ) → i < n → (a b d : ℤ) →
    ExactlyOne (copies c) (λ k. DifferByWhole c (a ∷ b ∷ d ∷ []) (get_or pts (i * copies c + k) []))

-- "each with 01's place, position and point": the copy k of site i
pub record Copy (c : Matrix) (r : Run c) (ps : List Position) (l : Listing) (i k : ℕ) : Type 0 where
  pub position :
      get_or l.positions (i * copies c + k) origin
      ≡ listed_position c (get_or ps i origin) (get_or (points r.third) k [])
  pub point : get_or l.points (i * copies c + k) [] ≡ get_or (points r.third) k []
  pub primitive : get_or l.mapping (i * copies c + k) 0 ≡ i

-- the list l is the copies of the primitive sites at ps, and nothing else
pub record Copies (c : Matrix) (ps : List Position) (l : Listing) : Type 0 where
  pub run : Run c
  pub positions : length l.positions ≡ length ps * copies c
  pub points : length l.points ≡ length ps * copies c
  pub mapping : length l.mapping ≡ length ps * copies c
  pub copy : (i k : ℕ) → i < length ps → k < copies c → Copy c run ps l i k
  pub covers : Covers c (length ps) l.points

-- ---- permutations

-- "join the same primitive sites"
abbrev pub JoinTheSame : List (List ℕ) → List (List ℕ) → Type 0
JoinTheSame ps qs = (i j : ℕ) → Joined ps i j ↔ Joined qs i j

-- the same of the sites below n
abbrev pub JoinTheSameBelow : ℕ → List (List ℕ) → List (List ℕ) → Type 0
JoinTheSameBelow n ps qs = (i j : ℕ) → i < n → j < n → Joined ps i j ↔ Joined qs i j

-- made of the permutations ps by products of two, in any number: of one with itself too
pub data Made (ps : List (List ℕ)) : List ℕ → Type 0 where
  given : {p : List ℕ} → Memᴰ p ps → Made ps p
  product : {r s : List ℕ} → Made ps r → Made ps s → Made ps (after r s)

-- qs are the permutations ps "in whatever order .., whichever are repeated and whatever products of two are added"
pub record Rearranged (ps qs : List (List ℕ)) : Type 0 where
  pub kept : (p : List ℕ) → Memᴰ p ps → Memᴰ p qs
  pub known : (q : List ℕ) → Memᴰ q qs → Made ps q

-- ---- outcomes of two calls

-- both get the refusal k or neither does
abbrev pub BothOrNeither : {A B : Type 0} → ℕ → Outcome A → Outcome B → Type 0
BothOrNeither k o o' = (o ≡ refused k) ↔ (o' ≡ refused k)

-- what is read off an accepted answer is the same in both
abbrev pub SameOf : {A B : Type 0} → (A → List ℕ) → (B → List ℕ) → Outcome A → Outcome B → Type 0
SameOf {A} {B} f f' o o' = (a : A) (a' : B) → o ≡ accepted a → o' ≡ accepted a' → f a ≡ f' a'

-- ---- a call that lists

-- its arguments, its conditions on them, C and the primitive positions that they give, and what it promises to return
pub record ListingCall : Type 1 where
  pub Arguments : Type 0
  pub conditions : Arguments → List Condition
  pub centring : Arguments → Matrix
  pub primitive : Arguments → List Position
  pub Promises : Arguments → Outcome Listing → Type 0

-- Past every refusal there are copies, and an accepted answer is these.
pub record DemandOfListing (c : ListingCall) : Type 0 where
  pub has_copies :
      (x : c.Arguments) → Past orbit_fit (c.conditions x) → (l : Listing) × Copies (c.centring x) (c.primitive x) l
  pub just_the_copies :
      (x : c.Arguments) → Past orbit_fit (c.conditions x) → (l : Listing) → c.Promises x (accepted l) →
      Copies (c.centring x) (c.primitive x) l

-- ---- a call that labels

pub record LabellingCall : Type 1 where
  pub Arguments : Type 0
  pub Result : Type 0
  pub conditions : Arguments → List Condition
  pub permutations : Arguments → List (List ℕ)
  pub mapping : Arguments → List ℕ
  pub Promises : Arguments → Outcome Result → Type 0
  pub labels_of : Result → List ℕ
  pub multiplicities_of : Result → List ℕ

module _ (c : LabellingCall) where
  abbrev pub HasLabels : Type 0
  HasLabels =
      (x : c.Arguments) → Past orbit_fit (c.conditions x) →
      (ls : List ℕ) × Labels (c.permutations x) (c.mapping x) ls

  -- "A site's label is the first listed site whose primitive site the aligned permutations join with its own; its
  -- multiplicity the
  -- number of listed sites with that label": in an accepted answer they are just these
  abbrev pub HasJustTheLabels : Type 0
  HasJustTheLabels =
      (x : c.Arguments) → Past orbit_fit (c.conditions x) → (a : c.Result) → c.Promises x (accepted a) →
      Labels (c.permutations x) (c.mapping x) (c.labels_of a)
      × (c.multiplicities_of a ≡ multiplicities (c.labels_of a))

  pub record SameTwo (o o' : Outcome c.Result) : Type 0 where
    pub labels : SameOf c.labels_of c.labels_of o o'
    pub multiplicities : SameOf c.multiplicities_of c.multiplicities_of o o'

  -- two calls with one mapping, whose permutations are in the relation R
  abbrev pub SameLabelsUnder : (List (List ℕ) → List (List ℕ) → Type 0) → Type 0
  SameLabelsUnder R =
      (x x' : c.Arguments) → Past orbit_fit (c.conditions x) → Past orbit_fit (c.conditions x') →
      c.mapping x ≡ c.mapping x' → R (c.permutations x) (c.permutations x') →
      (o o' : Outcome c.Result) → c.Promises x o → c.Promises x' o' → SameTwo o o'

pub record DemandOfLabelling (c : LabellingCall) : Type 0 where
  pub has_labels : HasLabels c
  pub just_the_labels : HasJustTheLabels c
  pub order_free : SameLabelsUnder c Rearranged
  pub alike_free : SameLabelsUnder c JoinTheSame

-- ---- a call that fits one design: it letters it, whether or not it returns the letters

pub record FittingCall : Type 1 where
  pub Arguments : Type 0
  pub Result : Type 0
  pub conditions : Arguments → List Condition
  pub IsDesign : Arguments → Lettering → Type 0
  pub Promises : Arguments → Outcome Result → Type 0

module _ (c : FittingCall) where
  abbrev pub PastBefore13 : c.Arguments → Lettering → Type 0
  PastBefore13 x g = c.IsDesign x g × Past orbit_fit (c.conditions x)

  -- arguments past the refusals before 13 are a design, and what its fits turn on is found
  abbrev pub HasDesign : Type 0
  HasDesign = (x : c.Arguments) → Past orbit_fit (c.conditions x) → (g : Lettering) × c.IsDesign x g × Found g

  -- "In every call that letters one design past those refusals, 13 comes exactly when some orbit has no fit"; "its 13
  -- is the number
  -- alone" is that an outcome is nothing but a number there
  abbrev pub ThirteenExactly : Type 0
  ThirteenExactly =
      (x : c.Arguments) (g : Lettering) → PastBefore13 x g → (o : Outcome c.Result) → c.Promises x o →
      (o ≡ refused orbit_fit) ↔ Unfit g

-- ---- a call that letters one design

pub record LetteringCall : Type 1 where
  pub fitting : FittingCall
  pub labels_of : fitting.Result → List ℕ
  pub multiplicities_of : fitting.Result → List ℕ
  pub letters_of : fitting.Result → List ℕ

-- "alike in .. listed positions, listed basis, candidates and symprec", and in the mapping
pub record Alike (g g' : Lettering) : Type 0 where
  pub mapping : g.mapping ≡ g'.mapping
  pub positions : g.positions ≡ g'.positions
  pub basis : g.basis ≡ g'.basis
  pub candidates : g.candidates ≡ g'.candidates
  pub symprec : g.symprec ≡ g'.symprec

module _ (c : LetteringCall) where
  abbrev Arguments : Type 0
  Arguments = c.fitting.Arguments

  abbrev Result : Type 0
  Result = c.fitting.Result

  abbrev Promises : Arguments → Outcome Result → Type 0
  Promises = c.fitting.Promises

  -- its labels, multiplicities and letters "are just these"
  abbrev pub HasJustTheLetters : Type 0
  HasJustTheLetters =
      (x : Arguments) (g : Lettering) → PastBefore13 c.fitting x g →
      (a : Result) → Promises x (accepted a) → (w : Found g) →
      (c.labels_of a ≡ w.labels)
      × (c.multiplicities_of a ≡ multiplicities w.labels)
      × (c.letters_of a ≡ letters (sites_of w))

  -- "get the same of all four": labels, multiplicities, letters and refusal 13
  pub record SameFour (o o' : Outcome c.fitting.Result) : Type 0 where
    pub thirteen : BothOrNeither orbit_fit o o'
    pub labels : SameOf c.labels_of c.labels_of o o'
    pub multiplicities : SameOf c.multiplicities_of c.multiplicities_of o o'
    pub letters : SameOf c.letters_of c.letters_of o o'

  -- two calls on designs that are alike, with permutations in the relation R, get the same of all four
  abbrev pub SameUnder : (List (List ℕ) → List (List ℕ) → Type 0) → Type 0
  SameUnder R =
      (x x' : Arguments) (g g' : Lettering) →
      PastBefore13 c.fitting x g → PastBefore13 c.fitting x' g' → Alike g g' →
      R g.permutations g'.permutations → (o o' : Outcome Result) → Promises x o → Promises x' o' → SameFour o o'

  -- "At the same listed positions and basis, in whatever order the aligned permutations stand, .. labels,
  -- multiplicities, letters and
  -- refusal 13 are the same"
  abbrev pub OrderFree : Type 0
  OrderFree = SameUnder Rearranged

  -- the same of designs "whose aligned permutations join the same primitive sites"
  abbrev pub AlikeFree : Type 0
  AlikeFree = SameUnder JoinTheSame

pub record DemandOfLettering (c : LetteringCall) : Type 0 where
  pub has_design : HasDesign c.fitting
  pub just_the_letters : HasJustTheLetters c
  pub thirteen : ThirteenExactly c.fitting
  pub order_free : OrderFree c
  pub alike_free : AlikeFree c

-- ---- the call that answers a job whole: its arguments are a job's bytes or lists, with the lent lists

pub record WholeCall : Type 1 where
  pub Arguments : Type 0
  pub conditions : Arguments → List Condition
  pub IsJob : Arguments → Job → Type 0
  pub Promises : Arguments → Outcome Answer → Type 0

-- It letters one design too.
abbrev pub lettering_call : WholeCall → LetteringCall
lettering_call c =
    record {
      fitting =
          record {
            Arguments = c.Arguments;
            Result = Answer;
            conditions = c.conditions;
            IsDesign = λ x g. (j : Job) × c.IsJob x j × (r : Run j.c) × (g ≡ lettering_of j r);
            Promises = c.Promises;
          };
      labels_of = λ a. a.labels;
      multiplicities_of = λ a. a.multiplicities;
      letters_of = λ a. a.letters;
    }

-- the part of an answer that lists
abbrev pub listed : Answer → Listing
listed a = record { positions = a.positions; points = a.points; mapping = a.mapping; elements = a.elements }

-- "any two such jobs alike in C, listed positions, listed basis, candidates and symprec": with the same bits in both
pub record AlikeJobs (j j' : Job) : Type 0 where
  pub run : Run j.c
  pub run' : Run j'.c
  pub c : j.c ≡ j'.c
  pub positions : (lettering_of j run).positions ≡ (lettering_of j' run').positions
  pub basis : (lettering_of j run).basis ≡ (lettering_of j' run').basis
  pub candidates : j.candidates ≡ j'.candidates
  pub symprec : j.symprec ≡ j'.symprec

module _ (c : WholeCall) where
  abbrev PastTwelve : c.Arguments → Job → Type 0
  PastTwelve x j = c.IsJob x j × Past orbit_fit (c.conditions x)

  -- arguments past the refusals before 13 are a job, and one only
  abbrev pub IsOneJob : Type 0
  IsOneJob =
      (x : c.Arguments) → Past orbit_fit (c.conditions x) →
      (j : Job) × c.IsJob x j × ((k : Job) → c.IsJob x k → k ≡ j)

  -- "Whatever job gets past every refusal checked before 13": the work on it is defined, and its answer, were there
  -- one, has each copy
  -- just once
  abbrev pub CountsEachSiteOnce : Type 0
  CountsEachSiteOnce =
      (x : c.Arguments) (j : Job) → PastTwelve x j →
      (w : Work j)
      × Copies j.c (primitive_positions j) (listed (answer_of w))
      × (length (primitive_positions j) ≡ site_count j)

  -- "Copies, points, labels, multiplicities and letters in any accepted answer to one such job are just these, and an
  -- accepted answer
  -- from the call that answers it whole has all five"
  abbrev pub HasJustTheFive : Type 0
  HasJustTheFive =
      (x : c.Arguments) (j : Job) → PastTwelve x j →
      (a : Answer) → c.Promises x (accepted a) → (w : Work j) → a ≡ answer_of w

  -- "any two such jobs alike in .., whose aligned permutations join the same primitive sites, get the same of all four"
  abbrev pub TwoJobs : Type 0
  TwoJobs =
      (x x' : c.Arguments) (j j' : Job) → PastTwelve x j → PastTwelve x' j' → AlikeJobs j j' →
      JoinTheSameBelow (site_count j) (aligned j) (aligned j') →
      (o o' : Outcome Answer) → c.Promises x o → c.Promises x' o' →
      SameFour (lettering_call c) o o'

pub record DemandOfWhole (c : WholeCall) : Type 0 where
  pub one_job : IsOneJob c
  pub each-site_once : CountsEachSiteOnce c
  pub just_the_five : HasJustTheFive c
  pub letters : DemandOfLettering (lettering_call c)
  pub two-jobs : TwoJobs c
