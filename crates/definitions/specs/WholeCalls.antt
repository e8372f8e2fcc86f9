-- The whole call, on a job's lists and on its bytes, and the report.
use Rattle.std.specs.Prelude.{ℕ, ◌≡◌, Bool, ◌||◌, List, [], ◌∷◌, ◌++◌, map, length, get_or, replicate, take, drop, T, ℤ, pos, Float}
use Rattle.definitions.specs.declared.Position.{Position}
use Rattle.std.specs.Prelude.{Result}
use Rattle.definitions.specs.declared.Refusal.{Refusal}
use Rattle.definitions.specs.declared.AnswerCounts.{AnswerCounts}
use Rattle.definitions.specs.declared.JobCounts.{JobCounts}
use Rattle.definitions.specs.Lists.{any}
use Rattle.definitions.specs.Refusal.{Condition, ◌when◌, job_bytes, counts, buffer}
use Rattle.definitions.specs.Refusal.{Outcome, accepted, told as told_of, TellsOf, Returns, Answered, Holds}
use Rattle.definitions.specs.Matrix.{Matrix}
use Rattle.definitions.specs.Limits.{text_bytes, most_sites, most_listed, shorter_than}
use Rattle.definitions.specs.Real.{RealMatrix, zero_f, origin}
use Rattle.definitions.specs.Job.{Parts, IsJob, NoJob, Job, float, position_of, rows_of, centring_of, job_of}
use Rattle.definitions.specs.Lent.{cells_of, zero_cells, zero_point, zero_matrix, zero_basis, operations_from}
use Rattle.definitions.specs.Lent.{sites_from, candidates_from, unlike}
use Rattle.definitions.specs.Standardize.{Rooms, Answer, IsAnswer, job_conditions}
use Rattle.definitions.specs.Standardize.{bytes_conditions, OfParts, BytesReturn}
use Rattle.definitions.specs.Report.{report}

-- ---- symmetrize/standardize.rs: the whole call

-- The arguments of the call on lists, each list as it is lent.
pub record Given : Type 0 where
  pub lattice : RealMatrix
  pub t : Matrix
  pub shift : Position
  pub c : Matrix
  pub elements : List ℤ
  pub positions : List (List Float)
  pub rotations : List Matrix
  pub translations : List (List Float)
  pub images : List ℕ
  pub rotations_of_targets : List Matrix
  pub translations_of_targets : List (List Float)
  pub conventional : List Matrix
  pub multiplicities : List ℕ
  pub letters : List ℕ
  pub texts : List (List ℕ)
  pub symprec : Float

-- the job that they are
unfoldable pub job_from : Given → Job
job_from x =
    record {
      lattice = x.lattice;
      t = x.t;
      shift = x.shift;
      c = x.c;
      sites = sites_from x.elements x.positions;
      operations = operations_from x.rotations x.translations;
      images = x.images;
      targets = operations_from x.rotations_of_targets x.translations_of_targets;
      rotations = x.conventional;
      candidates = candidates_from x.multiplicities x.letters x.texts;
      symprec = x.symprec;
    }

-- lists that belong together and differ in length
abbrev pub unlike_lists : Given → Bool
unlike_lists x =
    unlike (length x.elements) (length x.positions)
    || unlike (length x.translations) (length x.rotations)
    || unlike (length x.translations_of_targets) (length x.rotations_of_targets)
    || unlike (length x.multiplicities) (length x.texts)
    || unlike (length x.letters) (length x.texts)

-- 2 to 13
abbrev pub lists_conditions : Given → Rooms → List Condition
lists_conditions x rooms = (counts when T (unlike_lists x)) ∷ job_conditions (job_from x) rooms

-- its lent lists and matrices
pub record AnswerCells : Type 0 where
  pub positions : List (List Float)
  pub points : List (List ℤ)
  pub mapping : List ℕ
  pub elements : List ℤ
  pub labels : List ℕ
  pub multiplicities : List ℕ
  pub letters : List ℕ
  pub primitive : List (List Float)
  pub primitive_cell_basis : RealMatrix
  pub listed_cell_basis : RealMatrix
  pub factors : List ℤ

abbrev pub rooms_of : AnswerCells → Rooms
rooms_of e =
    record {
      positions = length e.positions;
      points = length e.points;
      mapping = length e.mapping;
      elements = length e.elements;
      labels = length e.labels;
      multiplicities = length e.multiplicities;
      letters = length e.letters;
      primitive = length e.primitive;
    }

pub record HoldsAnswer (entry exit : AnswerCells) (a : Answer) : Type 0 where
  pub positions : Holds zero_cells entry.positions exit.positions (map cells_of a.positions)
  pub points : Holds zero_point entry.points exit.points a.points
  pub mapping : Holds 0 entry.mapping exit.mapping a.mapping
  pub elements : Holds (pos 0) entry.elements exit.elements a.elements
  pub labels : Holds 0 entry.labels exit.labels a.labels
  pub multiplicities : Holds 0 entry.multiplicities exit.multiplicities a.multiplicities
  pub letters : Holds 0 entry.letters exit.letters a.letters
  pub primitive : Holds zero_cells entry.primitive exit.primitive (map cells_of a.primitive)
  pub primitive_cell_basis : exit.primitive_cell_basis ≡ a.primitive_cell_basis
  pub listed_cell_basis : exit.listed_cell_basis ≡ a.listed_cell_basis
  pub factors : exit.factors ≡ a.factors

-- all zero
abbrev pub nothing_answered : Answer
nothing_answered =
    record {
      positions = [];
      points = [];
      mapping = [];
      elements = [];
      labels = [];
      multiplicities = [];
      letters = [];
      primitive = [];
      primitive_cell_basis = zero_basis;
      listed_cell_basis = zero_basis;
      factors = zero_point;
      sites = 0;
      orbits = 0;
    }

-- what is told of an answer beside its lists
abbrev pub answer_counts : Answer → AnswerCounts
answer_counts a = record { sites = a.sites; orbits = a.orbits }

abbrev pub WholeAnswered : List Condition → (Answer → Type 0) → AnswerCells → AnswerCells → Outcome Answer → Type 0
WholeAnswered cs Is entry exit = Answered cs Is (HoldsAnswer entry exit) (HoldsAnswer entry exit nothing_answered)

abbrev pub WholePromised :
    List Condition → (Answer → Type 0) → AnswerCells → AnswerCells → Result AnswerCounts Refusal → Type 0
WholePromised cs Is entry exit r = (o : Outcome Answer) × WholeAnswered cs Is entry exit o × TellsOf answer_counts o r

-- the whole call on lists
abbrev pub ListsPromise : Given → AnswerCells → AnswerCells → Result AnswerCounts Refusal → Type 0
ListsPromise x entry exit =
    WholePromised (lists_conditions x (rooms_of entry)) (IsAnswer (job_from x)) entry exit

-- the whole call on bytes
abbrev pub BytesPromise : List ℕ → AnswerCells → AnswerCells → Result AnswerCounts Refusal → Type 0
BytesPromise bs entry exit =
    WholePromised (bytes_conditions bs (rooms_of entry)) (λ a. OfParts bs (λ p. IsAnswer (job_of p) a)) entry exit

-- ---- the job's bytes

-- the lists that a job's parts are
unfoldable pub given_of : Parts → Given
unfolding job_of
given_of p =
    record {
      lattice = (job_of p).lattice;
      t = rows_of p.t;
      shift = position_of p.shift;
      c = centring_of p;
      elements = map (λ s. s.element) p.sites;
      positions = map (λ s. cells_of (position_of s.position)) p.sites;
      rotations = map (λ o. rows_of o.rotation) p.operations;
      translations = map (λ o. cells_of (position_of o.translation)) p.operations;
      images = p.images;
      rotations_of_targets = map (λ o. rows_of o.rotation) p.targets;
      translations_of_targets = map (λ o. cells_of (position_of o.translation)) p.targets;
      conventional = map rows_of p.rotations;
      multiplicities = map (λ w. w.multiplicity) p.candidates;
      letters = map (λ w. w.letter) p.candidates;
      texts = map (λ w. w.text) p.candidates;
      symprec = float p.symprec;
    }

-- one entry a byte: 64 zero bytes
abbrev pub zero_text : List ℕ
zero_text = replicate text_bytes 0

-- Lent lists hold what was read, and are zero behind it.
pub record HoldsGiven (entry exit a : Given) : Type 0 where
  pub lattice : exit.lattice ≡ a.lattice
  pub t : exit.t ≡ a.t
  pub shift : exit.shift ≡ a.shift
  pub c : exit.c ≡ a.c
  pub elements : Holds (pos 0) entry.elements exit.elements a.elements
  pub positions : Holds zero_cells entry.positions exit.positions a.positions
  pub rotations : Holds zero_matrix entry.rotations exit.rotations a.rotations
  pub translations : Holds zero_cells entry.translations exit.translations a.translations
  pub images : Holds 0 entry.images exit.images a.images
  pub rotations_of_targets : Holds zero_matrix entry.rotations_of_targets exit.rotations_of_targets a.rotations_of_targets
  pub translations_of_targets :
      Holds zero_cells entry.translations_of_targets exit.translations_of_targets a.translations_of_targets
  pub conventional : Holds zero_matrix entry.conventional exit.conventional a.conventional
  pub multiplicities : Holds 0 entry.multiplicities exit.multiplicities a.multiplicities
  pub letters : Holds 0 entry.letters exit.letters a.letters
  pub texts : Holds zero_text entry.texts exit.texts a.texts
  pub symprec : exit.symprec ≡ a.symprec

abbrev pub nothing_given : Given
nothing_given =
    record {
      lattice = zero_basis;
      t = zero_matrix;
      shift = origin;
      c = zero_matrix;
      elements = [];
      positions = [];
      rotations = [];
      translations = [];
      images = [];
      rotations_of_targets = [];
      translations_of_targets = [];
      conventional = [];
      multiplicities = [];
      letters = [];
      texts = [];
      symprec = zero_f;
    }

-- a list is shorter than what would stand in it
abbrev pub too_short_for : Given → Parts → Bool
too_short_for e p =
    any (shorter_than (length p.sites)) (length e.elements ∷ length e.positions ∷ [])
    || any (shorter_than (length p.operations)) (length e.rotations ∷ length e.translations ∷ [])
    || shorter_than (length p.images) (length e.images)
    || any (shorter_than (length p.targets))
    (length e.rotations_of_targets ∷ length e.translations_of_targets ∷ [])
    || shorter_than (length p.rotations) (length e.conventional)
    || any (shorter_than (length p.candidates))
    (length e.multiplicities ∷ length e.letters ∷ length e.texts ∷ [])

-- Read a job's bytes into lent lists: 1, 10.
abbrev pub read_conditions : List ℕ → Given → List Condition
read_conditions bs entry =
    (job_bytes when NoJob bs) ∷ (buffer when OfParts bs (λ p. T (too_short_for entry p))) ∷ []

abbrev pub counts_of : Parts → JobCounts
counts_of p =
    record {
      sites = length p.sites;
      operations = length p.operations;
      images = length p.images;
      targets = length p.targets;
      rotations = length p.rotations;
      candidates = length p.candidates;
    }

abbrev pub ReadPromise : List ℕ → Given → Given → Result JobCounts Refusal → Type 0
ReadPromise bs entry exit r =
    (o : Outcome Parts)
    × Answered (read_conditions bs entry) (IsJob bs) (λ p. HoldsGiven entry exit (given_of p))
    (HoldsGiven entry exit nothing_given) o
    × TellsOf counts_of o r

-- Count the commands of a job's bytes: 1.
abbrev pub count_conditions : List ℕ → List Condition
count_conditions bs = (job_bytes when NoJob bs) ∷ []

abbrev pub CountPromise : List ℕ → Result JobCounts Refusal → Type 0
CountPromise bs r = (o : Outcome Parts) × Returns (count_conditions bs) (IsJob bs) o × TellsOf counts_of o r

-- ---- the report program

-- room for every answer
abbrev pub ample : Rooms
ample =
    record {
      positions = most_listed;
      points = most_listed;
      mapping = most_listed;
      elements = most_listed;
      labels = most_listed;
      multiplicities = most_listed;
      letters = most_listed;
      primitive = most_sites;
    }

-- the lists that a report shows
pub record Shown : Type 0 where
  pub mapping : List ℕ
  pub labels : List ℕ
  pub multiplicities : List ℕ
  pub letters : List ℕ

abbrev pub SameEntries : List ℕ → List ℕ → Type 0
SameEntries cells answer = (j : ℕ) → get_or cells j 0 ≡ get_or answer j 0

-- What is told of a job, and the cells of these lists, are those of the outcome o.
pub record Tells (r : Outcome AnswerCounts) (cells : Shown) (o : Outcome Answer) : Type 0 where
  pub told : told_of answer_counts o ≡ r
  pub mapping : (a : Answer) → o ≡ accepted a → SameEntries cells.mapping a.mapping
  pub labels : (a : Answer) → o ≡ accepted a → SameEntries cells.labels a.labels
  pub multiplicities : (a : Answer) → o ≡ accepted a → SameEntries cells.multiplicities a.multiplicities
  pub letters : (a : Answer) → o ≡ accepted a → SameEntries cells.letters a.letters

-- As much of a text as there is room for, at the front of lent bytes; n of them.
pub record Written (text entry exit : List ℕ) (n : ℕ) : Type 0 where
  pub bytes : exit ≡ take (length entry) text ++ drop (length text) entry
  pub count : n ≡ length (take (length entry) text)

-- the step that writes the report
abbrev pub ReportWritten : Outcome AnswerCounts → Shown → List ℕ → List ℕ → ℕ → Type 0
ReportWritten r cells entry exit n = (o : Outcome Answer) → Tells r cells o → Written (report o) entry exit n

-- the text that is printed for the bytes on standard input
abbrev pub ReportPromise : List ℕ → List ℕ → Type 0
ReportPromise bs text =
    (o : Outcome Answer) × BytesReturn bs ample o × (text ≡ report o)
