-- The verdict of the whole call test by test: of the lists as they are lent, then of what its sub-calls told.
use Rattle.std.specs.Prelude.{ℕ, ◌*◌, ◌≤◌, ◌≡◌, Bool, false, not, ◌||◌, cond, List, length, take, eqb, ℤ, Float}
use Rattle.definitions.specs.Refusal.{Verdict, TellsOf, number}
use Rattle.std.specs.Prelude.{Result, Err, Ok}
use Rattle.std.specs.List.{filter, enumerate_from}
use Rattle.definitions.specs.declared.Refusal.{Refusal}
use Rattle.definitions.specs.declared.Refusal.TheVariants.{Counts, MatrixEntry, FloatRange, SiteImage, Coordinates, Determinant, Diagonalisation, ListedSites, Buffer, TargetRotation, Lattice, OrbitFit}
use Rattle.definitions.specs.declared.AnswerCounts.{AnswerCounts}
use Rattle.definitions.specs.Lists.{all, any}
use Rattle.definitions.specs.Refusal.{Outcome, Answered}
use Rattle.definitions.specs.Limits.{too_many_sites, not_some, too_many_candidates, in_range, in_range_of_c, lattice_within}
use Rattle.definitions.specs.Limits.{position_within, good_symprec, not_unimodular, copies, bad_copies, too_many_listed}
use Rattle.definitions.specs.Limits.{shorter_than, most_copies}
use Rattle.definitions.specs.Matrix.{Matrix}
use Rattle.definitions.specs.Orbit.{orbits}
use Rattle.definitions.specs.Calls.{PositionsPromise, PointsPromise}
use Rattle.definitions.specs.SiteCalls.{ListingCells, CopiesListed, LabelArguments, LabelCells, LetterCells}
use Rattle.definitions.specs.SiteCalls.{AssignArguments, Assigned}
use Rattle.definitions.specs.Lent.{cells_within, unlike}
use Rattle.definitions.specs.Standardize.{Rooms, listed_rooms, Answer, IsAnswer}
use Rattle.definitions.specs.WholeCalls.{Given, job_from, unlike_lists, lists_conditions, AnswerCells, rooms_of}
use Rattle.definitions.specs.WholeCalls.{HoldsAnswer, answer_counts}
use Rattle.math_matrix.specs.Laws.{Three}
use Rattle.base_cell.specs.Grouping.{OrbitsLabelled}
use Rattle.symmetrize_wyckoff.specs.Lettering.{Placed, assign_with}
use Rattle.symmetrize_standardize.specs.declared.verdicts.Told.{Told}

-- what is told is the refusal r
abbrev pub refused_with : {A : Type 0} → Refusal → Result A Refusal → Bool
refused_with r (Ok a) = false
refused_with r (Err s) = eqb (number s) (number r)

-- the second verdict, unless the first is a refusal
abbrev pub then_verdict : Verdict → Verdict → Verdict
then_verdict (Ok u) v = v
then_verdict (Err k) v = Err k

-- ---- 2 to 4, by the lists themselves, where those that belong together have one length

abbrev pub list_counts : Given → Bool
list_counts x =
    too_many_sites (length x.positions)
    || not_some (length x.rotations)
    || not_some (length x.rotations_of_targets)
    || not_some (length x.conventional)
    || too_many_candidates (length x.texts)
    || unlike (length x.images) (length x.rotations * length x.positions)

abbrev pub list_entries : Given → Bool
list_entries x =
    not (in_range x.t)
    || not (in_range_of_c x.c)
    || not (all in_range x.rotations)
    || not (all in_range x.rotations_of_targets)
    || not (all in_range x.conventional)

abbrev pub list_floats : Given → Bool
list_floats x =
    not (lattice_within x.lattice)
    || not (position_within x.shift)
    || not (all cells_within x.positions)
    || not (all cells_within x.translations)
    || not (all cells_within x.translations_of_targets)
    || not (good_symprec x.symprec)

abbrev pub given_verdict : Given → Verdict
given_verdict x =
    cond (unlike_lists x) (Err Counts)
    (cond (list_counts x) (Err Counts)
    (cond (list_entries x) (Err MatrixEntry)
    (cond (list_floats x) (Err FloatRange) (Ok tt))))

-- ---- the lists that are lent to sub-calls, of no entries past the limits, where 2 refuses

-- for so many candidates
abbrev pub candidates_room : ℕ → ℕ
candidates_room w = cond (too_many_candidates w) 0 w

-- for the images of n sites under so many targets
abbrev pub images_room : ℕ → ℕ → ℕ
images_room n g = cond (too_many_sites n) 0 (cond (not_some g) 0 (g * n))

-- ---- 5 to 12, by the verdicts of the sub-calls

-- a list with an entry a listed site is shorter than so many, or that of the primitive sites than so many
abbrev pub lacks_room : Rooms → ℕ → ℕ → Bool
lacks_room r listed sites = any (shorter_than listed) (listed_rooms r) || shorter_than sites r.primitive

-- for n sites, into lists of these rooms
abbrev pub work_verdict : Matrix → Matrix → ℕ → Rooms → Told → Verdict
work_verdict t c n r s =
    cond (refused_with SiteImage s.aligned) (Err SiteImage)
    (cond (refused_with Coordinates s.prepared) (Err Coordinates)
    (cond (not_unimodular t || bad_copies c) (Err Determinant)
    (cond (refused_with Diagonalisation s.factors || refused_with Diagonalisation s.prepared) (Err Diagonalisation)
    (cond (too_many_listed (n * copies c)) (Err ListedSites)
    (cond (lacks_room r (n * copies c) n) (Err Buffer)
    (cond (refused_with TargetRotation s.aligned) (Err TargetRotation)
    (cond (refused_with Lattice s.lattice) (Err Lattice) (Ok tt))))))))

abbrev pub whole_verdict : Given → Rooms → Told → Verdict
whole_verdict x r s = then_verdict (given_verdict x) (work_verdict x.t x.c (length x.positions) r s)

-- ---- the work

-- room for the answer: so many listed sites, and n primitive ones
pub record Roomy (n listed : ℕ) (r : Rooms) : Type 0 where
  pub positions : listed ≤ r.positions
  pub points : listed ≤ r.points
  pub mapping : listed ≤ r.mapping
  pub elements : listed ≤ r.elements
  pub labels : listed ≤ r.labels
  pub multiplicities : listed ≤ r.multiplicities
  pub letters : listed ≤ r.letters
  pub primitive : n ≤ r.primitive

-- The symmetrised positions in a list, and their copies in four: the verdicts of the two calls are not looked at, past
-- the refusals that are theirs.
pub record CellListed
    (x : Given) (images : List ℕ) (old new : List (List Float)) (entry exit : ListingCells) : Type 0 where
  pub symmetrised : Verdict
  pub positions :
      PositionsPromise x.t x.shift x.positions x.rotations_of_targets x.translations_of_targets images old new symmetrised
  pub shape : Three x.c
  pub pointed : Verdict
  pub none : List (List ℤ)
  pub found : List (List ℤ)
  pub room : length none ≡ most_copies
  pub points : PointsPromise x.c none found pointed
  pub listed : CopiesListed x.c (take (copies x.c) found) x.elements (take (length x.positions) new) entry exit

-- the sites that are their own label, each with its place
abbrev pub own_labels : List ℕ → List (ℕ × ℕ)
own_labels labels = filter (λ p. eqb p.1 p.0) (enumerate_from 0 labels)

-- with the first n labels and multiplicities
abbrev pub assigning : Placed → ℕ → LetterCells → AssignArguments
assigning p n e = assign_with p (take n e.labels) (take n e.multiplicities)

abbrev pub label_cells : LetterCells → LabelCells
label_cells e = record { labels = e.labels; multiplicities = e.multiplicities }

-- Labels, multiplicities and letters of the sites of a mapping.
pub record OrbitsLettered (x : LabelArguments) (p : Placed) (entry exit : LetterCells) (whole : Bool) : Type 0 where
  pub labels : OrbitsLabelled x (label_cells entry) (label_cells exit)
  pub letters : Assigned (assigning p (length x.mapping) exit) entry.letters exit.letters whole

-- what is told of it, with the number of listed sites
abbrev pub told_by : Bool → ℕ → List ℕ → Result AnswerCounts Refusal
told_by whole listed labels =
    cond whole (Ok (record { sites = listed; orbits = (length (orbits (take listed labels))) })) (Err OrbitFit)

-- of so many listed sites
abbrev pub Finished : ℕ → LabelArguments → Placed → LetterCells → LetterCells → Result AnswerCounts Refusal → Type 0
Finished listed x p entry exit r =
    (whole : Bool) × OrbitsLettered x p entry exit whole × (r ≡ told_by whole listed exit.labels)

-- ---- the whole

-- The promise of the call on lists but for what is cleared: after a refusal nothing is said of the lent lists.
abbrev pub Uncleared : Given → AnswerCells → AnswerCells → Result AnswerCounts Refusal → Type 0
Uncleared x entry exit r =
    (o : Outcome Answer)
    × Answered (lists_conditions x (rooms_of entry)) (IsAnswer (job_from x)) (HoldsAnswer entry exit) (Unit {0}) o
    × (TellsOf answer_counts o r)
