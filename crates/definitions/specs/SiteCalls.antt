-- The public calls on listed sites: to list, to label, to read and to prepare a candidate, to match, to letter.
use Rattle.std.specs.Prelude.{ℕ, ◌*◌, ◌≡◌, Bool, cond, not, ◌&&◌, ◌||◌, List, [], ◌∷◌, map, length, get_or, T, ltb, ℤ, pos, Float}
use Rattle.definitions.specs.declared.Position.{Position}
use Rattle.std.specs.Prelude.{Option, Result}
use Rattle.definitions.specs.declared.Fit.{Fit}
use Rattle.definitions.specs.declared.Refusal.{Refusal}
use Rattle.definitions.specs.Lists.{all, any, up_to, Some}
use Rattle.definitions.specs.Refusal.{Condition, ◌when◌, counts, matrix_entry, float_range, site_image}
use Rattle.definitions.specs.Refusal.{coordinates}
use Rattle.definitions.specs.Refusal.{determinant, diagonalisation, listed_sites, buffer, orbit_fit}
use Rattle.definitions.specs.Refusal.{Outcome, outcome, Verdict, Returns, Answered, Promised, Holds}
use Rattle.definitions.specs.Limits.{too_many_sites, too_many_candidates, most_copies, in_range_of_c, lattice_within}
use Rattle.definitions.specs.Limits.{position_within, good_symprec, copies, bad_copies, too_many_listed, shorter_than}
use Rattle.definitions.specs.Matrix.{Matrix}
use Rattle.definitions.specs.Real.{RealMatrix}
use Rattle.definitions.specs.Job.{Candidate}
use Rattle.definitions.specs.Lent.{position_from, cells_of, zero_cells, zero_point, zero_matrix, cells_within}
use Rattle.definitions.specs.Lent.{candidates_from, unlike, permutations_of, bad_permutation_counts, bad_images}
use Rattle.definitions.specs.Snf.{State, Run, Leaves, points}
use Rattle.definitions.specs.Cell.{listed_positions, listed_points, site_mapping, listed_elements}
use Rattle.definitions.specs.Orbit.{Labels, multiplicities}
use Rattle.definitions.specs.Coordinates.{Triplet, Reads, Readable, rows, origin_of}
use Rattle.definitions.specs.Wyckoff.{Space, IsSpace, AreSpaces, match_of, Choice, Lettering, Found, Sites}
use Rattle.definitions.specs.Wyckoff.{Unfit, sites_of, letter_of, letters}
use Rattle.definitions.specs.Standardize.{BadCoordinates, TextLeaves}
use Rattle.definitions.specs.Transformation.{is_none}

-- ---- base/cell.rs and `Transformation::transform_cell`: listed sites

-- What is listed: one entry a listed site in each list.
pub record Listing : Type 0 where
  pub positions : List Position
  pub points : List (List ℤ)
  pub mapping : List ℕ
  pub elements : List ℤ

abbrev pub listing_of : {c : Matrix} → List ℤ → List Position → Run c → Listing
listing_of {c} es ps r =
    record {
      positions = listed_positions c ps (points r.third);
      points = listed_points (length ps) (points r.third);
      mapping = site_mapping (length ps) (copies c);
      elements = listed_elements es (copies c);
    }

-- its lent lists
pub record ListingCells : Type 0 where
  pub positions : List (List Float)
  pub points : List (List ℤ)
  pub mapping : List ℕ
  pub elements : List ℤ

abbrev pub listing_rooms : ListingCells → List ℕ
listing_rooms e = length e.positions ∷ length e.points ∷ length e.mapping ∷ length e.elements ∷ []

pub record HoldsListing (entry exit : ListingCells) (a : Listing) : Type 0 where
  pub positions : Holds zero_cells entry.positions exit.positions (map cells_of a.positions)
  pub points : Holds zero_point entry.points exit.points a.points
  pub mapping : Holds 0 entry.mapping exit.mapping a.mapping
  pub elements : Holds (pos 0) entry.elements exit.elements a.elements

abbrev pub nothing_listed : Listing
nothing_listed = record { positions = []; points = []; mapping = []; elements = [] }

-- The step that lists the copies of positions, given or computed, at the points fs: all of them where each list has
-- room for them, and nothing where one has not, or where there are too many.
abbrev pub listable : ℕ → ℕ → ℕ → List ℕ → Bool
listable n elements m rooms =
    not (too_many_sites n)
    && not (unlike elements n)
    && not (ltb most_copies m)
    && not (any (shorter_than (n * m)) rooms)

abbrev pub listing_at : Matrix → List ℤ → List Position → List (List ℤ) → Listing
listing_at c es ps fs =
    record {
      positions = listed_positions c ps fs;
      points = listed_points (length ps) fs;
      mapping = site_mapping (length ps) (length fs);
      elements = listed_elements es (length fs);
    }

abbrev pub CopiesListed :
    Matrix → List (List ℤ) → List ℤ → List (List Float) → ListingCells → ListingCells → Type 0
CopiesListed c fs es ps entry exit =
    HoldsListing entry exit
    (cond (listable (length ps) (length es) (length fs) (listing_rooms entry)) (listing_at c es (map position_from ps) fs)
    nothing_listed)

-- List the copies of given positions: 2, 3, 4, 7, 8, 9, 10.
abbrev pub list_conditions : Matrix → List ℤ → List (List Float) → List ℕ → List Condition
list_conditions c es ps rooms =
    (counts when T (too_many_sites (length ps) || unlike (length es) (length ps)))
    ∷ (matrix_entry when T (not (in_range_of_c c)))
    ∷ (float_range when T (not (all cells_within ps)))
    ∷ (determinant when T (bad_copies c))
    ∷ (diagonalisation when Leaves c)
    ∷ (listed_sites when T (too_many_listed (length ps * copies c)))
    ∷ (buffer when T (any (shorter_than (length ps * copies c)) rooms))
    ∷ []

abbrev pub IsListing : Matrix → List ℤ → List (List Float) → Listing → Type 0
IsListing c es ps a = (r : Run c) × (a ≡ listing_of es (map position_from ps) r)

abbrev pub ListAnswered : Matrix → List ℤ → List (List Float) → ListingCells → ListingCells → Outcome Listing → Type 0
ListAnswered c es ps entry exit =
    Answered (list_conditions c es ps (listing_rooms entry)) (IsListing c es ps) (HoldsListing entry exit)
    (HoldsListing entry exit nothing_listed)

abbrev pub ListPromise : Matrix → List ℤ → List (List Float) → ListingCells → ListingCells → Verdict → Type 0
ListPromise c es ps entry exit =
    Promised (list_conditions c es ps (listing_rooms entry)) (IsListing c es ps) (HoldsListing entry exit)
    (HoldsListing entry exit nothing_listed)

-- ---- `orbits_in_cell`, `group_sites_by_orbit`: labels

-- "a mapping entry out of range"
abbrev pub bad_mapping : ℕ → List ℕ → Bool
bad_mapping n mapping = not (all (λ i. ltb i n) mapping)

-- k permutations of n sites in one list, and a mapping to these sites
pub record LabelArguments : Type 0 where
  pub sites : ℕ
  pub count : ℕ
  pub images : List ℕ
  pub mapping : List ℕ

abbrev pub permutations_in : LabelArguments → List (List ℕ)
permutations_in x = permutations_of x.sites x.count x.images

-- Label the sites of a lent mapping: 2, 5, 9, 10.
abbrev pub label_conditions : LabelArguments → List ℕ → List Condition
label_conditions x rooms =
    (counts when T (bad_permutation_counts x.sites x.count x.images))
    ∷ (site_image when T (bad_images x.sites x.count x.images || bad_mapping x.sites x.mapping))
    ∷ (listed_sites when T (too_many_listed (length x.mapping)))
    ∷ (buffer when T (any (shorter_than (length x.mapping)) rooms))
    ∷ []

pub record LabelCells : Type 0 where
  pub labels : List ℕ
  pub multiplicities : List ℕ

abbrev pub label_rooms : LabelCells → List ℕ
label_rooms e = length e.labels ∷ length e.multiplicities ∷ []

-- the answer: labels, and the multiplicity of each label's sites
abbrev pub labelled : List ℕ → LabelCells
labelled ls = record { labels = ls; multiplicities = multiplicities ls }

pub record HoldsLabels (entry exit a : LabelCells) : Type 0 where
  pub labels : Holds 0 entry.labels exit.labels a.labels
  pub multiplicities : Holds 0 entry.multiplicities exit.multiplicities a.multiplicities

abbrev pub nothing_labelled : LabelCells
nothing_labelled = record { labels = []; multiplicities = [] }

abbrev pub IsLabelled : LabelArguments → LabelCells → Type 0
IsLabelled x a = Labels (permutations_in x) x.mapping a.labels × (a.multiplicities ≡ multiplicities a.labels)

abbrev pub LabelAnswered : LabelArguments → LabelCells → LabelCells → Outcome LabelCells → Type 0
LabelAnswered x entry exit =
    Answered (label_conditions x (label_rooms entry)) (IsLabelled x)
    (HoldsLabels entry exit) (HoldsLabels entry exit nothing_labelled)

abbrev pub LabelPromise : LabelArguments → LabelCells → LabelCells → Verdict → Type 0
LabelPromise x entry exit =
    Promised (label_conditions x (label_rooms entry)) (IsLabelled x)
    (HoldsLabels entry exit) (HoldsLabels entry exit nothing_labelled)

-- ---- symmetrize/wyckoff.rs

-- one candidate's coordinates: 6
abbrev pub text_conditions : List ℕ → List Condition
text_conditions text = (coordinates when (Readable text → ⊥)) ∷ []

-- Read the coordinates of a candidate: the rows and the origin of the tree that the text reads as.
abbrev pub CoordinatesPromise : List ℕ → Result (Matrix × List Float) Refusal → Type 0
CoordinatesPromise text o =
    Returns (text_conditions text)
    (λ (a : Matrix × List Float). (t : Triplet) × Reads text t × (a.0 ≡ rows t) × (a.1 ≡ cells_of (origin_of t)))
    (outcome (λ a. a) o)

-- Prepare a candidate (`WyckoffPositionSpace::new` with its diagonalisation): 6, 8
abbrev pub prepare_conditions : List ℕ → List Condition
prepare_conditions text = (coordinates when (Readable text → ⊥)) ∷ (diagonalisation when TextLeaves text) ∷ []

-- a space in matrices and cells
abbrev pub space_from : Matrix → List Float → State → Space
space_from m q s = record { matrix = m; shift = position_from q; snf = s }

-- the space of the text
abbrev pub PreparePromise : List ℕ → Outcome Space → Type 0
PreparePromise text = Returns (prepare_conditions text) (IsSpace text)

-- The spaces of candidates in lent lists, one entry a candidate in each: M, q, D, L, R.
pub record SpaceCells : Type 0 where
  pub matrices : List Matrix
  pub shifts : List (List Float)
  pub ds : List Matrix
  pub ls : List Matrix
  pub rs : List Matrix

abbrev pub space_rooms : SpaceCells → List ℕ
space_rooms e =
    length e.matrices ∷ length e.shifts ∷ length e.ds ∷ length e.ls ∷ length e.rs ∷ []

pub record HoldsSpaces (entry exit : SpaceCells) (ss : List Space) : Type 0 where
  pub matrices : Holds zero_matrix entry.matrices exit.matrices (map (λ s. s.matrix) ss)
  pub shifts : Holds zero_cells entry.shifts exit.shifts (map (λ s. cells_of s.shift) ss)
  pub ds : Holds zero_matrix entry.ds exit.ds (map (λ s. s.snf.d) ss)
  pub ls : Holds zero_matrix entry.ls exit.ls (map (λ s. s.snf.l) ss)
  pub rs : Holds zero_matrix entry.rs exit.rs (map (λ s. s.snf.r) ss)

-- Prepare every candidate of a list, once for all positions: 2, 6, 8, 10.
abbrev pub prepare_all_conditions : List (List ℕ) → List ℕ → List Condition
prepare_all_conditions texts rooms =
    (counts when T (too_many_candidates (length texts)))
    ∷ (coordinates when BadCoordinates texts)
    ∷ (diagonalisation when Some TextLeaves texts)
    ∷ (buffer when T (any (shorter_than (length texts)) rooms))
    ∷ []

abbrev pub PrepareAllPromise : List (List ℕ) → SpaceCells → SpaceCells → Verdict → Type 0
PrepareAllPromise texts entry exit =
    Promised (prepare_all_conditions texts (space_rooms entry)) (AreSpaces texts)
    (HoldsSpaces entry exit) (HoldsSpaces entry exit [])

-- One position against one candidate (`match_wyckoff_coordinates`): 4, 6, 8.
abbrev pub match_conditions : RealMatrix → Position → List ℕ → Float → List Condition
match_conditions basis p text symprec =
    (float_range when T (not (lattice_within basis) || not (position_within p) || not (good_symprec symprec)))
    ∷ (coordinates when (Readable text → ⊥))
    ∷ (diagonalisation when TextLeaves text)
    ∷ []

-- "A match either fits, with the offset's place and the distance, or misses"
abbrev pub MatchPromise : RealMatrix → Position → List ℕ → Float → Result (Option Fit) Refusal → Type 0
MatchPromise basis p text symprec r =
    Returns (match_conditions basis p text symprec)
    (λ m. (s : Space) × IsSpace text s × (m ≡ match_of basis symprec s p))
    (outcome (λ m. m) r)

-- The arguments of the letter call: those of the label call, listed positions, the listed basis, candidates as three
-- lists, symprec.
pub record LetterArguments : Type 0 where
  pub labelling : LabelArguments
  pub positions : List (List Float)
  pub basis : RealMatrix
  pub multiplicities : List ℕ
  pub letters : List ℕ
  pub texts : List (List ℕ)
  pub symprec : Float

abbrev pub candidates_in : LetterArguments → List Candidate
candidates_in x = candidates_from x.multiplicities x.letters x.texts

-- the design that they are
abbrev pub design_from : LetterArguments → Lettering
design_from x =
    record {
      permutations = permutations_in x.labelling;
      mapping = x.labelling.mapping;
      positions = map position_from x.positions;
      basis = x.basis;
      candidates = candidates_in x;
      symprec = x.symprec;
    }

-- "a mapping whose length isn't the number of positions", candidates over 64, lists of candidates that differ in length
abbrev pub bad_letter_counts : LetterArguments → Bool
bad_letter_counts x =
    bad_permutation_counts x.labelling.sites x.labelling.count x.labelling.images
    || too_many_candidates (length x.texts)
    || unlike (length x.multiplicities) (length x.texts)
    || unlike (length x.letters) (length x.texts)
    || unlike (length x.labelling.mapping) (length x.positions)

abbrev pub bad_floats : RealMatrix → List (List Float) → Float → Bool
bad_floats basis ps symprec =
    not (lattice_within basis) || not (all cells_within ps) || not (good_symprec symprec)

-- Letter a design (`assign_wyckoffs_by_orbit`): 2, 4, 5, 6, 8, 9, 10, 13.
abbrev pub letter_conditions : LetterArguments → List ℕ → List Condition
letter_conditions x rooms =
    let n = x.labelling.sites in
    let mapping = x.labelling.mapping in
    (counts when T (bad_letter_counts x))
    ∷ (float_range when T (bad_floats x.basis x.positions x.symprec))
    ∷ (site_image when T (bad_images n x.labelling.count x.labelling.images || bad_mapping n mapping))
    ∷ (coordinates when BadCoordinates x.texts)
    ∷ (diagonalisation when Some TextLeaves x.texts)
    ∷ (listed_sites when T (too_many_listed (length mapping)))
    ∷ (buffer when T (any (shorter_than (length mapping)) rooms))
    ∷ (orbit_fit when Unfit (design_from x))
    ∷ []

pub record LetterCells : Type 0 where
  pub labels : List ℕ
  pub multiplicities : List ℕ
  pub letters : List ℕ

abbrev pub letter_rooms : LetterCells → List ℕ
letter_rooms e = length e.labels ∷ length e.multiplicities ∷ length e.letters ∷ []

-- the answer, by what is found of the design
abbrev pub lettered : {g : Lettering} → Found g → LetterCells
lettered w = record { labels = w.labels; multiplicities = multiplicities w.labels; letters = letters (sites_of w) }

pub record HoldsLetters (entry exit a : LetterCells) : Type 0 where
  pub labels : Holds 0 entry.labels exit.labels a.labels
  pub multiplicities : Holds 0 entry.multiplicities exit.multiplicities a.multiplicities
  pub letters : Holds 0 entry.letters exit.letters a.letters

abbrev pub nothing_lettered : LetterCells
nothing_lettered = record { labels = []; multiplicities = []; letters = [] }

abbrev pub IsLettered : LetterArguments → LetterCells → Type 0
IsLettered x a = (w : Found (design_from x)) × (a ≡ lettered w)

abbrev pub LetterAnswered : LetterArguments → LetterCells → LetterCells → Outcome LetterCells → Type 0
LetterAnswered x entry exit =
    Answered (letter_conditions x (letter_rooms entry)) (IsLettered x)
    (HoldsLetters entry exit) (HoldsLetters entry exit nothing_lettered)

abbrev pub LetterPromise : LetterArguments → LetterCells → LetterCells → Verdict → Type 0
LetterPromise x entry exit =
    Promised (letter_conditions x (letter_rooms entry)) (IsLettered x)
    (HoldsLetters entry exit) (HoldsLetters entry exit nothing_lettered)

-- ---- the step that letters

-- Listed sites with labels and multiplicities as lent, positions and a basis, given or computed, and candidates with
-- their spaces.
pub record AssignArguments : Type 0 where
  pub labels : List ℕ
  pub multiplicities : List ℕ
  pub positions : List (List Float)
  pub basis : RealMatrix
  pub symprec : Float
  pub candidates : List ℕ
  pub letters : List ℕ
  pub spaces : SpaceCells

-- the candidate at place k, by its multiplicity, its letter and its space
abbrev pub choice_at : AssignArguments → ℕ → Choice
choice_at x k =
    record {
      multiplicity = get_or x.candidates k 0;
      letter = get_or x.letters k 0;
      space =
          space_from (get_or x.spaces.matrices k []) (get_or x.spaces.shifts k [])
          (record { d = get_or x.spaces.ds k []; l = get_or x.spaces.ls k []; r = get_or x.spaces.rs k [] });
    }

abbrev pub sites_in : AssignArguments → Sites
sites_in x =
    record {
      positions = map position_from x.positions;
      labels = x.labels;
      multiplicities = x.multiplicities;
      basis = x.basis;
      choices = map (choice_at x) (up_to (length x.candidates));
      symprec = x.symprec;
    }

-- each list has its entries, not too many, and each label is a listed site's
abbrev pub assignable : AssignArguments → ℕ → Bool
assignable x room =
    let n = length x.labels in
    not (too_many_listed n)
    && not (too_many_candidates (length x.candidates))
    && not (any (unlike n) (length x.multiplicities ∷ length x.positions ∷ []))
    && not (any (unlike (length x.candidates)) (length x.letters ∷ space_rooms x.spaces))
    && not (shorter_than n room)
    && all (λ l. ltb l n) x.labels

-- every site's orbit has a letter
abbrev pub all_lettered : Sites → Bool
all_lettered g = all (λ l. not (is_none (letter_of g l))) g.labels

-- The letters, where there are lists to letter and every orbit has one; zero letters otherwise.
pub record Assigned (x : AssignArguments) (entry exit : List ℕ) (whole : Bool) : Type 0 where
  pub judged : whole ≡ (assignable x (length entry) && all_lettered (sites_in x))
  pub letters : Holds 0 entry exit (cond whole (letters (sites_in x)) [])
