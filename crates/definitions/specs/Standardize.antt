-- The whole answer to a job: the refusals with their conditions, or the lists (moyo's symmetrize/standardize.rs).
use Rattle.std.specs.Prelude.{ℕ, ◌*◌, ◌≡◌, Bool, not, ◌||◌, List, [], ◌∷◌, ◌++◌, map, ◌⊎◌, length, T, ℤ}
use Rattle.definitions.specs.declared.Position.{Position}
use Rattle.definitions.specs.Lists.{all, any, Some}
use Rattle.definitions.specs.Refusal.{Condition, ◌when◌, job_bytes, counts, matrix_entry, float_range, site_image}
use Rattle.definitions.specs.Refusal.{coordinates}
use Rattle.definitions.specs.Refusal.{determinant, diagonalisation, listed_sites, buffer, target_rotation}
use Rattle.definitions.specs.Refusal.{lattice, orbit_fit}
use Rattle.definitions.specs.Refusal.{Outcome, Returns}
use Rattle.definitions.specs.Limits.{too_many_sites, not_some, too_many_candidates, in_range, in_range_of_c}
use Rattle.definitions.specs.Limits.{lattice_within, position_within, good_symprec}
use Rattle.definitions.specs.Limits.{not_unimodular, copies, bad_copies, too_many_listed, shorter_than}
use Rattle.definitions.specs.Real.{RealMatrix}
use Rattle.definitions.specs.Job.{Parts, Job, Site, Operation, IsJob, NoJob, job_of}
use Rattle.definitions.specs.Lent.{bad_images, unlike}
use Rattle.definitions.specs.Transformation.{target_absent, aligned}
use Rattle.definitions.specs.Symmetrization.{primitive_positions, lattice_fails, old_basis, primitive_cell_basis}
use Rattle.definitions.specs.Symmetrization.{listed_cell_basis}
use Rattle.definitions.specs.Snf.{Run, Leaves, points, diagonal}
use Rattle.definitions.specs.Cell.{listed_positions, listed_points, site_mapping, listed_elements}
use Rattle.definitions.specs.Orbit.{multiplicities, orbits}
use Rattle.definitions.specs.Coordinates.{Triplet, Reads, Readable, rows}
use Rattle.definitions.specs.Wyckoff.{texts_of, Lettering, Found, Unfit, sites_of, letters}

-- ---- refused by what was given

abbrev pub site_count : Job → ℕ
site_count j = length j.sites

-- Refusal 2: "primitive sites over 256; operations, targets or conventional rotations 0 or over 96; candidates over 64;
-- permutation entries other than operations × sites"
abbrev pub bad_counts : Job → Bool
bad_counts j =
    too_many_sites (site_count j)
    || not_some (length j.operations)
    || not_some (length j.targets)
    || not_some (length j.rotations)
    || too_many_candidates (length j.candidates)
    || unlike (length j.images) (length j.operations * site_count j)

abbrev pub rotations_within : List Operation → Bool
rotations_within = all (λ o. in_range o.rotation)

-- Refusal 3: "A matrix entry outside -31..31."
abbrev pub bad_entry : Job → Bool
bad_entry j =
    not (in_range j.t)
    || not (in_range_of_c j.c)
    || not (rotations_within j.operations)
    || not (rotations_within j.targets)
    || not (all in_range j.rotations)

abbrev pub translations_within : List Operation → Bool
translations_within = all (λ o. position_within o.translation)

abbrev pub sites_within : List Site → Bool
sites_within = all (λ s. position_within s.position)

-- Refusal 4: "A float that isn't finite; magnitude over 1,000,000 (lattice) or 1,000 (position, translation, shift);
-- symprec not above 0 or over 1,000."
abbrev pub bad_float : Job → Bool
bad_float j =
    not (lattice_within j.lattice)
    || not (position_within j.shift)
    || not (sites_within j.sites)
    || not (translations_within j.operations)
    || not (translations_within j.targets)
    || not (good_symprec j.symprec)

-- Refusal 5: "A permutation image out of range or repeated", of any operation
abbrev pub bad_image : Job → Bool
bad_image j = bad_images (site_count j) (length j.operations) j.images

-- Refusal 6: "A coordinate string outside the grammar below, or whose summed coefficient leaves -31..31", of any
-- candidate
abbrev pub BadCoordinates : List (List ℕ) → Type 0
BadCoordinates = Some (λ text. Readable text → ⊥)

-- Refusal 7: "Determinant of T not 1 or -1; of C zero, or over 64 in magnitude."
abbrev pub bad_determinant : Job → Bool
bad_determinant j = not_unimodular j.t || bad_copies j.c

-- ---- refused by what the work became

-- Refusal 8: "During diagonalisation of C, or of any candidate, an assigned entry of D, L or R leaves -511..511."
abbrev pub TextLeaves : List ℕ → Type 0
TextLeaves text = (t : Triplet) × Reads text t × Leaves (rows t)

abbrev pub EntryLeaves : Job → Type 0
EntryLeaves j = Leaves j.c ⊎ Some TextLeaves (texts_of j.candidates)

-- the number of listed sites
abbrev pub listed_count : Job → ℕ
listed_count j = site_count j * copies j.c

-- The room of each lent list: in listed sites, and of the primitive positions in primitive sites.
pub record Rooms : Type 0 where
  pub positions : ℕ
  pub points : ℕ
  pub mapping : ℕ
  pub elements : ℕ
  pub labels : ℕ
  pub multiplicities : ℕ
  pub letters : ℕ
  pub primitive : ℕ

abbrev pub listed_rooms : Rooms → List ℕ
listed_rooms r =
    r.positions ∷ r.points ∷ r.mapping ∷ r.elements ∷ r.labels ∷ r.multiplicities ∷ r.letters ∷ []

-- Refusal 10: "A lent buffer shorter than the answer", each by its own length
abbrev pub too_short : Job → Rooms → Bool
too_short j r = any (shorter_than (listed_count j)) (listed_rooms r) || shorter_than (site_count j) r.primitive

-- the design that is lettered, with the points of C's run; "the fit uses the listed one" of the bases
abbrev pub lettering_of : (j : Job) → Run j.c → Lettering
lettering_of j r =
    record {
      permutations = aligned j;
      mapping = site_mapping (site_count j) (copies j.c);
      positions = listed_positions j.c (primitive_positions j) (points r.third);
      basis = listed_cell_basis j;
      candidates = j.candidates;
      symprec = j.symprec;
    }

-- What the work finds of a job: the run of C, a space for each candidate and the labels. The rest is computed from
-- them.
pub record Work (j : Job) : Type 0 where
  pub run : Run j.c
  pub found : Found (lettering_of j run)

-- Refusal 13: "An orbit without a fit."
abbrev pub NoFit : Job → Type 0
NoFit j = (r : Run j.c) × Unfit (lettering_of j r)

-- ---- the rules

-- A number with what it says of a job, or of a job's parts.
pub record Rule (A : Type 0) : Type 1 where
  pub number : ℕ
  pub holds : A → Type 0

infix 60 ◌says◌
abbrev pub ◌says◌ : {A : Type 0} → ℕ → (A → Type 0) → Rule A
k says P = record { number = k; holds = P }

-- 2 to 7: of what was given
abbrev pub given_rules : List (Rule Job)
given_rules =
    (counts says λ j. T (bad_counts j))
    ∷ (matrix_entry says λ j. T (bad_entry j))
    ∷ (float_range says λ j. T (bad_float j))
    ∷ (site_image says λ j. T (bad_image j))
    ∷ (coordinates says λ j. BadCoordinates (texts_of j.candidates))
    ∷ (determinant says λ j. T (bad_determinant j))
    ∷ []

-- 8 to 13: of what the work became, for lent lists of these rooms
abbrev pub work_rules : Rooms → List (Rule Job)
work_rules rooms =
    (diagonalisation says EntryLeaves)
    ∷ (listed_sites says λ j. T (too_many_listed (listed_count j)))
    ∷ (buffer says λ j. T (too_short j rooms))
    ∷ (target_rotation says λ j. T (target_absent j))
    ∷ (lattice says λ j. T (lattice_fails (old_basis j) j.rotations))
    ∷ (orbit_fit says NoFit)
    ∷ []

abbrev pub rules : Rooms → List (Rule Job)
rules rooms = given_rules ++ work_rules rooms

-- The conditions of the whole call on a job's lists.
abbrev pub job_conditions : Job → Rooms → List Condition
job_conditions j rooms = map (λ r. r.number when r.holds j) (rules rooms)

-- what is said of the parts before they are a job: nothing today
abbrev pub parts_rules : List (Rule Parts)
parts_rules = []

-- all that is said of the parts: a rule of the job is one of its parts
abbrev pub bytes_rules : Rooms → List (Rule Parts)
bytes_rules rooms = parts_rules ++ map (λ r. r.number says λ p. r.holds (job_of p)) (rules rooms)

-- the bytes are those of parts of which P holds
abbrev pub OfParts : List ℕ → (Parts → Type 0) → Type 0
OfParts bs P = (p : Parts) × IsJob bs p × P p

-- The conditions of the whole call on bytes: 1 is of the bytes, each other of the parts that they are.
abbrev pub bytes_conditions : List ℕ → Rooms → List Condition
bytes_conditions bs rooms =
    (job_bytes when NoJob bs) ∷ map (λ r. r.number when OfParts bs r.holds) (bytes_rules rooms)

-- ---- the answer

-- One entry a listed site in the first seven lists, one a primitive site in the eighth; the two bases, the three
-- diagonal numbers
-- of C, and the header's counts.
pub record Answer : Type 0 where
  pub positions : List Position
  pub points : List (List ℤ)
  pub mapping : List ℕ
  pub elements : List ℤ
  pub labels : List ℕ
  pub multiplicities : List ℕ
  pub letters : List ℕ
  pub primitive : List Position
  pub primitive_cell_basis : RealMatrix
  pub listed_cell_basis : RealMatrix
  pub factors : List ℤ
  pub sites : ℕ
  pub orbits : ℕ

abbrev pub answer_of : {j : Job} → Work j → Answer
answer_of {j} w =
    record {
      positions = (lettering_of j w.run).positions;
      points = listed_points (site_count j) (points w.run.third);
      mapping = site_mapping (site_count j) (copies j.c);
      elements = listed_elements (map (λ s. s.element) j.sites) (copies j.c);
      labels = w.found.labels;
      multiplicities = multiplicities w.found.labels;
      letters = letters (sites_of w.found);
      primitive = primitive_positions j;
      primitive_cell_basis = primitive_cell_basis j;
      listed_cell_basis = listed_cell_basis j;
      factors = diagonal w.run.third.d;
      sites = listed_count j;
      orbits = length (orbits w.found.labels);
    }

abbrev pub IsAnswer : Job → Answer → Type 0
IsAnswer j a = (w : Work j) × (a ≡ answer_of w)

-- What the whole call returns: on a job's lists, and on its bytes.
abbrev pub JobReturns : Job → Rooms → Outcome Answer → Type 0
JobReturns j rooms = Returns (job_conditions j rooms) (IsAnswer j)

abbrev pub BytesReturn : List ℕ → Rooms → Outcome Answer → Type 0
BytesReturn bs rooms = Returns (bytes_conditions bs rooms) (λ a. OfParts bs (λ p. IsAnswer (job_of p) a))
