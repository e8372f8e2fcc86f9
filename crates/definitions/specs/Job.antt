-- "The job": its parts, and their bytes. Operands are little-endian, commands one ASCII byte.
use Rattle.std.specs.Prelude.{ℕ, zero, suc, ◌+◌, ◌-◌, ◌*◌, ◌/◌, ◌%◌, ◌^◌, ◌<◌, ◌≡◌, Bool, ◌&&◌, List, [], ◌∷◌, ◌++◌, map, ◌⊎◌, get_or, length, T, ltb, eqb, ℤ, pos, negsuc, Float}
use Rattle.std.specs.Float.{binary64}
use Rattle.std.specs.Float.Ieee.{of_bits}
use Rattle.definitions.specs.declared.Position.{Position}
use Rattle.definitions.specs.Lists.{all, each}
use Rattle.definitions.specs.Limits.{most_bytes, text_bytes}
use Rattle.definitions.specs.Matrix.{Matrix, mat}
use Rattle.definitions.specs.Real.{RealMatrix}

-- ---- parts: the operands as they are given, floats by their bits

pub record SitePart : Type 0 where
  pub element : ℤ
  pub position : List ℕ

pub record OperationPart : Type 0 where
  pub rotation : List ℤ
  pub translation : List ℕ

pub record CandidatePart : Type 0 where
  pub multiplicity : ℕ
  pub letter : ℕ
  pub text : List ℕ

pub record Parts : Type 0 where
  pub lattice : List ℕ
  pub t : List ℤ
  pub shift : List ℕ
  pub c : List ℤ
  pub sites : List SitePart
  pub operations : List OperationPart
  pub images : List ℕ
  pub targets : List OperationPart
  pub rotations : List (List ℤ)
  pub candidates : List CandidatePart
  pub symprec : ℕ

-- ---- which numbers an operand holds

-- an unsigned operand of n bytes
abbrev pub unsigned : ℕ → ℕ → Bool
unsigned n v = ltb v (256 ^ n)

-- a signed operand of n bytes: from -256ⁿ/2 below 256ⁿ/2
abbrev pub signed : ℕ → ℤ → Bool
signed n (pos a) = ltb a (256 ^ n / 2)
signed n (negsuc a) = ltb a (256 ^ n / 2)

-- k operands, each of n bytes
abbrev pub unsigneds : ℕ → ℕ → List ℕ → Bool
unsigneds k n vs = eqb (length vs) k && all (unsigned n) vs

abbrev pub signeds : ℕ → ℕ → List ℤ → Bool
signeds k n vs = eqb (length vs) k && all (signed n) vs

abbrev pub holds_site : SitePart → Bool
holds_site s = signed 4 s.element && unsigneds 3 8 s.position

abbrev pub holds_operation : OperationPart → Bool
holds_operation o = signeds 9 1 o.rotation && unsigneds 3 8 o.translation

abbrev pub holds_candidate : CandidatePart → Bool
holds_candidate w = unsigned 2 w.multiplicity && unsigned 1 w.letter && unsigneds text_bytes 1 w.text

-- every operand holds its number
unfoldable pub holds_parts : Parts → Bool
unfolding all
holds_parts p =
    unsigneds 9 8 p.lattice
    && (signeds 9 1 p.t && unsigneds 3 8 p.shift)
    && signeds 9 1 p.c
    && all holds_site p.sites
    && all holds_operation p.operations
    && all (unsigned 1) p.images
    && all holds_operation p.targets
    && all (signeds 9 1) p.rotations
    && all holds_candidate p.candidates
    && unsigned 8 p.symprec

-- ---- bytes

-- n bytes, the lowest first
unfoldable pub bytes : ℕ → ℕ → List ℕ
bytes zero v = []
bytes (suc n) v = v % 256 ∷ bytes n (v / 256)

-- two's complement
abbrev pub complement : ℕ → ℤ → ℕ
complement n (pos a) = a
complement n (negsuc a) = 256 ^ n - suc a

abbrev pub signed_bytes : ℕ → ℤ → List ℕ
signed_bytes n v = bytes n (complement n v)

-- "`L` lattice, 9 f64 column by column. `T` 9 i8 row by row, 3 f64 shift. `C` 9 i8. `S` per site: i32 element, 3 f64.
-- `O` per operation: 9 i8, 3 f64. `P` per entry: one u8 image.
-- `G` per target: as O. `R` per conventional rotation: 9 i8. `W` per candidate: u16 multiplicity, u8 letter, 64 bytes
-- coordinates. `N` f64 symprec. `Z` ends."
abbrev pub floats : List ℕ → List ℕ
floats = each (bytes 8)

abbrev pub entries : List ℤ → List ℕ
entries = each (signed_bytes 1)

abbrev pub lattice_command : List ℕ → List ℕ
lattice_command l = 76 ∷ floats l

abbrev pub transformation : List ℤ → List ℕ → List ℕ
transformation t shift = 84 ∷ entries t ++ floats shift

-- the setting
abbrev pub centring : List ℤ → List ℕ
centring c = 67 ∷ entries c

abbrev pub site : SitePart → List ℕ
site s = 83 ∷ signed_bytes 4 s.element ++ floats s.position

abbrev pub operation : ℕ → OperationPart → List ℕ
operation command o = command ∷ entries o.rotation ++ floats o.translation

abbrev pub image : ℕ → List ℕ
image v = 80 ∷ bytes 1 v

abbrev pub rotation : List ℤ → List ℕ
rotation m = 82 ∷ entries m

abbrev pub candidate : CandidatePart → List ℕ
candidate w = 87 ∷ bytes 2 w.multiplicity ++ bytes 1 w.letter ++ each (bytes 1) w.text

-- the commands "in this order": L T C S O P G R W N Z
unfoldable pub encode : Parts → List ℕ
unfolding each bytes
encode p =
    lattice_command p.lattice
    ++ transformation p.t p.shift
    ++ centring p.c
    ++ each site p.sites
    ++ each (operation 79) p.operations
    ++ each image p.images
    ++ each (operation 71) p.targets
    ++ each rotation p.rotations
    ++ each candidate p.candidates
    ++ (78 ∷ bytes 8 p.symprec)
    ++ (90 ∷ [])

-- these bytes are those of the parts p
abbrev pub IsJob : List ℕ → Parts → Type 0
IsJob bs p = T (holds_parts p) × (encode p ≡ bs)

-- Refusal 1: "Job bytes: over 65,536, unknown command, cut operand, wrong order, a command of the once-only kind
-- missing or repeated, bytes after the end."
abbrev pub NoJob : List ℕ → Type 0
NoJob bs = (most_bytes < length bs) ⊎ ((p : Parts) → IsJob bs p → ⊥)

-- To be proved of the codec: no two jobs share their bytes.
abbrev pub EncodeInjective : Type 0
EncodeInjective = (p q : Parts) → T (holds_parts p) → T (holds_parts q) → encode p ≡ encode q → p ≡ q

-- ---- the job that the parts are: matrices, positions and floats

pub record Site : Type 0 where
  pub element : ℤ
  pub position : Position

pub record Operation : Type 0 where
  pub rotation : Matrix
  pub translation : Position

pub record Candidate : Type 0 where
  pub multiplicity : ℕ
  pub letter : ℕ
  pub text : List ℕ

pub record Job : Type 0 where
  pub lattice : RealMatrix
  pub t : Matrix
  pub shift : Position
  pub c : Matrix
  pub sites : List Site
  pub operations : List Operation
  pub images : List ℕ
  pub targets : List Operation
  pub rotations : List Matrix
  pub candidates : List Candidate
  pub symprec : Float

abbrev pub float : ℕ → Float
float b = of_bits binary64 b

abbrev pub position_of : List ℕ → Position
position_of bs = record { x = float (get_or bs 0 0); y = float (get_or bs 1 0); z = float (get_or bs 2 0) }

-- "row by row"
abbrev pub rows_of : List ℤ → Matrix
rows_of es = mat (λ i j. get_or es (3 * i + j) (pos 0))

abbrev pub site_of : SitePart → Site
site_of s = record { element = s.element; position = position_of s.position }

abbrev pub operation_of : OperationPart → Operation
operation_of o = record { rotation = rows_of o.rotation; translation = position_of o.translation }

abbrev pub candidate_of : CandidatePart → Candidate
candidate_of w = record { multiplicity = w.multiplicity; letter = w.letter; text = w.text }

-- C, the one place where it is read from the parts
abbrev pub centring_of : Parts → Matrix
centring_of p = rows_of p.c

-- the lattice "column by column": row i and column j stand at 3 j + i
unfoldable pub job_of : Parts → Job
job_of p =
    record {
      lattice = mat (λ i j. float (get_or p.lattice (3 * j + i) 0));
      t = rows_of p.t;
      shift = position_of p.shift;
      c = centring_of p;
      sites = map site_of p.sites;
      operations = map operation_of p.operations;
      images = p.images;
      targets = map operation_of p.targets;
      rotations = map rows_of p.rotations;
      candidates = map candidate_of p.candidates;
      symprec = float p.symprec;
    }
