-- A job by places: what stands at a place of the bytes, and the parts that so many of each command are.
use Prim.Native.Nat.{ℕ, zero, suc, ◌+◌, ◌*◌, ◌≤◌, ◌<◌}
use Rattle.std.specs.Prelude.{◌≡◌, List, [], ◌∷◌, get_or, length, ℤ, Float}
use Rattle.std.proofs.Math.Path.{refl, ap}
use Rattle.definitions.specs.declared.JobCounts.{JobCounts}
use Rattle.definitions.specs.Matrix.{Matrix, mat}
use Rattle.definitions.specs.Real.{RealMatrix}
use Rattle.definitions.specs.Job.{float, position_of, rows_of, Parts, SitePart, OperationPart, CandidatePart}
use Rattle.definitions.specs.Limits.{text_bytes}
use Rattle.definitions.specs.Lent.{cells_of}
use Rattle.job_laws.specs.Reader.{place, from_complement}

-- ---- operands

-- the number in the n bytes from a place on
unfoldable pub word_at : ℕ → List ℕ → ℕ → ℕ
word_at zero bs at = 0
word_at (suc n) bs at = place (get_or bs at 0) (word_at n bs (at + 1))

abbrev pub integer_at : ℕ → List ℕ → ℕ → ℤ
integer_at n bs at = from_complement n (word_at n bs at)

-- what f reads at n places, w apart
unfoldable pub items : {A : Type 0} → (ℕ → A) → ℕ → ℕ → ℕ → List A
items f w at zero = []
items f w at (suc n) = f at ∷ items f w (at + w) n

module _ {A : Type 0} (f : ℕ → A) (w : ℕ) where
  pub length_items : (at n : ℕ) → length (items f w at n) ≡ n
  unfolding items
  length_items at zero = refl
  length_items at (suc n) = ap suc (length_items (at + w) n)

abbrev pub floats_at : ℕ → List ℕ → ℕ → List ℕ
floats_at k bs at = items (word_at 8 bs) 8 at k

abbrev pub entries_at : List ℕ → ℕ → List ℤ
entries_at bs at = items (integer_at 1 bs) 1 at 9

abbrev pub text_at : List ℕ → ℕ → List ℕ
text_at bs at = items (word_at 1 bs) 1 at text_bytes

-- "column by column"
abbrev pub lattice_at : List ℕ → RealMatrix
lattice_at bs = mat (λ i j. float (get_or (floats_at 9 bs 1) (3 * j + i) 0))

-- as lent lists hold them
abbrev pub cells_from : List ℕ → ℕ → List Float
cells_from bs at = cells_of (position_of (floats_at 3 bs at))

abbrev pub matrix_from : List ℕ → ℕ → Matrix
matrix_from bs at = rows_of (entries_at bs at)

-- ---- the operands behind a command

abbrev pub site_at : List ℕ → ℕ → SitePart
site_at bs at = record { element = integer_at 4 bs at; position = floats_at 3 bs (at + 4) }

abbrev pub operation_at : List ℕ → ℕ → OperationPart
operation_at bs at = record { rotation = entries_at bs at; translation = floats_at 3 bs (at + 9) }

abbrev pub candidate_at : List ℕ → ℕ → CandidatePart
candidate_at bs at =
    record { multiplicity = word_at 2 bs at; letter = word_at 1 bs (at + 2); text = text_at bs (at + 3) }

-- ---- where each run of commands begins, behind L, T and C

abbrev pub sites_from : ℕ
sites_from = 117

abbrev pub operations_from : JobCounts → ℕ
operations_from k = sites_from + k.sites * 29

abbrev pub images_from : JobCounts → ℕ
images_from k = operations_from k + k.operations * 34

abbrev pub targets_from : JobCounts → ℕ
targets_from k = images_from k + k.images * 2

abbrev pub rotations_from : JobCounts → ℕ
rotations_from k = targets_from k + k.targets * 34

abbrev pub candidates_from : JobCounts → ℕ
candidates_from k = rotations_from k + k.rotations * 10

-- N
abbrev pub symprec_from : JobCounts → ℕ
symprec_from k = candidates_from k + k.candidates * 68

-- the operands of n commands of w bytes each
abbrev pub run : {A : Type 0} → (List ℕ → ℕ → A) → List ℕ → ℕ → ℕ → ℕ → List A
run f bs w at n = items (λ place. f bs (place + 1)) w at n

unfoldable pub parts_at : List ℕ → JobCounts → Parts
unfolding word_at items
parts_at bs k =
    record {
      lattice = floats_at 9 bs 1;
      t = entries_at bs 74;
      shift = floats_at 3 bs 83;
      c = entries_at bs 108;
      sites = run site_at bs 29 sites_from k.sites;
      operations = run operation_at bs 34 (operations_from k) k.operations;
      images = run (word_at 1) bs 2 (images_from k) k.images;
      targets = run operation_at bs 34 (targets_from k) k.targets;
      rotations = run entries_at bs 10 (rotations_from k) k.rotations;
      candidates = run candidate_at bs 68 (candidates_from k) k.candidates;
      symprec = word_at 8 bs (symprec_from k + 1);
    }

-- ---- runs

-- From a place on there are n commands c of w bytes each, and no such command more that is whole.
pub record Run (c w : ℕ) (bs : List ℕ) (at n : ℕ) : Type 0 where
  pub room : at + n * w ≤ length bs
  pub commands : (i : ℕ) → i < n → get_or bs (at + i * w) 0 ≡ c
  pub stops : at + n * w + w ≤ length bs → get_or bs (at + n * w) 0 ≡ c → ⊥

-- the six runs, one behind the other
pub record Layout (bs : List ℕ) (k : JobCounts) : Type 0 where
  pub sites : Run 83 29 bs sites_from k.sites
  pub operations : Run 79 34 bs (operations_from k) k.operations
  pub images : Run 80 2 bs (images_from k) k.images
  pub targets : Run 71 34 bs (targets_from k) k.targets
  pub rotations : Run 82 10 bs (rotations_from k) k.rotations
  pub candidates : Run 87 68 bs (candidates_from k) k.candidates

-- L, T and C stand where they should
pub record Opens (bs : List ℕ) : Type 0 where
  pub room : sites_from ≤ length bs
  pub lattice : get_or bs 0 0 ≡ 76
  pub transformation : get_or bs 73 0 ≡ 84
  pub centring : get_or bs 107 0 ≡ 67

-- N and Z stand behind the place, and nothing behind them
pub record Closes (bs : List ℕ) (at : ℕ) : Type 0 where
  pub room : at + 10 ≡ length bs
  pub symprec : get_or bs at 0 ≡ 78
  pub ends : get_or bs (at + 9) 0 ≡ 90
