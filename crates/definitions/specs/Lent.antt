-- Lent lists: what an entry of each kind stands for, and what it is when zero.
use Rattle.std.specs.Prelude.{ℕ, ◌*◌, Bool, not, ◌||◌, List, [], ◌∷◌, map, length, get_or, eqb, ℤ, pos, Float}
use Rattle.std.specs.Float.{nan}
use Rattle.definitions.specs.declared.Position.{Position}
use Rattle.definitions.specs.Lists.{all, up_to}
use Rattle.definitions.specs.Limits.{too_many_sites, not_some, position_within}
use Rattle.definitions.specs.Matrix.{Matrix, mat, three}
use Rattle.definitions.specs.Real.{RealMatrix, zero_f}
use Rattle.definitions.specs.Job.{Site, Operation, Candidate}
use Rattle.definitions.specs.Permutation.{is_permutation, permutation_at}

-- ---- entries

-- a position or a translation is lent as three floats
abbrev pub position_from : List Float → Position
position_from v = record { x = get_or v 0 nan; y = get_or v 1 nan; z = get_or v 2 nan }

abbrev pub cells_of : Position → List Float
cells_of p = p.x ∷ p.y ∷ p.z ∷ []

-- Zero: of a number 0, of a float +0, of three of them and of three rows of three each 0.
abbrev pub zero_cells : List Float
zero_cells = zero_f ∷ zero_f ∷ zero_f ∷ []

abbrev pub zero_point : List ℤ
zero_point = three (λ i. pos 0)

abbrev pub zero_matrix : Matrix
zero_matrix = mat (λ i j. pos 0)

abbrev pub zero_basis : RealMatrix
zero_basis = mat (λ i j. zero_f)

abbrev pub cells_within : List Float → Bool
cells_within v = position_within (position_from v)

-- ---- lists that belong together: where they differ in length the call refuses with 2, and the rest of the longer one
-- is not read

-- rotations and translations
unfoldable pub operations_from : List Matrix → List (List Float) → List Operation
operations_from [] vs = []
operations_from (m ∷ ms) [] = []
operations_from (m ∷ ms) (v ∷ vs) = record { rotation = m; translation = position_from v } ∷ operations_from ms vs

-- elements and positions
unfoldable pub sites_from : List ℤ → List (List Float) → List Site
sites_from [] ps = []
sites_from (e ∷ es) [] = []
sites_from (e ∷ es) (p ∷ ps) = record { element = e; position = position_from p } ∷ sites_from es ps

-- multiplicities, letters and coordinates
unfoldable pub candidates_from : List ℕ → List ℕ → List (List ℕ) → List Candidate
candidates_from [] ls ts = []
candidates_from (m ∷ ms) [] ts = []
candidates_from (m ∷ ms) (l ∷ ls) [] = []
candidates_from (m ∷ ms) (l ∷ ls) (t ∷ ts) = record { multiplicity = m; letter = l; text = t } ∷ candidates_from ms ls ts

abbrev pub unlike : ℕ → ℕ → Bool
unlike m n = not (eqb m n)

-- ---- permutations

-- k permutations of n sites in one list
abbrev pub permutations_of : ℕ → ℕ → List ℕ → List (List ℕ)
permutations_of n k images = map (permutation_at n images) (up_to k)

abbrev pub bad_permutation_counts : ℕ → ℕ → List ℕ → Bool
bad_permutation_counts n k images = too_many_sites n || not_some k || unlike (length images) (k * n)

-- one of them is none
abbrev pub bad_images : ℕ → ℕ → List ℕ → Bool
bad_images n k images = not (all (λ o. is_permutation n (permutation_at n images o)) (up_to k))
