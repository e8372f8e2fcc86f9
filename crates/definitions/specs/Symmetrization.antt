-- "Symmetrise" and "Lattice" (moyo's symmetrize/symmetrization.rs).
use Rattle.std.specs.Prelude.{ℕ, Bool, true, not, ◌&&◌, ◌||◌, cond, List, [], ◌∷◌, map, get_or, length, eqb, pos, Float}
use Rattle.std.proofs.Math.Option.{Option, none, some}
use Rattle.std.specs.Float.{binary64}
use Rattle.std.specs.Float.Ieee.{neg, sub, div, lt, eq}
use Rattle.definitions.specs.declared.Position.{Position}
use Rattle.definitions.specs.Lists.{all, up_to}
use Rattle.definitions.specs.Matrix.{Matrix, mat}
use Rattle.definitions.specs.Real.{RealMatrix, zero_f, origin, at_f, real, real_of, mul_f, transpose_f, apply_f, add_p}
use Rattle.definitions.specs.Real.{sub_p, map_p, sum_p, sum_m, inverse_of_c, round_away, is_finite, cholesky, det_f}
use Rattle.definitions.specs.Real.{inverse_f}
use Rattle.definitions.specs.Permutation.{inverse_image}
use Rattle.definitions.specs.Job.{Job, Operation}
use Rattle.definitions.specs.Transformation.{aligned_to, aligned, transformed}

-- ---- positions

abbrev pub position_at : List Position → ℕ → Position
position_at ps i = get_or ps i origin

-- "d - round(d)"
abbrev pub off_round : Float → Float
off_round d = sub binary64 d (round_away d)

-- "d = (R·p[inverse image of i] + t) - p[i]"
abbrev pub displacement : List Position → Operation → List ℕ → ℕ → Position
displacement ps g perm i =
    sub_p
    (add_p (apply_f (real g.rotation) (position_at ps (inverse_image perm i))) g.translation)
    (position_at ps i)

-- each target with its permutation
unfoldable pub displacements : List Position → List Operation → List (List ℕ) → ℕ → List Position
displacements ps [] perms i = []
displacements ps (g ∷ gs) [] i = []
displacements ps (g ∷ gs) (perm ∷ perms) i = map_p off_round (displacement ps g perm i) ∷ displacements ps gs perms i

-- "Site i adds, over targets in order, d - round(d) ..; the sum is divided by the number of targets and added to p[i]":
-- all d from the list ps
unfoldable pub symmetrized_at : List Position → List Operation → List (List ℕ) → ℕ → Position
unfolding displacements
symmetrized_at ps gs perms i =
    add_p (position_at ps i) (map_p (λ s. div binary64 s (real_of (pos (length gs)))) (sum_p (displacements ps gs perms i)))

unfoldable pub symmetrized : List Position → List Operation → List (List ℕ) → List Position
unfolding symmetrized_at
symmetrized ps gs perms = map (symmetrized_at ps gs perms) (up_to (length ps))

-- the job's primitive positions
unfoldable pub primitive_positions : Job → List Position
unfolding symmetrized transformed aligned_to
primitive_positions j = symmetrized (transformed j) j.targets (aligned j)

-- ---- lattice

-- "basis times T, then C"
abbrev pub conventional_basis : RealMatrix → Matrix → Matrix → RealMatrix
conventional_basis b t c = mul_f (mul_f b (real t)) (real c)

-- "metric BᵀB"
abbrev pub metric : RealMatrix → RealMatrix
metric b = mul_f (transpose_f b) b

-- "mean of (RᵀG)R" over the conventional rotations
abbrev pub mean_metric : RealMatrix → List Matrix → RealMatrix
mean_metric b rs =
    let total = sum_m (map (λ r. mul_f (mul_f (transpose_f (real r)) (metric b)) (real r)) rs) in
    mat (λ i j. div binary64 (at_f total i j) (real_of (pos (length rs))))

abbrev pub third : ℕ → Bool
third i = eqb i 2

-- "the transposed Cholesky factor, third row negated if the old determinant is below 0"
abbrev pub new_basis : RealMatrix → RealMatrix → RealMatrix
new_basis old l = mat (λ i j. cond (third i && lt (det_f old) zero_f) (neg (at_f l j i)) (at_f l j i))

-- "The deformation is the new basis times the float inverse of the old conventional one."
abbrev pub deformation : RealMatrix → RealMatrix → RealMatrix
deformation old l = mul_f (new_basis old l) (inverse_f old)

abbrev pub factor_fails : RealMatrix → Option RealMatrix → Bool
factor_fails old none = true
factor_fails old (some l) = eq (det_f old) zero_f || not (all (all is_finite) (deformation old l))

-- Refusal 12: "Cholesky meets a pivot not above 0, the conventional basis has determinant 0, or an entry of the
-- deformation isn't finite."
unfoldable pub lattice_fails : RealMatrix → List Matrix → Bool
unfolding cholesky all
lattice_fails old rs = factor_fails old (cholesky (mean_metric old rs))

abbrev pub basis_or : RealMatrix → Option RealMatrix → RealMatrix
basis_or old none = mat (λ i j. zero_f)
basis_or old (some l) = new_basis old l

-- the new basis, where 12 does not apply
unfoldable pub symmetrized_basis : RealMatrix → List Matrix → RealMatrix
unfolding cholesky
symmetrized_basis old rs = basis_or old (cholesky (mean_metric old rs))

abbrev pub old_basis : Job → RealMatrix
old_basis j = conventional_basis j.lattice j.t j.c

-- The new basis of a lattice under T, C and the conventional rotations. "The primitive basis is the new basis times
-- C⁻¹; the listed
-- basis is the primitive one times C"
abbrev pub new_of : RealMatrix → Matrix → Matrix → List Matrix → RealMatrix
new_of l t c rs = symmetrized_basis (conventional_basis l t c) rs

abbrev pub primitive_of : RealMatrix → Matrix → Matrix → List Matrix → RealMatrix
primitive_of l t c rs = mul_f (new_of l t c rs) (inverse_of_c c)

abbrev pub listed_of : RealMatrix → Matrix → Matrix → List Matrix → RealMatrix
listed_of l t c rs = mul_f (primitive_of l t c rs) (real c)

unfoldable pub primitive_cell_basis : Job → RealMatrix
unfolding symmetrized_basis
primitive_cell_basis j = primitive_of j.lattice j.t j.c j.rotations

unfoldable pub listed_cell_basis : Job → RealMatrix
unfolding symmetrized_basis
listed_cell_basis j = listed_of j.lattice j.t j.c j.rotations
