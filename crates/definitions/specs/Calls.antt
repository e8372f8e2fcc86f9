-- The public calls: "each call checks the conditions that concern its arguments". For each its conditions on its own
-- arguments, and one promise: the verdict, the answer, and every lent cell afterwards. Here those of math and
-- base/permutation.rs,
-- base/transformation.rs, symmetrize/symmetrization.rs, and those of requests M-101 and M-113 of document 02.
use Rattle.std.specs.Prelude.{ℕ, ◌*◌, ◌≡◌, Bool, true, false, not, ◌||◌, List, [], ◌∷◌, map, length, T, leb, eqb, ℤ, Float}
use Rattle.std.proofs.Math.Option.{Option, none, some}
use Rattle.definitions.specs.declared.Position.{Position}
use Rattle.std.specs.Prelude.{Result, Ok, Err}
use Rattle.definitions.specs.declared.PrimSite.{PrimSite}
use Rattle.definitions.specs.declared.Refusal.{Refusal}
use Rattle.definitions.specs.declared.Refusal.TheVariants.{MatrixEntry, Diagonalisation}
use Rattle.definitions.specs.declared.Stages.{Stages}
use Rattle.definitions.specs.declared.Bases.{Bases}
use Rattle.definitions.specs.declared.Passes.{Passes}
use Rattle.definitions.specs.declared.Passes.TheVariants.{Counted, Left, Outside}
use Rattle.definitions.specs.Lists.{all, each, up_to}
use Rattle.definitions.specs.Refusal.{Condition, ◌when◌, counts, matrix_entry, float_range, site_image}
use Rattle.definitions.specs.Refusal.{determinant, diagonalisation, buffer, target_rotation, lattice}
use Rattle.definitions.specs.Refusal.{number, Outcome, outcome, Verdict, Returns, Checked, Filled}
use Rattle.definitions.specs.Refusal.{Holds}
use Rattle.definitions.specs.Limits.{too_many_sites, not_some, in_range, in_range_of_c, lattice_within}
use Rattle.definitions.specs.Limits.{position_within, not_unimodular, copies, bad_copies, shorter_than}
use Rattle.definitions.specs.Matrix.{Matrix}
use Rattle.definitions.specs.Real.{RealMatrix}
use Rattle.definitions.specs.Lent.{position_from, cells_of, zero_cells, zero_point}
use Rattle.definitions.specs.Lent.{cells_within, operations_from}
use Rattle.definitions.specs.Lent.{unlike, permutations_of, bad_permutation_counts, bad_images}
use Rattle.definitions.specs.Permutation.{image, is_permutation, inverse_image, after}
use Rattle.definitions.specs.Shuffle.{shuffled}
use Rattle.definitions.specs.Transformation.{transform_rotation, rotation_absent, aligned_to, transform_position}
use Rattle.definitions.specs.Symmetrization.{symmetrized, conventional_basis, lattice_fails, new_of, primitive_of}
use Rattle.definitions.specs.Symmetrization.{listed_of}
use Rattle.definitions.specs.Snf.{State, Run, Leaves, begun_of, passes_of, points, diagonal}

-- ---- math/snf.rs

abbrev pub entry_outside : Matrix → Condition
entry_outside m = matrix_entry when T (not (in_range m))

-- `SNF::new` on any matrix: 3, 8
abbrev pub snf_conditions : Matrix → List Condition
snf_conditions m = entry_outside m ∷ (diagonalisation when Leaves m) ∷ []

abbrev pub IsSnf : Matrix → State → Type 0
IsSnf m t = (r : Run m) × (r.third ≡ t)

-- D, L and R are those of the run of m
abbrev pub SnfPromise : Matrix → Outcome State → Type 0
SnfPromise m = Returns (snf_conditions m) (IsSnf m)

-- Request M-113 of document 02: how many passes each stage has.

-- `Passes`, case by case: accepted, or the refusal; and the passes of each stage, if they are told
abbrev pub passes_told : Passes → Verdict × Option Stages
passes_told (Counted s) = (Ok tt, some s)
passes_told (Left s) = (Err Diagonalisation, some s)
passes_told Outside = (Err MatrixEntry, none)

-- What goes with a verdict on m: accepted, the passes of its run; "where 8 applies, it answers 8 together with the
-- passes begun up to there"; any other number stands alone.
abbrev pub PassesWith : Matrix → Verdict → Option Stages → Type 0
PassesWith m (Ok u) o = (r : Run m) × (o ≡ some (passes_of r))
PassesWith m (Err k) o =
    elim (eqb (number k) diagonalisation) [ true ↦ (r : Run m) × (o ≡ some (begun_of r)) | false ↦ o ≡ none ]

-- the conditions of `SNF::new`: 3, 8
abbrev pub PassesPromise : Matrix → Passes → Type 0
PassesPromise m p =
    Checked (snf_conditions m) (passes_told p).0 × PassesWith m (passes_told p).0 (passes_told p).1

-- what concerns C alone: 3, 7, 8
abbrev pub centring_conditions : Matrix → List Condition
centring_conditions c =
    (matrix_entry when T (not (in_range_of_c c)))
    ∷ (determinant when T (bad_copies c))
    ∷ (diagonalisation when Leaves c)
    ∷ []

-- "Its three diagonal numbers are reported as the invariant factors": of C
abbrev pub FactorsPromise : Matrix → Result (List ℤ) Refusal → Type 0
FactorsPromise c o =
    Returns (centring_conditions c) (λ fs. (r : Run c) × (fs ≡ diagonal r.third.d)) (outcome (λ fs. fs) o)

-- ---- base/permutation.rs

abbrev pub bad_permutation : List ℕ → Bool
bad_permutation p = not (is_permutation (length p) p)

-- the identity of n sites: 2, 10
abbrev pub identity_conditions : ℕ → ℕ → List Condition
identity_conditions n room = (counts when T (too_many_sites n)) ∷ (buffer when T (shorter_than n room)) ∷ []

abbrev pub IdentityPromise : ℕ → List ℕ → List ℕ → Verdict → Type 0
IdentityPromise n entry exit v = Filled 0 (identity_conditions n (length entry)) (up_to n) entry exit v

-- the image of the site i: 2, 5
abbrev pub image_conditions : List ℕ → ℕ → List Condition
image_conditions p i =
    (counts when T (too_many_sites (length p))) ∷ (site_image when T (bad_permutation p || leb (length p) i)) ∷ []

abbrev pub ImagePromise : List ℕ → ℕ → Result PrimSite Refusal → Type 0
ImagePromise p i r = Returns (image_conditions p i) (λ (a : ℕ). a ≡ image p i) (outcome (λ s. s.0) r)

-- the inverse: 2, 5, 10
abbrev pub inverse_conditions : List ℕ → ℕ → List Condition
inverse_conditions p room =
    (counts when T (too_many_sites (length p)))
    ∷ (site_image when T (bad_permutation p))
    ∷ (buffer when T (shorter_than (length p) room))
    ∷ []

abbrev pub InversePromise : List ℕ → List ℕ → List ℕ → Verdict → Type 0
InversePromise p entry exit v =
    Filled 0 (inverse_conditions p (length entry)) (map (inverse_image p) (up_to (length p))) entry exit v

-- p after q: 2, 5, 10
abbrev pub product_conditions : List ℕ → List ℕ → ℕ → List Condition
product_conditions p q room =
    (counts when T (too_many_sites (length p) || unlike (length q) (length p)))
    ∷ (site_image when T (bad_permutation p || bad_permutation q))
    ∷ (buffer when T (shorter_than (length p) room))
    ∷ []

abbrev pub ProductPromise : List ℕ → List ℕ → List ℕ → List ℕ → Verdict → Type 0
ProductPromise p q entry exit v = Filled 0 (product_conditions p q (length entry)) (after p q) entry exit v

-- ---- request M-101 of document 02

-- the permutation of n sites that its rules make of a seed: 2, 10. It starts from the identity, and what
-- concerns the two is the same: "A larger n is refused with 2".
abbrev pub shuffle_conditions : ℕ → ℕ → List Condition
shuffle_conditions = identity_conditions

abbrev pub ShufflePromise : ℕ → ℕ → List ℕ → List ℕ → Verdict → Type 0
ShufflePromise seed n entry exit v = Filled 0 (shuffle_conditions n (length entry)) (shuffled n seed) entry exit v

-- ---- base/transformation.rs

-- T⁻¹RT: 3, 7
abbrev pub transform_conditions : Matrix → Matrix → List Condition
transform_conditions t r = entry_outside t ∷ entry_outside r ∷ (determinant when T (not_unimodular t)) ∷ []

abbrev pub RotationPromise : Matrix → Matrix → Result Matrix Refusal → Type 0
RotationPromise t r o =
    Returns (transform_conditions t r) (λ (m : Matrix). m ≡ transform_rotation t r) (outcome (λ m. m) o)

-- the points of C into a list of this room: 3, 7, 8, 10
abbrev pub points_conditions : Matrix → ℕ → List Condition
points_conditions c room =
    (matrix_entry when T (not (in_range_of_c c)))
    ∷ (determinant when T (bad_copies c))
    ∷ (diagonalisation when Leaves c)
    ∷ (buffer when T (shorter_than (copies c) room))
    ∷ []

-- those of a run of the diagonalisation and zero points behind them, or zero points only
abbrev pub PointsLent : Matrix → List (List ℤ) → List (List ℤ) → Verdict → Type 0
PointsLent c entry exit (Ok u) = (r : Run c) × Holds zero_point entry exit (points r.third)
PointsLent c entry exit (Err r) = Holds zero_point entry exit []

abbrev pub PointsPromise : Matrix → List (List ℤ) → List (List ℤ) → Verdict → Type 0
PointsPromise c entry exit v = Checked (points_conditions c (length entry)) v × PointsLent c entry exit v

-- Align the permutations of n sites to targets, all by their rotations (`align_primitive_permutations`): 2, 3, 5, 7,
-- 10, 11.
abbrev pub align_conditions : Matrix → List Matrix → List ℕ → ℕ → List Matrix → ℕ → List Condition
align_conditions t rs images n gs room =
    (counts when T (bad_permutation_counts n (length rs) images || not_some (length gs)))
    ∷ (matrix_entry when T (not (in_range t) || not (all in_range rs) || not (all in_range gs)))
    ∷ (site_image when T (bad_images n (length rs) images))
    ∷ (determinant when T (not_unimodular t))
    ∷ (buffer when T (shorter_than (length gs * n) room))
    ∷ (target_rotation when T (rotation_absent t rs gs))
    ∷ []

-- n entries a target, target by target
abbrev pub AlignPromise : Matrix → List Matrix → List ℕ → ℕ → List Matrix → List ℕ → List ℕ → Verdict → Type 0
AlignPromise t rs images n gs entry exit v =
    Filled 0 (align_conditions t rs images n gs (length entry)) (each (λ p. p) (aligned_to n t rs images gs)) entry exit v

-- ---- symmetrize/symmetrization.rs

-- n positions, targets as two lists, and a permutation of the positions for each
abbrev pub bad_target_counts : ℕ → List Matrix → List (List Float) → List ℕ → Bool
bad_target_counts n gs vs images =
    too_many_sites n || not_some (length gs) || unlike (length vs) (length gs) || unlike (length images) (length gs * n)

abbrev pub symmetrized_cells : List Position → List Matrix → List (List Float) → List ℕ → List (List Float)
symmetrized_cells ps gs vs images =
    map cells_of (symmetrized ps (operations_from gs vs) (permutations_of (length ps) (length gs) images))

abbrev pub transformed_cells : Matrix → Position → List (List Float) → List Position
transformed_cells t shift ps = map (λ v. transform_position t shift (position_from v)) ps

-- Transform given positions and symmetrise them (`symmetrize_positions`): 2, 3, 4, 5, 7, 10.
abbrev pub symmetrize_conditions :
    Matrix → Position → List (List Float) → List Matrix → List (List Float) → List ℕ → ℕ → List Condition
symmetrize_conditions t shift ps gs vs images room =
    (counts when T (bad_target_counts (length ps) gs vs images))
    ∷ (matrix_entry when T (not (in_range t) || not (all in_range gs)))
    ∷ (float_range when T (not (position_within shift) || not (all cells_within ps) || not (all cells_within vs)))
    ∷ (site_image when T (bad_images (length ps) (length gs) images))
    ∷ (determinant when T (not_unimodular t))
    ∷ (buffer when T (shorter_than (length ps) room))
    ∷ []

abbrev pub PositionsPromise :
    Matrix → Position → List (List Float) → List Matrix → List (List Float) → List ℕ →
    List (List Float) → List (List Float) → Verdict → Type 0
PositionsPromise t shift ps gs vs images entry exit v =
    Filled zero_cells (symmetrize_conditions t shift ps gs vs images (length entry))
    (symmetrized_cells (transformed_cells t shift ps) gs vs images)
    entry exit v

-- The lattice l under the conventional rotations rs (`symmetrize_lattice`): 2, 3, 4, 7, 12. No 8: C is not diagonalised
-- here.
abbrev pub lattice_conditions : RealMatrix → Matrix → Matrix → List Matrix → List Condition
lattice_conditions l t c rs =
    (counts when T (not_some (length rs)))
    ∷ (matrix_entry when T (not (in_range t) || not (in_range_of_c c) || not (all in_range rs)))
    ∷ (float_range when T (not (lattice_within l)))
    ∷ (determinant when T (not_unimodular t || bad_copies c))
    ∷ (lattice when T (lattice_fails (conventional_basis l t c) rs))
    ∷ []

-- the new, the primitive and the listed basis
abbrev pub bases_of : RealMatrix → Matrix → Matrix → List Matrix → Bases
bases_of l t c rs =
    record { conventional = new_of l t c rs; primitive = primitive_of l t c rs; listed = listed_of l t c rs }

abbrev pub LatticePromise : RealMatrix → Matrix → Matrix → List Matrix → Result Bases Refusal → Type 0
LatticePromise l t c rs r =
    Returns (lattice_conditions l t c rs) (λ b. b ≡ bases_of l t c rs) (outcome (λ b. b) r)
