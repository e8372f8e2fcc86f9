-- Definitions of this crate: those of functions for which the definitions have no name, and what each function on a row
-- gives.
use Rattle.std.specs.Prelude.{ℕ, ◌≡◌, refl, Bool, true, false, ◌&&◌, List, [], ◌∷◌, get_or, pos, Float}
use Rattle.std.proofs.Common.{◌∙◌}
use Rattle.std.specs.Float.{nan, binary64}
use Rattle.std.specs.Float.Ieee.{neg, add, div}
use Rattle.definitions.specs.Lists.{all}
use Rattle.definitions.specs.Matrix.{Matrix, mat}
use Rattle.definitions.specs.Real.{RealMatrix, at_f, row_sum, minor_f, is_finite, real_of, real}

abbrev pub item : List Float → ℕ → Float
item r j = get_or r j nan

abbrev pub three : (ℕ → Float) → List Float
three f = f 0 ∷ f 1 ∷ f 2 ∷ []

-- ---- public functions
-- each entry over the same number
abbrev pub divide_m : RealMatrix → Float → RealMatrix
divide_m m by = mat (λ i j. div binary64 (at_f m i j) by)

-- the first two rows as they are, each entry of the third with the other sign
abbrev pub negate_third_row : RealMatrix → RealMatrix
negate_third_row m = get_or m 0 [] ∷ get_or m 1 [] ∷ three (λ j. neg (at_f m 2 j)) ∷ []

abbrev pub finite_row : List Float → Bool
finite_row r = is_finite (item r 0) && is_finite (item r 1) && is_finite (item r 2)

-- no entry is an infinity or a NaN
abbrev pub all_finite : RealMatrix → Bool
all_finite m = finite_row (get_or m 0 []) && finite_row (get_or m 1 []) && finite_row (get_or m 2 [])

-- which is what the definitions say of a matrix given by its entries
each : (p q r : Bool) → elim p [ true ↦ elim q [ true ↦ elim r [ true ↦ true | false ↦ false ] | false ↦ false ] | false ↦ false ] ≡ (p && q && r)
each true true true = refl
each true true false = refl
each true false r = refl
each false q r = refl

row : (f : ℕ → Float) → all is_finite (three f) ≡ finite_row (three f)
unfolding all
row f = each (is_finite (f 0)) (is_finite (f 1)) (is_finite (f 2))

pub all_finite_lem : (f : ℕ → ℕ → Float) → all (all is_finite) (mat f) ≡ all_finite (mat f)
unfolding all
all_finite_lem f =
    each (all is_finite (three (f 0))) (all is_finite (three (f 1))) (all is_finite (three (f 2)))
    ∙ rw (row (f 0), row (f 1), row (f 2))

-- ---- rows
-- a row times a matrix
abbrev pub row_times : List Float → RealMatrix → List Float
row_times a b = three (λ j. row_sum (item a 0) (item a 1) (item a 2) (at_f b 0 j) (at_f b 1 j) (at_f b 2 j))

abbrev pub add_row : List Float → List Float → List Float
add_row a b = three (λ j. add binary64 (item a j) (item b j))

abbrev pub divide_row : List Float → Float → List Float
divide_row a by = three (λ j. div binary64 (item a j) by)

-- the vector product of two columns over d: a row of an inverse
abbrev pub cross_over : List Float → List Float → Float → List Float
cross_over u v d =
    div binary64 (minor_f (item u 1) (item v 2) (item u 2) (item v 1)) d
    ∷ div binary64 (minor_f (item u 2) (item v 0) (item u 0) (item v 2)) d
    ∷ div binary64 (minor_f (item u 0) (item v 1) (item u 1) (item v 0)) d
    ∷ []

-- the matrix m, each entry by f; z is what a row has past its end
abbrev pub real_by : {A : Type 0} → (A → Float) → A → List (List A) → RealMatrix
real_by f z m = mat (λ i j. f (get_or (get_or m i []) j z))

-- r is the matrix m with each entry as the float that `gives` says, where it says but one
pub record IsReal {A : Type 0} (gives : A → Float → Type 0) (m : List (List A)) (r : RealMatrix) : Type 0 where
  pub entries : (f : A → Float) (z : A) → ((x : A) (y : Float) → gives x y → y ≡ f x) → r ≡ real_by f z m

-- of whole numbers it is this matrix
pub real_is : {m : Matrix} {r : RealMatrix} → IsReal (λ x y. y ≡ real_of x) m r → r ≡ real m
real_is h = h.entries real_of (pos 0) (λ x y e. e)
