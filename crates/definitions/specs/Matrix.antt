-- Whole numbers in threes. "Matrices are three rows of three"; "Integer determinants and cofactors are exact": they are
-- in ℤ.
use Rattle.std.specs.Prelude.{ℕ, ◌+◌, ◌%◌, cond, List, [], ◌∷◌, eqb, get_or, ℤ, pos, nat_abs, ◌+ℤ◌, ◌-ℤ◌, ◌*ℤ◌}

abbrev pub Matrix : Type 0
Matrix = List (List ℤ)

-- the entry in row i and column j, both counted from 0
abbrev pub at : Matrix → ℕ → ℕ → ℤ
at m i j = get_or (get_or m i []) j (pos 0)

-- the matrix whose entry in row i and column j is f i j
abbrev pub mat : {A : Type 0} → (ℕ → ℕ → A) → List (List A)
mat f = (f 0 0 ∷ f 0 1 ∷ f 0 2 ∷ []) ∷ (f 1 0 ∷ f 1 1 ∷ f 1 2 ∷ []) ∷ (f 2 0 ∷ f 2 1 ∷ f 2 2 ∷ []) ∷ []

abbrev pub identity : Matrix
identity =
    (pos 1 ∷ pos 0 ∷ pos 0 ∷ [])
    ∷ (pos 0 ∷ pos 1 ∷ pos 0 ∷ [])
    ∷ (pos 0 ∷ pos 0 ∷ pos 1 ∷ [])
    ∷ []

abbrev pub dot : ℤ → ℤ → ℤ → ℤ → ℤ → ℤ → ℤ
dot a b c x y z = a *ℤ x +ℤ b *ℤ y +ℤ c *ℤ z

abbrev pub mul_m : Matrix → Matrix → Matrix
mul_m a b = mat (λ i j. dot (at a i 0) (at a i 1) (at a i 2) (at b 0 j) (at b 1 j) (at b 2 j))

abbrev pub transpose : Matrix → Matrix
transpose m = mat (λ i j. at m j i)

-- a vector is a list of three whole numbers
abbrev pub item : List ℤ → ℕ → ℤ
item v i = get_or v i (pos 0)

abbrev pub three : {A : Type 0} → (ℕ → A) → List A
three f = f 0 ∷ f 1 ∷ f 2 ∷ []

-- a matrix times a column
abbrev pub apply : Matrix → List ℤ → List ℤ
apply m v = three (λ i. dot (at m i 0) (at m i 1) (at m i 2) (item v 0) (item v 1) (item v 2))

abbrev pub sub_v : List ℤ → List ℤ → List ℤ
sub_v v w = three (λ i. item v i -ℤ item w i)

-- the determinant of (a b), (c d)
abbrev pub minor : ℤ → ℤ → ℤ → ℤ → ℤ
minor a b c d = a *ℤ d -ℤ b *ℤ c

-- the next of the numbers 0, 1, 2 in a circle, and the one after it
abbrev pub next : ℕ → ℕ
next i = (i + 1) % 3

abbrev pub after : ℕ → ℕ
after i = (i + 2) % 3

-- The cofactor of the entry in row i and column j: the minor of the other two rows and columns, both taken cyclically,
-- which gives it its sign.
abbrev pub cofactor : Matrix → ℕ → ℕ → ℤ
cofactor m i j =
    minor (at m (next i) (next j)) (at m (next i) (after j)) (at m (after i) (next j)) (at m (after i) (after j))

abbrev pub det : Matrix → ℤ
det m = dot (at m 0 0) (at m 0 1) (at m 0 2) (cofactor m 0 0) (cofactor m 0 1) (cofactor m 0 2)

-- the transposed cofactors: m times them is det m times the identity
abbrev pub adjugate : Matrix → Matrix
adjugate m = mat (λ i j. cofactor m j i)

-- 1 or -1 as it is, any other number 0
abbrev pub unit : ℤ → ℤ
unit z = cond (eqb (nat_abs z) 1) z (pos 0)

-- The inverse of a matrix whose determinant is 1 or -1. Zero where it is another, since no whole matrix is its inverse.
abbrev pub inverse : Matrix → Matrix
inverse m = mat (λ i j. unit (det m) *ℤ cofactor m j i)
