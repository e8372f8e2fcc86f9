-- "Coordinates": the grammar as a tree and its print, and the tree's meaning.
use Rattle.std.specs.Prelude.{ℕ, suc, ◌+◌, ◌*◌, ◌/◌, ◌^◌, ◌≤◌, ◌<◌, ◌≡◌, Bool, true, false, not, ◌&&◌, cond, T, ltb, eqb, ℤ, pos, negsuc, neg_ℤ, ◌+ℤ◌, ◌*ℤ◌, length, Float}
use mathlib.Core.List.{List, [], ◌∷◌, ◌++◌, map, foldl}
use Rattle.std.specs.Float.{binary64}
use Rattle.std.specs.Float.Ieee.{add, div, round}
use Rattle.definitions.specs.declared.Position.{Position}
use Rattle.definitions.specs.Lists.{all, each, those}
use Rattle.definitions.specs.Limits as Limits
use Rattle.definitions.specs.Matrix.{Matrix, dot}
use Rattle.definitions.specs.Real.{zero_f, real_of, units_of, negative}

-- ---- the tree

pub data Axis : Type 0 where
  x y z : Axis

-- "An item is x, y or z with an optional digit before it; a digit; or digit/nonzero digit."
pub data Item : Type 0 where
  axis : Axis → Item
  times : ℕ → Axis → Item
  whole : ℕ → Item
  fraction : ℕ → ℕ → Item

-- its digits are digits, and a denominator is not 0
abbrev pub is_item : Item → Bool
is_item (axis a) = true
is_item (times n a) = ltb n 10
is_item (whole n) = ltb n 10
is_item (fraction n d) = ltb n 10 && (ltb 0 d && ltb d 10)

-- an item with its sign, + or -
pub data Signed : Type 0 where
  plus minus : Item → Signed

-- "A term is an optional `-`, then items joined by `+` or `-`."
pub record Term : Type 0 where
  pub first : Signed
  pub rest : List Signed

-- "three terms by commas"
pub record Triplet : Type 0 where
  pub first : Term
  pub second : Term
  pub third : Term

abbrev pub item_of : Signed → Item
item_of (plus i) = i
item_of (minus i) = i

abbrev pub items : Term → List Signed
items t = t.first ∷ t.rest

abbrev pub is_term : Term → Bool
is_term t = all (λ i. is_item (item_of i)) (items t)

unfoldable pub is_triplet : Triplet → Bool
unfolding all
is_triplet t = is_term t.first && (is_term t.second && is_term t.third)

-- ---- its print

abbrev pub print_axis : Axis → ℕ
print_axis x = 120
print_axis y = 121
print_axis z = 122

abbrev pub print_digit : ℕ → ℕ
print_digit n = 48 + n

abbrev pub print_item : Item → List ℕ
print_item (axis a) = print_axis a ∷ []
print_item (times n a) = print_digit n ∷ print_axis a ∷ []
print_item (whole n) = print_digit n ∷ []
print_item (fraction n d) = print_digit n ∷ 47 ∷ print_digit d ∷ []

abbrev pub print_first : Signed → List ℕ
print_first (plus i) = print_item i
print_first (minus i) = 45 ∷ print_item i

abbrev pub print_next : Signed → List ℕ
print_next (plus i) = 43 ∷ print_item i
print_next (minus i) = 45 ∷ print_item i

abbrev pub print_term : Term → List ℕ
print_term t = print_first t.first ++ each print_next t.rest

unfoldable pub print : Triplet → List ℕ
unfolding each
print t = print_term t.first ++ 44 ∷ (print_term t.second ++ 44 ∷ print_term t.third)

abbrev pub spaceless : List ℕ → List ℕ
spaceless = those (λ b. not (eqb b 32))

-- "Spaces are dropped": the string is in the grammar as the tree t exactly when what is left is its print.
abbrev pub Reads : List ℕ → Triplet → Type 0
Reads text t = T (is_triplet t) × (spaceless text ≡ print t)

-- ---- its meaning

abbrev pub is_axis : Axis → Axis → Bool
is_axis x x = true
is_axis x y = false
is_axis x z = false
is_axis y x = false
is_axis y y = true
is_axis y z = false
is_axis z x = false
is_axis z y = false
is_axis z z = true

-- how often an item has the axis a: 1 where no digit stands before it
abbrev pub coefficient_in : Axis → Item → ℕ
coefficient_in a (axis b) = cond (is_axis a b) 1 0
coefficient_in a (times n b) = cond (is_axis a b) n 0
coefficient_in a (whole n) = 0
coefficient_in a (fraction n d) = 0

abbrev pub signed_by : (Item → ℕ) → Signed → ℤ
signed_by f (plus i) = pos (f i)
signed_by f (minus i) = neg_ℤ (pos (f i))

abbrev pub sum_z : List ℤ → ℤ
sum_z = foldl ◌+ℤ◌ (pos 0)

-- the "summed coefficient" of an axis in a term
abbrev pub coefficient : Axis → Term → ℤ
coefficient a t = sum_z (map (signed_by (coefficient_in a)) (items t))

abbrev pub term_row : Term → List ℤ
term_row t = coefficient x t ∷ coefficient y t ∷ coefficient z t ∷ []

unfoldable pub rows : Triplet → Matrix
rows t = term_row t.first ∷ term_row t.second ∷ term_row t.third ∷ []

-- an item's numerator and denominator, where it is a constant
abbrev pub numerator : Item → ℕ
numerator (axis a) = 0
numerator (times n a) = 0
numerator (whole n) = n
numerator (fraction n d) = n

abbrev pub denominator : Item → ℕ
denominator (axis a) = 1
denominator (times n a) = 1
denominator (whole n) = 1
denominator (fraction n d) = d

-- "Constants sum left to right from 0, each signed numerator divided once." An item with an axis adds nothing.
abbrev pub add_constant : Float → Signed → Float
add_constant s i = by (item_of i)
  where
    by : Item → Float
    by (axis a) = s
    by (times n a) = s
    by (whole n) = add binary64 s (real_of (signed_by numerator i))
    by (fraction n d) = add binary64 s (div binary64 (real_of (signed_by numerator i)) (real_of (pos d)))

abbrev pub constant : Term → Float
constant t = foldl add_constant zero_f (items t)

unfoldable pub origin_of : Triplet → Position
origin_of t = record { x = constant t.first; y = constant t.second; z = constant t.third }

-- no summed coefficient "leaves -31..31"
unfoldable pub in_range : Triplet → Bool
unfolding all rows
in_range t = Limits.in_range (rows t)

-- The string passes refusal 6: it is "in the grammar", and no summed coefficient leaves the range.
abbrev pub Readable : List ℕ → Type 0
Readable text = (t : Triplet) × Reads text t × T (in_range t)

-- ---- against International Tables A: the coordinate that a term stands for

-- Its value at x = a / n, y = b / n, z = c / n, in units of 1 / (2520 n): 2520 is a multiple of each digit but 0.
abbrev pub item_value : ℤ → ℤ → ℤ → ℕ → Item → ℤ
item_value a b c n (axis x) = pos 2520 *ℤ a
item_value a b c n (axis y) = pos 2520 *ℤ b
item_value a b c n (axis z) = pos 2520 *ℤ c
item_value a b c n (times k x) = pos (2520 * k) *ℤ a
item_value a b c n (times k y) = pos (2520 * k) *ℤ b
item_value a b c n (times k z) = pos (2520 * k) *ℤ c
item_value a b c n (whole k) = pos (2520 * k * n)
item_value a b c n (fraction k d) = pos (2520 / d * k * n)

abbrev pub signed_value : ℤ → ℤ → ℤ → ℕ → Signed → ℤ
signed_value a b c n (plus i) = item_value a b c n i
signed_value a b c n (minus i) = neg_ℤ (item_value a b c n i)

abbrev pub term_value : ℤ → ℤ → ℤ → ℕ → Term → ℤ
term_value a b c n t = sum_z (map (signed_value a b c n) (items t))

-- the exact sum of a term's constants, in units of 1 / 2520
abbrev pub exact_constant : Term → ℤ
exact_constant t = sum_z (map (signed_by (λ i. 2520 / denominator i * numerator i)) (items t))

-- To be proved: at every rational point a term's value is its row times the point, and its constants.
abbrev pub RowsMeanTheTriplet : Type 0
RowsMeanTheTriplet =
    (t : Term) (a b c : ℤ) (n : ℕ) →
    term_value a b c n t
    ≡ pos 2520 *ℤ dot (coefficient x t) (coefficient y t) (coefficient z t) a b c +ℤ pos n *ℤ exact_constant t

-- ---- the origin against IEEE 754

abbrev pub is_constant : Item → Bool
is_constant (axis a) = false
is_constant (times n a) = false
is_constant (whole n) = true
is_constant (fraction n d) = true

-- the constants of a term, in order
unfoldable pub constants : Term → List Signed
unfolding those
constants t = those (λ i. is_constant (item_of i)) (items t)

-- a whole number over d, rounded once to nearest; a zero has no sign
abbrev pub rounded : ℤ → ℕ → Float
rounded (pos n) d = round binary64 false n d
rounded (negsuc n) d = round binary64 true (suc n) d

-- a constant: its exact signed fraction, rounded once
abbrev pub constant_value : Signed → Float
constant_value i = rounded (signed_by numerator i) (denominator (item_of i))

-- To be proved: a term's origin is the left-to-right sum of its constants from +0, each its exact fraction rounded once
-- ..
abbrev pub OriginIsTheSum : Type 0
OriginIsTheSum = (t : Term) → T (is_term t) → constant t ≡ foldl (add binary64) zero_f (map constant_value (constants t))

-- .. of which a whole one is exact ..
abbrev pub WholeConstantsAreExact : Type 0
WholeConstantsAreExact = (n : ℕ) → n < 10 → (units_of (constant_value (plus (whole n))) ≡ n * 2 ^ 1074)
    × (units_of (constant_value (minus (whole n))) ≡ n * 2 ^ 1074)
    × (negative (constant_value (plus (whole n))) ≡ false)
    × (negative (constant_value (minus (whole n))) ≡ ltb 0 n)

-- .. and so, with one constant at the most, it is the exact sum, rounded once.
abbrev pub OriginIsRoundedOnce : Type 0
OriginIsRoundedOnce = (t : Term) → T (is_term t) → length (constants t) ≤ 1 → constant t ≡ rounded (exact_constant t) 2520
