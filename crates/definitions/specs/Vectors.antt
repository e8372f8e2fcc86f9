-- Vectors, computed through the definitions. The patterns of the floats are those of Rust and of Python.
use Rattle.std.specs.Prelude.{ℕ, ◌≡◌, refl, true, false, List, [], ◌∷◌, map, ℤ, pos, negsuc, replicate}
use Rattle.std.proofs.Math.Option.{some}
use Rattle.std.proofs.Common.{inl}
use Rattle.std.specs.Float.{binary64}
use Rattle.std.specs.Float.Ieee.{of_bits, round, add, sub, sum, neg, div, rem, of_int}
use Rattle.std.specs.Prelude.{Err}
use Rattle.definitions.specs.declared.Refusal.TheVariants.{Coordinates}
use Rattle.definitions.specs.Lists.{all, count, each, first, those, up_from}
use Rattle.definitions.specs.Refusal.{precedence, upto, coordinates, determinant, ◌when◌, Applies, NoneOf}
use Rattle.definitions.specs.Refusal.{Returns, Checked, padded}
use Rattle.definitions.specs.Limits.{most_sites, most_listed}
use Rattle.definitions.specs.Matrix.{Matrix, mul_m, inverse, identity}
use Rattle.definitions.specs.Real.{zero_f, origin, round_away}
use Rattle.definitions.specs.Permutation.{is_permutation, inverse_image, after}
use Rattle.definitions.specs.Shuffle.{step, swap_down, shuffled}
use Rattle.definitions.specs.Symmetrization.{off_round}
use Rattle.definitions.specs.Snf.{State, start, pivot, places, lesser, least, pass, moved, signed}
use Rattle.definitions.specs.Snf.{clear_row, clear_column}
use Rattle.definitions.specs.Snf.{cleared, begun, begun_in, box, points}
use Rattle.definitions.specs.Cell.{reduced, listed_points, site_mapping, listed_elements}
use Rattle.definitions.specs.Orbit.{multiplicities, orbit, orbits}
use Rattle.definitions.specs.Coordinates.{Signed, Term, Triplet, x, axis, times, whole, fraction, plus, minus}
use Rattle.definitions.specs.Coordinates.{print_term, term_row, constant, print, rows, origin_of}
use Rattle.definitions.specs.Standardize.{listed_rooms}
use Rattle.definitions.specs.WholeCalls.{ample}

-- ---- refusals

-- 1 to 13, and those before 6
in_order :
    (precedence ≡ 1 ∷ 2 ∷ 3 ∷ 4 ∷ 5 ∷ 6 ∷ 7 ∷ 8 ∷ 9 ∷ 10 ∷ 11 ∷ 12 ∷ 13 ∷ [])
    × (upto coordinates precedence ≡ 1 ∷ 2 ∷ 3 ∷ 4 ∷ 5 ∷ [])
unfolding precedence upto
in_order = (refl, refl)

-- where 7 and 6 apply, 6 is returned
lower_first : Checked ((determinant when Unit {0}) ∷ (coordinates when Unit {0}) ∷ []) (Err Coordinates)
unfolding Checked Returns Applies NoneOf upto precedence
lower_first = (inl tt, (λ a. a, (λ a. a, (λ a. a, (λ a. a, (λ a. a, tt))))))

-- an answer at the front, zero behind it
zero_behind : padded {A = ℕ} 0 (7 ∷ 8 ∷ []) 4 ≡ 7 ∷ 8 ∷ 0 ∷ 0 ∷ []
zero_behind = refl

-- ---- room: the report's lists have a cell for each of the most sites that are listed, and of the most that are given

enough_room : (listed_rooms ample ≡ replicate 7 most_listed) × (ample.primitive ≡ most_sites)
enough_room = (refl, refl)

-- ---- permutations: 1 2 0

of_permutations :
    (map (inverse_image (1 ∷ 2 ∷ 0 ∷ [])) (0 ∷ 1 ∷ 2 ∷ []) ≡ 2 ∷ 0 ∷ 1 ∷ [])
    × (after (1 ∷ 2 ∷ 0 ∷ []) (1 ∷ 0 ∷ 2 ∷ []) ≡ 2 ∷ 1 ∷ 0 ∷ [])
    × (map (is_permutation 3) ((1 ∷ 2 ∷ 0 ∷ []) ∷ (1 ∷ 2 ∷ 1 ∷ []) ∷ (1 ∷ 2 ∷ 3 ∷ []) ∷ (1 ∷ 0 ∷ []) ∷ [])
    ≡ true ∷ false ∷ false ∷ false ∷ [])
unfolding inverse_image is_permutation all count first up_from
of_permutations = (refl, refl, refl)

-- request M-101's own figures: states, of which the last has a product over 32 bits; lists, of which 2 from 2 tells the
-- stepped state from the one before
of_shuffles :
    (map step (0 ∷ 1 ∷ 42 ∷ 0xFFFFFFFF ∷ []) ≡ 0x3C6EF35F ∷ 0x3C88596C ∷ 0x4099B181 ∷ 0x3C558D52 ∷ [])
    × (map (λ n. shuffled n 0) (0 ∷ 1 ∷ []) ≡ [] ∷ (0 ∷ []) ∷ [])
    × (map (shuffled 2) (1 ∷ 2 ∷ []) ≡ (1 ∷ 0 ∷ []) ∷ (0 ∷ 1 ∷ []) ∷ [])
    × (shuffled 8 1 ≡ 6 ∷ 2 ∷ 3 ∷ 5 ∷ 7 ∷ 4 ∷ 1 ∷ 0 ∷ [])
unfolding step swap_down shuffled up_from
of_shuffles = (refl, refl, refl, refl)

-- ---- rounding: 0.75 is 0.25 below its whole number

off_round_lem : off_round (of_bits binary64 0x3FE8000000000000) ≡ of_bits binary64 0xBFD0000000000000
unfolding of_bits round round_away sub add sum neg
off_round_lem = refl

-- ---- the diagonalisation: one pass of rows (2,1,0), (4,-3,1), (0,1,1), and of diag(-2,3,5)

abbrev three_rows : ℤ → ℤ → ℤ → ℤ → ℤ → ℤ → ℤ → ℤ → ℤ → Matrix
three_rows a b c d e f g h i = (a ∷ b ∷ c ∷ []) ∷ (d ∷ e ∷ f ∷ []) ∷ (g ∷ h ∷ i ∷ []) ∷ []

abbrev mixed : Matrix
mixed = three_rows (pos 2) (pos 1) (pos 0) (pos 4) (negsuc 2) (pos 1) (pos 0) (pos 1) (pos 1)

abbrev after_pass : State
after_pass = (pass 0 (0, 1) (start mixed)).state

-- its pivot is the 1 in the first row; D, L, R, and L M R = D
one_pass :
    (pivot 0 mixed ≡ some (0, 1))
    × (after_pass.d ≡ three_rows (pos 1) (pos 0) (pos 0) (pos 0) (pos 10) (pos 1) (pos 0) (negsuc 1) (pos 1))
    × (after_pass.l ≡ three_rows (pos 1) (pos 0) (pos 0) (pos 3) (pos 1) (pos 0) (negsuc 0) (pos 0) (pos 1))
    × (after_pass.r ≡ three_rows (pos 0) (pos 1) (pos 0) (pos 1) (negsuc 1) (pos 0) (pos 0) (pos 0) (pos 1))
    × (mul_m (mul_m after_pass.l mixed) after_pass.r ≡ after_pass.d)
unfolding places lesser least moved signed clear_row clear_column cleared
one_pass = (refl, refl, refl, refl, refl)

abbrev negative : Matrix
negative = three_rows (negsuc 1) (pos 0) (pos 0) (pos 0) (pos 3) (pos 0) (pos 0) (pos 0) (pos 5)

-- a negative pivot is negated with its column
negated :
    (pass 0 (0, 0) (start negative)).state.d
    ≡ three_rows (pos 2) (pos 0) (pos 0) (pos 0) (pos 3) (pos 0) (pos 0) (pos 0) (pos 5)
unfolding places lesser least moved signed clear_row clear_column cleared
negated = refl

-- passes begun: 511 stays and 512 leaves, the pass that leaves counts, and a stage behind it does not
abbrev entries : List ℤ → List (List ℤ)
entries = map (λ z. z ∷ [])

passes-begun :
    (map (λ zs. begun (entries zs)) ([] ∷ (pos 511 ∷ negsuc 510 ∷ []) ∷ (pos 1 ∷ negsuc 511 ∷ pos 1 ∷ []) ∷ [])
    ≡ 0 ∷ 2 ∷ 2 ∷ [])
    × (begun_in (entries (pos 1 ∷ pos 2 ∷ [])) (entries (pos 512 ∷ pos 1 ∷ [])) (entries (pos 1 ∷ []))
    ≡ record { first = 2; second = 1; third = 0 })
    × (begun_in (entries (pos 512 ∷ [])) (entries (pos 1 ∷ [])) (entries (pos 1 ∷ []))
    ≡ record { first = 1; second = 0; third = 0 })
unfolding begun all each
passes-begun = (refl, refl, refl)

-- ---- points and listed sites: D = diag(1,1,2), L with a third row (0,1,1)

abbrev ended : State
ended =
    record {
      d = three_rows (pos 1) (pos 0) (pos 0) (pos 0) (pos 1) (pos 0) (pos 0) (pos 0) (pos 2);
      l = three_rows (pos 1) (pos 0) (pos 0) (pos 0) (pos 0) (pos 1) (pos 0) (pos 1) (pos 1);
      r = identity;
    }

abbrev vector : ℕ → ℕ → ℕ → List ℤ
vector a b c = pos a ∷ pos b ∷ pos c ∷ []

-- the last number fastest; L⁻¹f
in_box :
    (box 1 2 2 ≡ vector 0 0 0 ∷ vector 0 0 1 ∷ vector 0 1 0 ∷ vector 0 1 1 ∷ [])
    × (mul_m (inverse ended.l) ended.l ≡ identity)
    × (points ended ≡ vector 0 0 0 ∷ vector 0 1 0 ∷ [])
unfolding box points each up_from
in_box = (refl, refl, refl)

-- -1.25 % 1 is -0.25
sign_kept : reduced (of_bits binary64 0xBFF4000000000000) ≡ of_bits binary64 0xBFD0000000000000
unfolding reduced of_bits round rem
sign_kept = refl

-- two sites, two copies each: runs of points, primitive sites and elements
runs :
    (listed_points 2 (points ended) ≡ vector 0 0 0 ∷ vector 0 1 0 ∷ vector 0 0 0 ∷ vector 0 1 0 ∷ [])
    × (site_mapping 2 2 ≡ 0 ∷ 0 ∷ 1 ∷ 1 ∷ [])
    × (listed_elements (pos 63 ∷ pos 8 ∷ []) 2 ≡ pos 63 ∷ pos 63 ∷ pos 8 ∷ pos 8 ∷ [])
unfolding listed_points site_mapping listed_elements box points each up_from
runs = (refl, refl, refl)

-- ---- labels 0 0 2 0

of_labels :
    (multiplicities (0 ∷ 0 ∷ 2 ∷ 0 ∷ []) ≡ 3 ∷ 3 ∷ 1 ∷ 3 ∷ [])
    × (orbit (0 ∷ 0 ∷ 2 ∷ 0 ∷ []) 0 ≡ 0 ∷ 1 ∷ 3 ∷ [])
    × (orbits (0 ∷ 0 ∷ 2 ∷ 0 ∷ []) ≡ 0 ∷ 2 ∷ [])
unfolding multiplicities orbit orbits count those up_from
of_labels = (refl, refl, refl)

-- ---- coordinates

-- a term with its print, its row and the pattern of its origin
record OfTerm : Type 0 where
  term : Term
  text : List ℕ
  row : List ℤ
  origin : ℕ

abbrev of : Signed → List Signed → List ℕ → List ℤ → ℕ → OfTerm
of i l text row origin = record { term = record { first = i; rest = l }; text = text; row = row; origin = origin }

abbrev none : List ℤ
none = pos 0 ∷ pos 0 ∷ pos 0 ∷ []

-- `-1/4`, `-1`, `1`, `1/2-1/3` (one above the pattern of 1/6), `-0` (the origin is +0), `-x`, `2x`, `1/2`
abbrev terms : List OfTerm
terms =
    of (minus (fraction 1 4)) [] (45 ∷ 49 ∷ 47 ∷ 52 ∷ []) none 0xBFD0000000000000
    ∷ of (minus (whole 1)) [] (45 ∷ 49 ∷ []) none 0xBFF0000000000000
    ∷ of (plus (whole 1)) [] (49 ∷ []) none 0x3FF0000000000000
    ∷ of (plus (fraction 1 2)) (minus (fraction 1 3) ∷ []) (49 ∷ 47 ∷ 50 ∷ 45 ∷ 49 ∷ 47 ∷ 51 ∷ []) none
    0x3FC5555555555556
    ∷ of (minus (whole 0)) [] (45 ∷ 48 ∷ []) none 0
    ∷ of (minus (axis x)) [] (45 ∷ 120 ∷ []) (negsuc 0 ∷ pos 0 ∷ pos 0 ∷ []) 0
    ∷ of (plus (times 2 x)) [] (50 ∷ 120 ∷ []) (pos 2 ∷ pos 0 ∷ pos 0 ∷ []) 0
    ∷ of (plus (fraction 1 2)) [] (49 ∷ 47 ∷ 50 ∷ []) none 0x3FE0000000000000
    ∷ []

their_prints : map (λ v. print_term v.term) terms ≡ map (λ v. v.text) terms
unfolding each
their_prints = refl

their_rows : map (λ v. term_row v.term) terms ≡ map (λ v. v.row) terms
their_rows = refl

their_origins : map (λ v. constant v.term) terms ≡ map (λ v. of_bits binary64 v.origin) terms
unfolding of_bits round add div of_int
their_origins = refl

-- `-x,2x,1/2`
abbrev triplet : Triplet
triplet = record {
  first = record { first = minus (axis x); rest = [] };
  second = record { first = plus (times 2 x); rest = [] };
  third = record { first = plus (fraction 1 2); rest = [] };
}

triplet_holds :
    (print triplet ≡ 45 ∷ 120 ∷ 44 ∷ 50 ∷ 120 ∷ 44 ∷ 49 ∷ 47 ∷ 50 ∷ [])
    × (rows triplet ≡ (negsuc 0 ∷ pos 0 ∷ pos 0 ∷ []) ∷ (pos 2 ∷ pos 0 ∷ pos 0 ∷ []) ∷ none ∷ [])
    × (origin_of triplet ≡ record { x = zero_f; y = zero_f; z = of_bits binary64 0x3FE0000000000000 })
unfolding print rows origin_of of_bits round add div of_int
triplet_holds = (refl, refl, refl)
