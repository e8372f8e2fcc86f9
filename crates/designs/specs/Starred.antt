-- "Worked designs (starred: proved)": one table, and one proof over it.
use Rattle.std.specs.Prelude.{ℕ, ◌≡◌, refl, Bool, true, false, List, [], ◌∷◌, ◌++◌, map, get_or, length, replicate, T, eqb, ℤ, pos, negsuc, Float}
use Rattle.std.proofs.Math.Option.{Option, none, some}
use Rattle.std.proofs.Common.{lit<, lit≤}
use Rattle.std.specs.Float.Ieee.{fits}
use Rattle.definitions.specs.declared.Position.{Position}
use Rattle.definitions.specs.declared.Centering.{Centering}
use Rattle.definitions.specs.declared.Centering.TheVariants.{C}
use Rattle.std.specs.Prelude.{Err}
use Rattle.definitions.specs.declared.Refusal.TheVariants.{SiteImage, Coordinates, Diagonalisation}
use Rattle.definitions.specs.Lists.{Each, count}
use Rattle.definitions.specs.Refusal.{Returns, refused}
use Rattle.definitions.specs.Matrix.{Matrix, det}
use Rattle.definitions.specs.Real.{origin, round_away, IsRound, units_of}
use Rattle.definitions.specs.Snf.{Run, points, diagonal}
use Rattle.math_snf_laws.specs.Evaluate.{run}
use Rattle.definitions.specs.Centering.{linear}
use Rattle.definitions.specs.Cell.{listed_positions, site_mapping}
use Rattle.definitions.specs.Orbit.{Labels, orbits}
use Rattle.definitions.specs.Coordinates.{Triplet, x, axis, times, fraction, plus, minus, Reads, rows, origin_of, in_range}
use Rattle.definitions.specs.Job.{float}
use Rattle.definitions.specs.Calls.{inverse_conditions, points_conditions}
use Rattle.definitions.specs.SiteCalls.{text_conditions}
use Rattle.data_wyckoff_laws.specs.Reading.{unreadable_none}
use Rattle.base_cell.proofs.ClassLabels.{labels_computed}
use Rattle.laws.specs.Verdicts.{holds, fails, verdict_of, checked, refused_with_lem}
use Rattle.designs.specs.Computed.{computed}
use Rattle.designs.specs.Evaluate.{leaves}

pub data Design : Type 0 where
  -- a centring's points, and the listed site at a place for a primitive site at p
  centring : Centering → List (List ℤ) → Position → ℕ → Position → Design
  -- a float and what it is rounded to
  rounded : Float → Float → Design
  -- coordinates with their rows and origin
  triplet : List ℕ → Matrix → Position → Design
  -- coordinates that are refused
  no_triplet : List ℕ → ℕ → Design
  -- n sites with m copies each under permutations: the labels, and the multiplicities by orbit
  labelled : List (List ℕ) → ℕ → ℕ → List ℕ → List ℕ → Design
  -- images that are refused
  no_permutation : List ℕ → ℕ → Design
  -- a matrix with its diagonal
  diagonalised : Matrix → List ℤ → Design
  -- a C with its determinant that is refused
  no_diagonal : Matrix → ℤ → ℕ → Design

abbrev NoAnswer : Unit {0} → Type 0
NoAnswer u = ⊥

-- what the definitions say of a design
unfoldable pub Holds : Design → Type 0
Holds (centring c pts p k s) = (r : Run (linear c)) × (points r.third ≡ pts) × (get_or (listed_positions (linear c) (p ∷ []) pts) k origin ≡ s)
Holds (rounded v r) = IsRound v r × (round_away v ≡ r)
Holds (triplet text m q) = (t : Triplet) × Reads text t × T (in_range t) × (rows t ≡ m) × (origin_of t ≡ q)
Holds (no_triplet text k) = Returns (text_conditions text) NoAnswer (refused k)
Holds (labelled ps n m ls ms) = Labels ps (site_mapping n m) ls × (map (λ l. count (eqb l) ls) (orbits ls) ≡ ms)
Holds (no_permutation p k) = Returns (inverse_conditions p (length p)) NoAnswer (refused k)
Holds (diagonalised m ds) = (r : Run m) × (diagonal r.third.d ≡ ds)
Holds (no_diagonal c d k) = (det c ≡ d) × Returns (points_conditions c 64) NoAnswer (refused k)

-- coordinates padded with spaces to 64 bytes
abbrev padded : List ℕ → ℕ → List ℕ
padded text n = text ++ replicate n 32

-- `x,y` and `+x,y,z`
abbrev two_terms : List ℕ
two_terms = padded (120 ∷ 44 ∷ 121 ∷ []) 61

abbrev leading_plus : List ℕ
leading_plus = padded (43 ∷ 120 ∷ 44 ∷ 121 ∷ 44 ∷ 122 ∷ []) 58

abbrev diagonal231 : Matrix
diagonal231 = (pos 2 ∷ pos 0 ∷ pos 0 ∷ []) ∷ (pos 0 ∷ pos 3 ∷ pos 0 ∷ []) ∷ (pos 0 ∷ pos 0 ∷ pos 1 ∷ []) ∷ []

abbrev leaving : Matrix
leaving = (pos 1 ∷ pos 31 ∷ pos 0 ∷ []) ∷ (pos 31 ∷ pos 0 ∷ pos 1 ∷ []) ∷ (pos 0 ∷ pos 1 ∷ pos 0 ∷ []) ∷ []

abbrev half : Float
half = float 0x3FE0000000000000

-- "C-centring: points (0,0,0), (0,1,0); at 0 the second site is (0.5, 0.5, 0)." "round: 0.5 to 1, -0.5 to -1, 2.5 to
-- 3." "`-x,2x,1/2`: rows (-1,0,0), (2,0,0), (0,0,0), origin (0,0,0.5)."
-- "`x,y` and `+x,y,z`: 6." "Permutation 1,0,2,4,3 with two copies a site: labels 0 0 0 0 4 4 6 6 6 6, multiplicities 4,
-- 2, 4." "Permutation 0,0: 5." "diag(2,3,1): diagonal 1, 2, 3."
-- "C rows (1,31,0), (31,0,1), (0,1,0): determinant -1, refused 8."
unfoldable pub starred : List Design
starred =
    centring C ((pos 0 ∷ pos 0 ∷ pos 0 ∷ []) ∷ (pos 0 ∷ pos 1 ∷ pos 0 ∷ []) ∷ []) origin 1 (record { x = half; y = half; z = float 0 })
    ∷ rounded half (float 0x3FF0000000000000)
    ∷ rounded (float 0xBFE0000000000000) (float 0xBFF0000000000000)
    ∷ rounded (float 0x4004000000000000) (float 0x4008000000000000)
    ∷ triplet (padded (45 ∷ 120 ∷ 44 ∷ 50 ∷ 120 ∷ 44 ∷ 49 ∷ 47 ∷ 50 ∷ []) 55)
    ((negsuc 0 ∷ pos 0 ∷ pos 0 ∷ []) ∷ (pos 2 ∷ pos 0 ∷ pos 0 ∷ []) ∷ (pos 0 ∷ pos 0 ∷ pos 0 ∷ []) ∷ [])
    (record { x = float 0; y = float 0; z = half })
    ∷ no_triplet two_terms 6
    ∷ no_triplet leading_plus 6
    ∷ labelled ((1 ∷ 0 ∷ 2 ∷ 4 ∷ 3 ∷ []) ∷ []) 5 2 (0 ∷ 0 ∷ 0 ∷ 0 ∷ 4 ∷ 4 ∷ 6 ∷ 6 ∷ 6 ∷ 6 ∷ []) (4 ∷ 2 ∷ 4 ∷ [])
    ∷ no_permutation (0 ∷ 0 ∷ []) 5
    ∷ diagonalised diagonal231 (pos 1 ∷ pos 2 ∷ pos 3 ∷ [])
    ∷ no_diagonal leaving (negsuc 0) 8
    ∷ []

is_some : {A : Type 0} → Option A → Bool
is_some none = false
is_some (some a) = true

found : {A : Type 0} (o : Option A) → T (is_some o) → A
unfolding is_some
found none t = absurd t
found (some a) t = a

-- the tree of `-x,2x,1/2`
abbrev tree : Triplet
tree =
    record {
      first = record { first = minus (axis x); rest = [] };
      second = record { first = plus (times 2 x); rest = [] };
      third = record { first = plus (fraction 1 2); rest = [] };
    }

-- each of them holds
pub worked : Each Holds starred
unfolding Each Holds starred computed linear IsRound units_of leaves is_some found fits verdict_of
worked = (
  (found (run 9 (linear C)) tt, refl, refl),
  (
    (record { fit = tt; finite = tt; sign = refl; whole = (1, refl); above = lit≤ tt; below = lit< tt }, refl),
    (
      (record { fit = tt; finite = tt; sign = refl; whole = (1, refl); above = lit≤ tt; below = lit< tt }, refl),
      (
        (record { fit = tt; finite = tt; sign = refl; whole = (3, refl); above = lit≤ tt; below = lit< tt }, refl),
        (
          (tree, (tt, refl), tt, refl, refl),
          (
            refused_with_lem (text_conditions two_terms) NoAnswer Coordinates (checked (text_conditions two_terms) (holds (unreadable_none two_terms refl), tt) (Err Coordinates) refl),
            (
              refused_with_lem (text_conditions leading_plus) NoAnswer Coordinates (checked (text_conditions leading_plus) (holds (unreadable_none leading_plus refl), tt) (Err Coordinates) refl),
              (
                (labels_computed 5 ((1 ∷ 0 ∷ 2 ∷ 4 ∷ 3 ∷ []) ∷ []) (site_mapping 5 2) tt tt, refl),
                (
                  refused_with_lem (inverse_conditions (0 ∷ 0 ∷ []) 2) NoAnswer SiteImage (checked (inverse_conditions (0 ∷ 0 ∷ []) 2) (fails (λ t. t), (holds tt, (fails (λ t. t), tt))) (Err SiteImage) refl),
                  (
                    (found (run 9 diagonal231) tt, refl),
                    (
                      (refl, refused_with_lem (points_conditions leaving 64) NoAnswer Diagonalisation (checked (points_conditions leaving 64) (fails (λ t. t), (fails (λ t. t), (leaves leaving, (fails (λ t. t), tt)))) (Err Diagonalisation) refl)),
                      tt,
                    ),
                  ),
                ),
              ),
            ),
          ),
        ),
      ),
    ),
  ),
)
