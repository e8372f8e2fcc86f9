-- "Coordinates and the fit": the 125 offsets, a match, the fit of a site and of an orbit, its letter.
use Rattle.std.specs.Prelude.{ℕ, zero, suc, ◌≡◌, Bool, true, false, ◌&&◌, not, List, [], ◌∷◌, ◌++◌, map, get_or, T, leb, eqb, ℤ, pos, negsuc, nat_abs, Float}
use Rattle.std.proofs.Math.Option.{Option, none, some}
use Rattle.std.specs.Float.{binary64}
use Rattle.std.specs.Float.Ieee.{div, lt}
use Rattle.definitions.specs.declared.Position.{Position}
use Rattle.std.specs.Prelude.{Some, None}
use Rattle.std.specs.Prelude as Prelude
use Rattle.definitions.specs.declared.Fit.{Fit}
use Rattle.definitions.specs.Lists.{all, any, each, first, those}
use Rattle.definitions.specs.Matrix.{Matrix, at}
use Rattle.definitions.specs.Real.{RealMatrix, zero_f, origin, real_of, real, apply_f, add_p, sub_p, norm}
use Rattle.definitions.specs.Snf.{State, Run}
use Rattle.definitions.specs.Cell.{point_of}
use Rattle.definitions.specs.Coordinates.{Triplet, Reads, rows, origin_of}
use Rattle.definitions.specs.Job.{Candidate}
use Rattle.definitions.specs.Orbit.{Labels, orbit, orbits, multiplicities}

-- ---- offsets

abbrev pub inner : List ℤ
inner = negsuc 0 ∷ pos 0 ∷ pos 1 ∷ []

abbrev pub outer : List ℤ
outer = negsuc 1 ∷ negsuc 0 ∷ pos 0 ∷ pos 1 ∷ pos 2 ∷ []

-- every three of the numbers, "last coordinate fastest"
abbrev pub cube : List ℤ → List (List ℤ)
cube ns = each (λ a. each (λ b. map (λ c. a ∷ b ∷ c ∷ []) ns) ns) ns

-- "The 27 offsets in -1..1 come first, then the 98 others in -2..2": the offset at place k is entry k
unfoldable pub offsets : List (List ℤ)
unfolding each all those
offsets = cube inner ++ those (λ o. not (all (λ e. leb (nat_abs e) 1) o)) (cube outer)

-- ---- a match

-- "Given matrix M, origin q, its L, D, R"
pub record Space : Type 0 where
  pub matrix : Matrix
  pub shift : Position
  pub snf : State

-- "divide by dᵢ, or 0 where dᵢ is 0"
abbrev pub quotient : ℤ → Float → Float
quotient (pos zero) b = zero_f
quotient (pos (suc n)) b = div binary64 b (real_of (pos (suc n)))
quotient (negsuc n) b = div binary64 b (real_of (negsuc n))

abbrev pub quotients : Matrix → Position → Position
quotients d b =
    record { x = quotient (at d 0 0) b.x; y = quotient (at d 1 1) b.y; z = quotient (at d 2 2) b.z }

-- "t = (o + p) - q; b = L·t; divide by dᵢ ..; y = R·that; e = ((M·y + q) - p) - o"
unfoldable pub residual : Space → Position → Position → Position
residual s o p =
    let b = apply_f (real s.snf.l) (sub_p (add_p o p) s.shift) in
    let y = apply_f (real s.snf.r) (quotients s.snf.d b) in
    sub_p (sub_p (add_p (apply_f (real s.matrix) y) s.shift) p) o

-- "norm(basis·e)"
unfoldable pub distance : RealMatrix → Space → Position → List ℤ → Float
unfolding residual
distance basis s p o = norm (apply_f basis (residual s (point_of o) p))

-- "It fits if norm(basis·e) is strictly below symprec."
unfoldable pub fits_at : RealMatrix → Float → Space → Position → List ℤ → Bool
unfolding distance
fits_at basis symprec s p o = lt (distance basis s p o) symprec

-- the first of the offsets os that fits, their places counted from k
unfoldable pub match_from : RealMatrix → Float → Space → Position → ℕ → List (List ℤ) → Prelude.Option Fit
unfolding fits_at distance
match_from basis symprec s p k [] = None
match_from basis symprec s p k (o ∷ os) =
    elim (fits_at basis symprec s p o) [
      | true ↦ Some (record { place = k; distance = distance basis s p o })
      | false ↦ match_from basis symprec s p (suc k) os
    ]

-- "A match either fits, with the offset's place and the distance, or misses"
unfoldable pub match_of : RealMatrix → Float → Space → Position → Prelude.Option Fit
unfolding match_from offsets
match_of basis symprec s p = match_from basis symprec s p 0 offsets

-- "at least one of the 125 offsets fits"
unfoldable pub fits125 : RealMatrix → Float → Space → Position → Bool
unfolding any fits_at offsets
fits125 basis symprec s p = any (fits_at basis symprec s p) offsets

-- ---- candidates

-- the space of a candidate: of the tree that its coordinates are, with the matrix's run
pub record IsSpace (text : List ℕ) (s : Space) : Type 0 where
  pub triplet : Triplet
  pub reads : Reads text triplet
  pub matrix : s.matrix ≡ rows triplet
  pub shift : s.shift ≡ origin_of triplet
  pub run : Run (rows triplet)
  pub snf : s.snf ≡ run.third

-- the candidates' coordinates
abbrev pub texts_of : List Candidate → List (List ℕ)
texts_of = map (λ w. w.text)

-- a space for each of them
unfoldable pub AreSpaces : List (List ℕ) → List Space → Type 0
AreSpaces [] [] = Unit {0}
AreSpaces [] (s ∷ ss) = ⊥
AreSpaces (t ∷ ts) [] = ⊥
AreSpaces (t ∷ ts) (s ∷ ss) = IsSpace t s × AreSpaces ts ss

-- a candidate with its space
pub record Choice : Type 0 where
  pub multiplicity : ℕ
  pub letter : ℕ
  pub space : Space

unfoldable pub choices : List Candidate → List Space → List Choice
choices [] ss = []
choices (w ∷ ws) [] = []
choices (w ∷ ws) (s ∷ ss) = record { multiplicity = w.multiplicity; letter = w.letter; space = s } ∷ choices ws ss

-- ---- the candidate walk

-- "A candidate is tried only where its multiplicity equals the orbit's": a position in an orbit of m sites fits the
-- candidate w
unfoldable pub position_fits : RealMatrix → Float → ℕ → Position → Choice → Bool
unfolding fits125
position_fits basis symprec m p w = eqb w.multiplicity m && fits125 basis symprec w.space p

-- the first candidate, in list order, that the position fits
unfoldable pub candidate_for : RealMatrix → Float → ℕ → Position → List Choice → Option Choice
unfolding first position_fits
candidate_for basis symprec m p ws = first (position_fits basis symprec m p) ws

-- ---- the fit

-- What a call letters: listed sites by their primitive sites, the permutations that join those, positions, the listed
-- basis, candidates and symprec.
pub record Lettering : Type 0 where
  pub permutations : List (List ℕ)
  pub mapping : List ℕ
  pub positions : List Position
  pub basis : RealMatrix
  pub candidates : List Candidate
  pub symprec : Float

-- What is found of it: a space for each candidate, and the labels.
pub record Found (g : Lettering) : Type 0 where
  pub spaces : List Space
  pub are_spaces : AreSpaces (texts_of g.candidates) spaces
  pub labels : List ℕ
  pub are_labels : Labels g.permutations g.mapping labels

-- Listed positions with the labels and the multiplicities of their orbits, the listed basis, the candidates with their
-- spaces, and symprec.
pub record Sites : Type 0 where
  pub positions : List Position
  pub labels : List ℕ
  pub multiplicities : List ℕ
  pub basis : RealMatrix
  pub choices : List Choice
  pub symprec : Float

abbrev pub sites_of : {g : Lettering} → Found g → Sites
sites_of {g} w =
    record {
      positions = g.positions;
      labels = w.labels;
      multiplicities = multiplicities w.labels;
      basis = g.basis;
      choices = choices g.candidates w.spaces;
      symprec = g.symprec;
    }

-- "A listed site fits a candidate if the candidate's multiplicity is that of the site's orbit and at least one of the
-- 125 offsets fits, p being the listed position."
unfoldable pub site_fits : Sites → ℕ → Choice → Bool
unfolding position_fits
site_fits g j w =
    position_fits g.basis g.symprec (get_or g.multiplicities j 0) (get_or g.positions j origin) w

-- the site fits at least one candidate
unfoldable pub site_fits_any : Sites → ℕ → Bool
unfolding any site_fits
site_fits_any g j = any (site_fits g j) g.choices

-- "An orbit has a fit if at least one of its sites fits at least one candidate."
unfoldable pub orbit_fits : Sites → ℕ → Bool
unfolding any orbit site_fits_any
orbit_fits g l = any (site_fits_any g) (orbit g.labels l)

-- "Its letter is then that of the first candidate, in list order, that its first such site fits."
unfoldable pub letter_of : Sites → ℕ → Option ℕ
unfolding first orbit site_fits_any candidate_for
letter_of g l = by_site (first (site_fits_any g) (orbit g.labels l))
  where
    by_choice : Option Choice → Option ℕ
    by_choice none = none
    by_choice (some w) = some w.letter

    by_site : Option ℕ → Option ℕ
    by_site none = none
    by_site (some j) =
        by_choice
        (candidate_for g.basis g.symprec (get_or g.multiplicities j 0) (get_or g.positions j origin)
        g.choices)

-- Refusal 13: "An orbit without a fit."
unfoldable pub orbit_without_fit : Sites → Bool
unfolding any orbits orbit_fits
orbit_without_fit g = any (λ l. not (orbit_fits g l)) (orbits g.labels)

abbrev pub Unfit : Lettering → Type 0
Unfit g = (w : Found g) × T (orbit_without_fit (sites_of w))

abbrev pub letter_or : Option ℕ → ℕ
letter_or none = 0
letter_or (some b) = b

-- each listed site's letter is its orbit's
unfoldable pub letters : Sites → List ℕ
unfolding letter_of
letters g = map (λ l. letter_or (letter_of g l)) g.labels
