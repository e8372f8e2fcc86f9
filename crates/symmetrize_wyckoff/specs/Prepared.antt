-- Candidates prepared for the walk, as the code has them, each with its space as floats; what is found at a site by
-- them, and a table of the letters by label.
use Prim.Native.Nat.{ℕ, ◌≤◌, ◌<◌}
use Rattle.std.specs.Prelude.{◌≡◌, refl, true, ◌&&◌, drop, Float, is_some, Option as Found, Some, None}
use Rattle.std.specs.Option.{unwrap_or}
use Rattle.std.proofs.Math.Path.{sym, ap}
use Rattle.std.proofs.Common.{◌∙◌, arith}
use Rattle.std.proofs.Math.Bool.{Bool}
use mathlib.Core.List.{List, [], ◌++◌, map}
use Rattle.std.proofs.Math.Option.{Option, none, some}
use lib.ListN.{length, get_or, length-map}
use lib.Seq.{ext_get_or}
use Rattle.std.proofs.Math.Dec.{eqb}
use lib.Ieee.{nan}
use Rattle.definitions.specs.declared.Position.{Position}
use Rattle.definitions.specs.Limits.{most_candidates, most_listed}
use Rattle.definitions.specs.Lists.{all, first, up_to}
use Rattle.definitions.specs.Real.{RealMatrix, origin}
use Rattle.definitions.specs.Lent.{position_from}
use Rattle.definitions.specs.Wyckoff.{Choice, position_fits, candidate_for, letter_of}
use Rattle.definitions.specs.SiteCalls.{AssignArguments, choice_at, sites_in}
use Rattle.base_cell.specs.Grouping.{Below}
use Rattle.laws.specs.Lists.{map_at, from_up_to, length-up_from, up_to_at}
use Rattle.symmetrize_match.specs.Match.{space_of, real_space, CountedDiagonal, match_real}
use Rattle.symmetrize_match.specs.Match.{match_is}
use Rattle.symmetrize_wyckoff.specs.declared.find.Candidate.{Candidate}
use Rattle.symmetrize_wyckoff.specs.Firsts.{mapped, first_map, first_same}
use Rattle.symmetrize_wyckoff.specs.Walk.{fits_is, walked, walked_same, found_at, letter_walked}

-- ---- what a site finds

-- what a place behind a list of candidates is read as
abbrev no_point : Position
no_point = record { x = nan; y = nan; z = nan }

abbrev pub no_candidate : Candidate
no_candidate = record { multiplicity = 0; letter = 0; space = space_of [] no_point no_point [] [] }

-- "A candidate is tried only where its multiplicity equals the orbit's"
unfoldable pub fits_real : RealMatrix → Float → ℕ → Position → Candidate → Bool
fits_real basis symprec m p c = eqb c.multiplicity m && is_some (match_real basis symprec c.space p)

-- the letter of the first candidate, in list order, that a position fits
unfoldable pub found_real : RealMatrix → Float → ℕ → Position → List Candidate → Option ℕ
found_real basis symprec m p cs = mapped (λ (c : Candidate). c.letter) (first (fits_real basis symprec m p) cs)

-- one at each listed site
pub record RealSites : Type 0 where
  pub multiplicities : List ℕ
  pub positions : List (List Float)
  pub basis : RealMatrix
  pub symprec : Float
  pub candidates : List Candidate

abbrev pub found_by : RealSites → ℕ → Option ℕ
found_by g j =
    found_real g.basis g.symprec (get_or g.multiplicities j 0) (position_from (get_or g.positions j [])) g.candidates

pub record Walkable (ls ms : List ℕ) (ps : List (List Float)) : Type 0 where
  pub listed : length ls ≤ most_listed
  pub labels : Below (length ls) ls
  pub multiplicities : length ms ≡ length ls
  pub positions : length ps ≡ length ls

-- a candidate as the definition has it, with its space as floats
abbrev pub real_candidate : Choice → Candidate
real_candidate w = record { multiplicity = w.multiplicity; letter = w.letter; space = real_space w.space }

-- the first n candidates of x, which count their diagonals
abbrev pub PutCandidates : AssignArguments → ℕ → List Candidate → Type 0
PutCandidates x n out =
    (k : ℕ) → k < n →
    (get_or out k no_candidate ≡ real_candidate (choice_at x k)) × CountedDiagonal (choice_at x k).space.snf.d

-- ---- the table

-- as the code has it
abbrev pub found : Option ℕ → Found ℕ
found none = None
found (some b) = Some b

-- a table with the letter of each label, where it has one
abbrev pub NotesAll : (ℕ → Option ℕ) → List (Found ℕ) → Type 0
NotesAll letter table = (l : ℕ) → l < most_listed → get_or table l None ≡ found (letter l)

-- the letters that a table has for labels: whether all have one, and then the list
abbrev pub is_noted : List (Found ℕ) → ℕ → Bool
is_noted table l = is_some (get_or table l None)

abbrev pub noted_letter : List (Found ℕ) → ℕ → ℕ
noted_letter table l = unwrap_or (get_or table l None) 0

pub record Written (labels : List ℕ) (table : List (Found ℕ)) (entry exit : List ℕ) (whole : Bool) : Type 0 where
  pub judged : whole ≡ all (is_noted table) labels
  pub written : whole ≡ true → exit ≡ map (noted_letter table) labels ++ drop (length labels) entry

-- ---- what there is to letter

-- what `assignable` says where it holds
pub record Assignable (x : AssignArguments) : Type 0 where
  pub listed : length x.labels ≤ most_listed
  pub few : length x.candidates ≤ most_candidates
  pub multiplicities : length x.multiplicities ≡ length x.labels
  pub positions : length x.positions ≡ length x.labels
  pub letters : length x.letters ≡ length x.candidates
  pub matrices : length x.spaces.matrices ≡ length x.candidates
  pub shifts : length x.spaces.shifts ≡ length x.candidates
  pub ds : length x.spaces.ds ≡ length x.candidates
  pub ls : length x.spaces.ls ≡ length x.candidates
  pub rs : length x.spaces.rs ≡ length x.candidates
  pub below : Below (length x.labels) x.labels

-- ---- prepared candidates find what the definitions find

module _ (x : AssignArguments) (cs : List Candidate) (long : length cs ≡ length x.candidates)
    (put : PutCandidates x (length x.candidates) cs) where
  abbrev n : ℕ
  n = length x.candidates

  abbrev real_at : ℕ → Candidate
  real_at k = real_candidate (choice_at x k)

  candidates_are : cs ≡ map real_at (up_to n)
  candidates_are =
      ext_get_or no_candidate cs (map real_at (up_to n))
      (long ∙ sym (length-map (up_to n) real_at ∙ length-up_from 0 n))
      (λ k h.
      let b : k < n = omega (arith, long) in
      (put k b).0
      ∙ sym (map_at real_at (up_to n) k 0 no_candidate (omega (arith, length-up_from 0 n))
      ∙ ap real_at (up_to_at n k b)))

  fits_prepared :
      (m : ℕ) (p : Position) (k : ℕ) → k < n →
      fits_real x.basis x.symprec m p (real_at k) ≡ position_fits x.basis x.symprec m p (choice_at x k)
  unfolding fits_real position_fits
  fits_prepared m p k b =
      ap (λ t. eqb (get_or x.candidates k 0) m && t)
      (ap is_some (match_is (choice_at x k).space (put k b).1 x.basis x.symprec p)
      ∙ sym (fits_is x.basis x.symprec (choice_at x k).space p))

  letter_of_both :
      (o : Option ℕ) → mapped (λ (c : Candidate). c.letter) (mapped real_at o)
      ≡ mapped (λ (w : Choice). w.letter) (mapped (choice_at x) o)
  letter_of_both none = refl
  letter_of_both (some k) = refl

  found_prepared :
      (m : ℕ) (p : Position) →
      found_real x.basis x.symprec m p cs
      ≡ mapped (λ (w : Choice). w.letter) (candidate_for x.basis x.symprec m p (sites_in x).choices)
  unfolding found_real candidate_for
  found_prepared m p =
      let t : Candidate → Bool = fits_real x.basis x.symprec m p in
      let s : Choice → Bool = position_fits x.basis x.symprec m p in
      let first_one : Option ℕ = first (λ k. s (choice_at x k)) (up_to n) in
      ap (λ l. mapped (λ (c : Candidate). c.letter) (first t l)) candidates_are
      ∙ ap (mapped (λ (c : Candidate). c.letter)) (first_map t real_at (up_to n))
      ∙ ap (λ o. mapped (λ (c : Candidate). c.letter) (mapped real_at o))
      (first_same (λ k. t (real_at k)) (λ k. s (choice_at x k)) (up_to n)
      (λ k b. fits_prepared m p k (from_up_to n k b)))
      ∙ letter_of_both first_one
      ∙ ap (mapped (λ (w : Choice). w.letter)) (sym (first_map s (choice_at x) (up_to n)))

  abbrev real_sites : RealSites
  real_sites =
      record {
        multiplicities = x.multiplicities;
        positions = x.positions;
        basis = x.basis;
        symprec = x.symprec;
        candidates = cs;
      }

  found_at_lem : (j : ℕ) → j < length x.positions → found_by real_sites j ≡ found_at (sites_in x) j
  unfolding found_at
  found_at_lem j b =
      found_prepared (get_or x.multiplicities j 0) (position_from (get_or x.positions j []))
      ∙ ap (λ p. mapped (λ (w : Choice). w.letter)
      (candidate_for x.basis x.symprec (get_or x.multiplicities j 0) p (sites_in x).choices))
      (sym (map_at position_from x.positions j [] origin b))

  -- a walk over all sites by the prepared candidates gives the letters of the orbits
  pub walked-prepared :
      length x.positions ≡ length x.labels → (l : ℕ) →
      walked (found_by real_sites) x.labels (length x.labels) l ≡ letter_of (sites_in x) l
  walked-prepared e l =
      walked_same (found_by real_sites) (found_at (sites_in x)) x.labels (length x.labels) l
      (λ i b. found_at_lem i (omega arith))
      ∙ letter_walked (sites_in x) l
