-- What the parts of the letter call promise: the tests of what is given, the walk over labelled sites, the labels with
-- their letters, and the verdict of all.
use Rattle.std.specs.Prelude.{ℕ, Bool, ◌≤◌, ◌≡◌, true, false, ◌||◌, List, map, Float, length}
use Rattle.std.specs.Prelude.{Err, Ok}
use Rattle.definitions.specs.declared.Refusal.TheVariants.{ListedSites, Buffer, OrbitFit}
use Rattle.definitions.specs.Lent.{cells_of, unlike, bad_permutation_counts, bad_images}
use Rattle.definitions.specs.Limits.{most_candidates, too_many_candidates, too_many_listed, shorter_than}
use Rattle.definitions.specs.Lists.{any}
use Rattle.definitions.specs.Orbit.{Labels, multiplicities}
use Rattle.definitions.specs.Real.{RealMatrix}
use Rattle.definitions.specs.Refusal.{Verdict, Checked}
use Rattle.definitions.specs.Wyckoff.{Space, letters}
use Rattle.definitions.specs.SiteCalls.{LabelArguments, permutations_in, bad_mapping, LetterArguments, letter_conditions}
use Rattle.definitions.specs.SiteCalls.{LetterCells, letter_rooms}
use Rattle.definitions.specs.SiteCalls.{HoldsLetters, IsLettered, SpaceCells, AssignArguments, sites_in, all_lettered}
use Rattle.definitions.specs.SiteCalls.{Assigned}
use Rattle.laws.specs.Verdicts.{Passed}

-- ---- what is given

-- 2, but for the permutations: a multiplicity, a letter and a text a candidate, a position a mapping entry
abbrev pub bad_lists : LetterArguments → Bool
bad_lists x =
    too_many_candidates (length x.texts)
    || unlike (length x.multiplicities) (length x.texts)
    || unlike (length x.letters) (length x.texts)
    || unlike (length x.labelling.mapping) (length x.positions)

-- past 2, 4 and 5, or refused with the first of them that applies, whatever room is lent
abbrev pub GivenJudged : LetterArguments → Verdict → Type 0
GivenJudged x (Ok u) = (rooms : List ℕ) → Passed (letter_conditions x rooms) 3
GivenJudged x (Err k) = (rooms : List ℕ) → Checked (letter_conditions x rooms) (Err k)

-- ---- labelled sites

-- 10, or 13 where an orbit has no letter, or the step is whole
pub data AssignJudged (x : AssignArguments) (entry exit : List ℕ) : Verdict → Type 0 where
  lacks_room : shorter_than (length x.labels) (length entry) ≡ true → AssignJudged x entry exit (Err Buffer)
  lacks_letter :
      shorter_than (length x.labels) (length entry) ≡ false → Assigned x entry exit false →
      AssignJudged x entry exit (Err OrbitFit)
  has_all :
      shorter_than (length x.labels) (length entry) ≡ false → Assigned x entry exit true →
      AssignJudged x entry exit (Ok tt)

-- ---- sites with their labels

-- what the step needs beside labels
pub record Placed : Type 0 where
  pub positions : List (List Float)
  pub basis : RealMatrix
  pub symprec : Float
  pub candidates : List ℕ
  pub letters : List ℕ
  pub spaces : SpaceCells

abbrev pub assign_with : Placed → List ℕ → List ℕ → AssignArguments
assign_with p ls ms =
    record {
      labels = ls;
      multiplicities = ms;
      positions = p.positions;
      basis = p.basis;
      symprec = p.symprec;
      candidates = p.candidates;
      letters = p.letters;
      spaces = p.spaces;
    }

abbrev pub assign_by : Placed → List ℕ → AssignArguments
assign_by p ls = assign_with p ls (multiplicities ls)

-- past 2 and 5, with lists that belong together
pub record Labellable (x : LabelArguments) (p : Placed) : Type 0 where
  pub counts : bad_permutation_counts x.sites x.count x.images ≡ false
  pub images : (bad_images x.sites x.count x.images || bad_mapping x.sites x.mapping) ≡ false
  pub positions : length p.positions ≡ length x.mapping
  pub few : length p.candidates ≤ most_candidates
  pub letters : length p.letters ≡ length p.candidates
  pub matrices : length p.spaces.matrices ≡ length p.candidates
  pub shifts : length p.spaces.shifts ≡ length p.candidates
  pub ds : length p.spaces.ds ≡ length p.candidates
  pub ls : length p.spaces.ls ≡ length p.candidates
  pub rs : length p.spaces.rs ≡ length p.candidates

abbrev pub labelled_cells : Placed → List ℕ → LetterCells
labelled_cells p ls =
    record { labels = ls; multiplicities = multiplicities ls; letters = letters (sites_in (assign_by p ls)) }

-- 9, 10, 13, or labels and letters in the lent lists
pub data LabelledJudged (x : LabelArguments) (p : Placed) (entry exit : LetterCells) : Verdict → Type 0 where
  over : too_many_listed (length x.mapping) ≡ true → LabelledJudged x p entry exit (Err ListedSites)
  short :
      too_many_listed (length x.mapping) ≡ false → any (shorter_than (length x.mapping)) (letter_rooms entry) ≡ true →
      LabelledJudged x p entry exit (Err Buffer)
  without :
      too_many_listed (length x.mapping) ≡ false → any (shorter_than (length x.mapping)) (letter_rooms entry)
      ≡ false →
      (ls : List ℕ) → Labels (permutations_in x) x.mapping ls → all_lettered (sites_in (assign_by p ls)) ≡ false →
      LabelledJudged x p entry exit (Err OrbitFit)
  with_all :
      too_many_listed (length x.mapping) ≡ false → any (shorter_than (length x.mapping)) (letter_rooms entry)
      ≡ false →
      (ls : List ℕ) → Labels (permutations_in x) x.mapping ls → all_lettered (sites_in (assign_by p ls)) ≡ true →
      HoldsLetters entry exit (labelled_cells p ls) → LabelledJudged x p entry exit (Ok tt)

-- ---- all

abbrev pub LetterJudged : LetterArguments → LetterCells → LetterCells → Verdict → Type 0
LetterJudged x entry exit (Ok u) =
    Checked (letter_conditions x (letter_rooms entry)) (Ok tt)
    × ((a : LetterCells) × IsLettered x a × HoldsLetters entry exit a)
LetterJudged x entry exit (Err k) = Checked (letter_conditions x (letter_rooms entry)) (Err k)

-- the five lists of spaces
abbrev pub cells_of_spaces : List Space → SpaceCells
cells_of_spaces ss =
    record {
      matrices = map (λ s. s.matrix) ss;
      shifts = map (λ s. cells_of s.shift) ss;
      ds = map (λ s. s.snf.d) ss;
      ls = map (λ s. s.snf.l) ss;
      rs = map (λ s. s.snf.r) ss;
    }

abbrev pub placed_by : LetterArguments → SpaceCells → Placed
placed_by x spaces =
    record {
      positions = x.positions;
      basis = x.basis;
      symprec = x.symprec;
      candidates = x.multiplicities;
      letters = x.letters;
      spaces = spaces;
    }
