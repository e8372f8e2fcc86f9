-- What the label call writes: labels by the classes of the primitive sites, and how many sites have each. The step of
-- it that labels.
use Rattle.std.specs.Prelude.{ℕ, ◌*◌, ◌≤◌, ◌<◌, ◌≡◌, Bool, true, false, not, ◌&&◌, List, ◌++◌, eqb, get_or, length, drop}
use Rattle.std.proofs.Common.{subst}
use Rattle.definitions.specs.Lent.{bad_permutation_counts}
use Rattle.definitions.specs.Limits.{most_sites, most_listed, too_many_listed, shorter_than}
use Rattle.definitions.specs.Lists.{any, count}
use Rattle.definitions.specs.Orbit.{Labels, multiplicities}
use Rattle.definitions.specs.SiteCalls.{LabelArguments, bad_mapping, LabelCells, label_rooms}
use Rattle.definitions.specs.SiteCalls.{IsLabelled, HoldsLabels, nothing_labelled}

-- every entry is below n
abbrev pub Below : ℕ → List ℕ → Type 0
Below n l = (k : ℕ) → k < length l → get_or l k 0 < n

-- a table of n cells has for each number how often the list has it
abbrev pub Counted : ℕ → List ℕ → List ℕ → Type 0
Counted n l table = (x : ℕ) → x < n → get_or table x 0 ≡ count (eqb x) l

-- an image of each site under each of so many permutations, and a mapping to these sites
pub record Groupable (x : LabelArguments) : Type 0 where
  pub sites : x.sites ≤ most_sites
  pub entries : length x.images ≡ x.count * x.sites
  pub within : Below x.sites x.mapping
  pub listed : length x.mapping ≤ most_listed

-- lists of l and m entries have room for the label of each listed site and for its multiplicity
pub record Room (listed l m : ℕ) : Type 0 where
  pub labels : listed ≤ l
  pub multiplicities : listed ≤ m

-- the labels and the multiplicities at the front of two lists, which were l₀ and m₀
pub record Grouped (ps : List (List ℕ)) (mapping l₀ m₀ l₁ m₁ : List ℕ) : Type 0 where
  pub answer : List ℕ
  pub right : Labels ps mapping answer
  pub labels : l₁ ≡ answer ++ drop (length mapping) l₀
  pub multiplicities : m₁ ≡ multiplicities answer ++ drop (length mapping) m₀

-- ---- the step that labels, whatever the images are

-- the label call's tests but for that of the images: they need not be permutations
abbrev pub groupable : LabelArguments → List ℕ → Bool
groupable x rooms =
    not (bad_permutation_counts x.sites x.count x.images)
    && not (bad_mapping x.sites x.mapping)
    && not (too_many_listed (length x.mapping))
    && not (any (shorter_than (length x.mapping)) rooms)

-- what is left in the lent lists: an answer, or zero
abbrev pub LabelsLeft : LabelArguments → LabelCells → LabelCells → Bool → Type 0
LabelsLeft x entry exit true = (a : LabelCells) × IsLabelled x a × HoldsLabels entry exit a
LabelsLeft x entry exit false = HoldsLabels entry exit nothing_labelled

-- The step: labels and multiplicities where the sites are groupable, and zero where they are not.
abbrev pub OrbitsLabelled : LabelArguments → LabelCells → LabelCells → Type 0
OrbitsLabelled x entry exit = LabelsLeft x entry exit (groupable x (label_rooms entry))

module _ (x : LabelArguments) (entry exit : LabelCells) where
  -- past the label call's other refusals it leaves an answer
  pub labelled_past :
      bad_permutation_counts x.sites x.count x.images ≡ false → bad_mapping x.sites x.mapping ≡ false →
      too_many_listed (length x.mapping) ≡ false → any (shorter_than (length x.mapping)) (label_rooms entry) ≡ false →
      OrbitsLabelled x entry exit → (a : LabelCells) × IsLabelled x a × HoldsLabels entry exit a
  labelled_past counts mapped few room h =
      let yes : groupable x (label_rooms entry) ≡ true = rw (counts, mapped, few, room) in
      subst (LabelsLeft x entry exit) yes h
