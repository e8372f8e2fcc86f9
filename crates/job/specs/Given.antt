-- The lent values of the call that reads a job, and whether they have room.
use Rattle.std.specs.Prelude.{ℕ, ◌+◌, ◌≤◌, ◌≡◌, Bool, true, false, not, ◌||◌, ◌&&◌, List, [], ◌∷◌, ◌⊎◌, length, ltb, eqb}
use Rattle.std.specs.Prelude.{Result, Ok, Err}
use Rattle.definitions.specs.declared.JobCounts.{JobCounts}
use Rattle.definitions.specs.declared.Refusal.{Refusal}
use Rattle.definitions.specs.declared.Refusal.TheVariants.{JobBytes, Buffer}
use Rattle.definitions.specs.Lists.{any}
use Rattle.definitions.specs.Limits.{shorter_than, most_bytes}
use Rattle.definitions.specs.Job.{NoJob, position_of}
use Rattle.definitions.specs.Lent.{position_from}
use Rattle.definitions.specs.WholeCalls.{Given, given_of, HoldsGiven, nothing_given}
use Rattle.job.specs.Places.{items, word_at, integer_at, floats_at, text_at, lattice_at, cells_from, matrix_from}
use Rattle.job.specs.Places.{parts_at}
use Rattle.job.specs.Places.{operations_from, images_from, targets_from, rotations_from, candidates_from, symprec_from}
use Rattle.job.specs.Words.{float_at}
use Rattle.job.specs.Counted.{JobOf}
use Rattle.job.specs.declared.JobLists.{JobLists}
use Rattle.job.specs.declared.room.Rooms.{Rooms}

-- the parts of a job, and the lent values
abbrev pub given_in : JobLists → Given
given_in l =
    record {
      lattice = l.lattice;
      t = l.t;
      shift = position_from l.shift;
      c = l.c;
      elements = l.elements.now;
      positions = l.positions.now;
      rotations = l.rotations.now;
      translations = l.translations.now;
      images = l.images.now;
      rotations_of_targets = l.rotations_of_targets.now;
      translations_of_targets = l.translations_of_targets.now;
      conventional = l.conventional.now;
      multiplicities = l.multiplicities.now;
      letters = l.letters.now;
      texts = l.texts.now;
      symprec = l.symprec;
    }

-- .. and the lent ones are the same ones, whatever they hold
pub record SameJob (before after : JobLists) : Type 0 where
  pub elements : after.elements.ghost_name ≡ before.elements.ghost_name
  pub positions : after.positions.ghost_name ≡ before.positions.ghost_name
  pub rotations : after.rotations.ghost_name ≡ before.rotations.ghost_name
  pub translations : after.translations.ghost_name ≡ before.translations.ghost_name
  pub images : after.images.ghost_name ≡ before.images.ghost_name
  pub rotations_of_targets : after.rotations_of_targets.ghost_name ≡ before.rotations_of_targets.ghost_name
  pub translations_of_targets : after.translations_of_targets.ghost_name ≡ before.translations_of_targets.ghost_name
  pub conventional : after.conventional.ghost_name ≡ before.conventional.ghost_name
  pub multiplicities : after.multiplicities.ghost_name ≡ before.multiplicities.ghost_name
  pub letters : after.letters.ghost_name ≡ before.letters.ghost_name
  pub texts : after.texts.ghost_name ≡ before.texts.ghost_name

-- what the values are after a job of so many of each command was read
abbrev pub given_at : List ℕ → JobCounts → Given
given_at bs k =
    record {
      lattice = lattice_at bs;
      t = matrix_from bs 74;
      shift = position_of (floats_at 3 bs 83);
      c = matrix_from bs 108;
      elements = items (integer_at 4 bs) 29 118 k.sites;
      positions = items (cells_from bs) 29 122 k.sites;
      rotations = items (matrix_from bs) 34 (operations_from k + 1) k.operations;
      translations = items (cells_from bs) 34 (operations_from k + 10) k.operations;
      images = items (word_at 1 bs) 2 (images_from k + 1) k.images;
      rotations_of_targets = items (matrix_from bs) 34 (targets_from k + 1) k.targets;
      translations_of_targets = items (cells_from bs) 34 (targets_from k + 10) k.targets;
      conventional = items (matrix_from bs) 10 (rotations_from k + 1) k.rotations;
      multiplicities = items (word_at 2 bs) 68 (candidates_from k + 1) k.candidates;
      letters = items (word_at 1 bs) 68 (candidates_from k + 3) k.candidates;
      texts = items (text_at bs) 68 (candidates_from k + 4) k.candidates;
      symprec = float_at bs (symprec_from k + 1);
    }

-- ---- room

abbrev pub rooms_of : Given → Rooms
rooms_of e =
    record {
      elements = length e.elements;
      positions = length e.positions;
      rotations = length e.rotations;
      translations = length e.translations;
      images = length e.images;
      rotations_of_targets = length e.rotations_of_targets;
      translations_of_targets = length e.translations_of_targets;
      conventional = length e.conventional;
      multiplicities = length e.multiplicities;
      letters = length e.letters;
      texts = length e.texts;
    }

-- one of the lists is too short for so many of each command
abbrev pub short : JobCounts → Rooms → Bool
short k e =
    any (shorter_than k.sites) (e.elements ∷ e.positions ∷ [])
    || any (shorter_than k.operations) (e.rotations ∷ e.translations ∷ [])
    || shorter_than k.images e.images
    || any (shorter_than k.targets) (e.rotations_of_targets ∷ e.translations_of_targets ∷ [])
    || shorter_than k.rotations e.conventional
    || any (shorter_than k.candidates) (e.multiplicities ∷ e.letters ∷ e.texts ∷ [])

-- none is
pub record Enough (k : JobCounts) (e : Rooms) : Type 0 where
  pub elements : k.sites ≤ e.elements
  pub positions : k.sites ≤ e.positions
  pub rotations : k.operations ≤ e.rotations
  pub translations : k.operations ≤ e.translations
  pub images : k.images ≤ e.images
  pub rotations_of_targets : k.targets ≤ e.rotations_of_targets
  pub translations_of_targets : k.targets ≤ e.translations_of_targets
  pub conventional : k.rotations ≤ e.conventional
  pub multiplicities : k.candidates ≤ e.multiplicities
  pub letters : k.candidates ≤ e.letters
  pub texts : k.candidates ≤ e.texts

-- what was found of the bytes and of the rooms: 1 first
abbrev pub Settled : List ℕ → Rooms → Result JobCounts Refusal → Type 0
Settled bs e (Ok k) = JobOf bs k × (short k e ≡ false)
Settled bs e (Err r) =
    ((r ≡ JobBytes) × NoJob bs) ⊎ ((r ≡ Buffer) × ((k : JobCounts) × JobOf bs k × (short k e ≡ true)))

-- ---- a job that is counted already

-- so many of each command take up n bytes, and a job may have n
abbrev pub takes_up : JobCounts → ℕ → Bool
takes_up k n = not (ltb most_bytes n) && eqb (symprec_from k + 10) n

-- a job has no more of any command than bytes
abbrev pub most_each : JobCounts
most_each =
    record {
      sites = most_bytes;
      operations = most_bytes;
      images = most_bytes;
      targets = most_bytes;
      rotations = most_bytes;
      candidates = most_bytes;
    }

abbrev pub readable : List ℕ → JobCounts → Rooms → Bool
readable bs k e = takes_up k (length bs) && not (short k e)

-- what the values are after so many of each command were read: nothing where they don't take up the bytes or the lists
-- have no room for them
abbrev pub counted_given : Bool → List ℕ → JobCounts → Given
counted_given true bs k = given_of (parts_at bs k)
counted_given false bs k = nothing_given

abbrev pub ReadCounted : List ℕ → JobCounts → Given → Given → Type 0
ReadCounted bs k entry exit = HoldsGiven entry exit (counted_given (readable bs k (rooms_of entry)) bs k)
