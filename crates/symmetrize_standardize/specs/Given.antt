-- What the whole call and its steps are given and lent, as the definitions speak of it.
use Rattle.std.specs.Prelude.{◌≡◌, ℕ, List, length, take}
use Rattle.std.proofs.Common.{Bor}
use Rattle.definitions.specs.Real.{RealMatrix}
use Rattle.symmetrize_align.specs.declared.GivenAlignment.{GivenAlignment}
use Rattle.symmetrize_lattice.specs.declared.GivenLattice.{GivenLattice}
use Rattle.definitions.specs.SiteCalls.{ListingCells, LabelArguments, SpaceCells}
use Rattle.definitions.specs.WholeCalls.{Given, AnswerCells}
use Rattle.symmetrize_wyckoff.specs.Lettering.{Placed}
use Rattle.symmetrize_standardize.specs.declared.Job.{Job}
use Rattle.symmetrize_standardize.specs.declared.Answer.{Answer}
use Rattle.symmetrize_standardize.specs.declared.Work.{Work}

abbrev pub given_by : Job → Given
given_by j =
    record {
      lattice = j.lattice;
      t = j.t;
      shift = j.shift;
      c = j.c;
      elements = j.elements.now;
      positions = j.positions.now;
      rotations = j.rotations.now;
      translations = j.translations.now;
      images = j.images.now;
      rotations_of_targets = j.rotations_of_targets.now;
      translations_of_targets = j.translations_of_targets.now;
      conventional = j.conventional.now;
      multiplicities = j.multiplicities.now;
      letters = j.letters.now;
      texts = j.texts.now;
      symprec = j.symprec;
    }

abbrev pub answer_cells : Answer → AnswerCells
answer_cells a =
    record {
      positions = a.positions.now;
      points = a.points.now;
      mapping = a.mapping.now;
      elements = a.elements.now;
      labels = a.labels.now;
      multiplicities = a.multiplicities.now;
      letters = a.letters.now;
      primitive = a.primitive.now;
      primitive_cell_basis = a.primitive_cell_basis.now;
      listed_cell_basis = a.listed_cell_basis.now;
      factors = a.factors.now;
    }

-- the same lists and cells, whatever stands in them
pub record SameAnswer (s t : Answer) : Type 0 where
  pub positions : t.positions.ghost_name ≡ s.positions.ghost_name
  pub points : t.points.ghost_name ≡ s.points.ghost_name
  pub mapping : t.mapping.ghost_name ≡ s.mapping.ghost_name
  pub elements : t.elements.ghost_name ≡ s.elements.ghost_name
  pub labels : t.labels.ghost_name ≡ s.labels.ghost_name
  pub multiplicities : t.multiplicities.ghost_name ≡ s.multiplicities.ghost_name
  pub letters : t.letters.ghost_name ≡ s.letters.ghost_name
  pub primitive : t.primitive.ghost_name ≡ s.primitive.ghost_name
  pub primitive_cell_basis : t.primitive_cell_basis.ghost_name ≡ s.primitive_cell_basis.ghost_name
  pub listed_cell_basis : t.listed_cell_basis.ghost_name ≡ s.listed_cell_basis.ghost_name
  pub factors : t.factors.ghost_name ≡ s.factors.ghost_name

-- ---- the letters

-- the listed sites' labelling, with the listing
abbrev pub labelling_of : Work → ListingCells → LabelArguments
labelling_of w l =
    record { sites = w.sites; count = w.count; images = w.aligned.now; mapping = take w.listed l.mapping }

abbrev pub placed_in : Work → SpaceCells → ListingCells → Placed
placed_in w s l =
    record {
      positions = take w.listed l.positions;
      basis = w.basis;
      symprec = w.symprec;
      candidates = w.multiplicities.now;
      letters = w.letters.now;
      spaces = s;
    }

-- ---- what the sub-calls are given of a job

abbrev pub alignment_of : Job → GivenAlignment
alignment_of j =
    record {
      t = j.t;
      operations = record { rotations = j.rotations; images = j.images; sites = length j.positions.now };
      targets = j.rotations_of_targets;
    }

abbrev pub lattice_of : Job → GivenLattice
lattice_of j = record { lattice = j.lattice; t = j.t; c = j.c; rotations = j.conventional }

abbrev pub work_of : Job → Bor (List ℕ) → ℕ → RealMatrix → Work
work_of j aligned listed basis =
    record {
      sites = length j.positions.now;
      count = length j.rotations_of_targets.now;
      aligned = aligned;
      listed = listed;
      basis = basis;
      symprec = j.symprec;
      multiplicities = j.multiplicities;
      letters = j.letters;
    }
