-- A job's bytes, read. That they are read back, and that at most one job has them, stands in proofs/.
use Rattle.std.specs.Prelude.{ℕ, List, [], ◌∷◌, ℤ}
use Rattle.std.proofs.Math.Option.{Option, none, some}
use Rattle.definitions.specs.Job.{Parts, SitePart, OperationPart, CandidatePart}
use Rattle.definitions.specs.Limits.{text_bytes}
use Rattle.job_laws.specs.Reader.{Reader, number, integer, times, behind, closed, at_most, many, mapped, ◌then◌}

-- ---- the operands of each command

abbrev pub read_floats : ℕ → Reader (List ℕ)
read_floats k = times k (number 8)

abbrev pub read_entries : Reader (List ℤ)
read_entries = times 9 (integer 1)

abbrev pub read_site : Reader SitePart
read_site = mapped (λ x. record { element = x.0; position = x.1 }) (integer 4 then read_floats 3)

abbrev pub read_operation : Reader OperationPart
read_operation = mapped (λ x. record { rotation = x.0; translation = x.1 }) (read_entries then read_floats 3)

abbrev pub read_candidate : Reader CandidatePart
read_candidate = mapped (λ x. record { multiplicity = x.0.0; letter = x.0.1; text = x.1 }) (number 2 then number 1 then times text_bytes (number 1))

-- ---- the commands in their order

abbrev pub read_lattice : Reader (List ℕ)
read_lattice = behind 76 (read_floats 9)

abbrev pub read_transformation : Reader (List ℤ × List ℕ)
read_transformation = behind 84 (read_entries then read_floats 3)

-- the setting
abbrev pub read_centring : Reader (List ℤ)
read_centring = behind 67 read_entries

abbrev pub read_sites : Reader (List SitePart)
read_sites = many 83 read_site

abbrev pub Opening : Type 0
Opening = (List ℕ × (List ℤ × List ℕ)) × List ℤ

abbrev pub Body : Type 0
Body = (((((Opening × List SitePart) × List OperationPart) × List ℕ) × List OperationPart) × List (List ℤ)) × List CandidatePart

abbrev pub read_opening : Reader Opening
read_opening = read_lattice then read_transformation then read_centring

abbrev pub read_body : Reader Body
read_body = read_opening then read_sites then many 79 read_operation then many 80 (number 1) then many 71 read_operation then many 82 read_entries then many 87 read_candidate

abbrev pub to_parts : Body × ℕ → Parts
to_parts x =
    record {
      lattice = x.0.0.0.0.0.0.0.0.0;
      t = x.0.0.0.0.0.0.0.0.1.0;
      shift = x.0.0.0.0.0.0.0.0.1.1;
      c = x.0.0.0.0.0.0.0.1;
      sites = x.0.0.0.0.0.0.1;
      operations = x.0.0.0.0.0.1;
      images = x.0.0.0.0.1;
      targets = x.0.0.0.1;
      rotations = x.0.0.1;
      candidates = x.0.1;
      symprec = x.1;
    }

abbrev pub from_parts : Parts → Body × ℕ
from_parts p = (((((((((p.lattice, (p.t, p.shift)), p.c), p.sites), p.operations), p.images), p.targets), p.rotations), p.candidates), p.symprec)

unfoldable pub read_parts : Reader Parts
unfolding number times at_most closed
read_parts = closed (mapped to_parts (read_body then behind 78 (number 8))) 90

-- ---- the whole job, and nothing behind it

abbrev pub ending : Option (Parts × List ℕ) → Option Parts
ending none = none
ending (some x) = elim x.1 [ [] ↦ some x.0 | b ∷ k ↦ none ]

unfoldable pub decode : List ℕ → Option Parts
unfolding read_parts
decode bs = ending (read_parts bs)
