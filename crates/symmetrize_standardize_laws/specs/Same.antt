-- The work on a job has one result: any two of it give the same answer.
use Rattle.std.specs.Prelude.{◌≡◌, map, length}
use Rattle.definitions.specs.Limits.{copies}
use Rattle.definitions.specs.Snf.{Run, points, diagonal}
use Rattle.definitions.specs.Job.{Job}
use Rattle.definitions.specs.Transformation.{aligned}
use Rattle.definitions.specs.Symmetrization.{primitive_positions, primitive_cell_basis, listed_cell_basis}
use Rattle.definitions.specs.Cell.{site_mapping, listed_positions, listed_points, listed_elements}
use Rattle.definitions.specs.Orbit.{multiplicities, orbits}
use Rattle.definitions.specs.Wyckoff.{sites_of, letters}
use Rattle.definitions.specs.Standardize.{site_count, listed_count, lettering_of, Work, answer_of}
use Rattle.math_snf_laws.specs.Unique.{run_unique}
use Rattle.symmetrize_wyckoff_laws.specs.Unique.{equal_sites}

module _ (j : Job) where
  -- any run gives the job's design
  pub same-design : (r r' : Run j.c) → lettering_of j r ≡ lettering_of j r'
  same-design r r' = λ i.
      record {
        permutations = aligned j;
        mapping = site_mapping (site_count j) (copies j.c);
        positions = listed_positions j.c (primitive_positions j) (points (run_unique r r' i));
        basis = listed_cell_basis j;
        candidates = j.candidates;
        symprec = j.symprec;
      }

  pub answer_unique : (w w' : Work j) → answer_of w ≡ answer_of w'
  answer_unique w w' = λ i.
      record {
        positions = (same i).positions;
        points = listed_points (site_count j) (points (run_unique w.run w'.run i));
        mapping = site_mapping (site_count j) (copies j.c);
        elements = listed_elements (map (λ s. s.element) j.sites) (copies j.c);
        labels = (same i).labels;
        multiplicities = multiplicities (same i).labels;
        letters = letters (same i);
        primitive = primitive_positions j;
        primitive_cell_basis = primitive_cell_basis j;
        listed_cell_basis = listed_cell_basis j;
        factors = diagonal (run_unique w.run w'.run i).d;
        sites = listed_count j;
        orbits = length (orbits (same i).labels);
      }
    where
      same : sites_of w.found ≡ sites_of w'.found
      same = equal_sites (same-design w.run w'.run) w.found w'.found
