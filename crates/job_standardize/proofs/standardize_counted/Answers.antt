-- The fronts that are lent are as long as the job has commands.
use Prim.Native.Nat.{ℕ}
use mathlib.Core.Path.{sym}
use lib.Seq.{length-take-le}
use lib.IntN.{pos}
use Rattle.definitions.specs.Limits.{most_sites, most_operations, most_candidates}
use Rattle.definitions.specs.Lent.{zero_cells, zero_matrix}
use Rattle.definitions.specs.WholeCalls.{zero_text}
use Rattle.job_standardize.specs.Rooms.{front_length}
use Rattle.job_standardize.proofs.standardize_counted.Goals as goal

pub standardize_read-requires : goal.standardize_read-requires
standardize_read-requires c =
    let few = c.requires.1 in
    record {
      job = c.requires.0;
      elements = length-take-le _ _ (front_length _ most_sites (pos 0) few.sites);
      positions = length-take-le _ _ (front_length _ most_sites zero_cells few.sites);
      rotations = length-take-le _ _ (front_length _ most_operations zero_matrix few.operations);
      translations = length-take-le _ _ (front_length _ most_operations zero_cells few.operations);
      images = c.requires.2;
      rotations_of_targets = length-take-le _ _ (front_length _ most_operations zero_matrix few.targets);
      translations_of_targets = length-take-le _ _ (front_length _ most_operations zero_cells few.targets);
      conventional = length-take-le _ _ (front_length _ most_operations zero_matrix few.rotations);
      multiplicities = length-take-le _ _ (front_length {A = ℕ} _ most_candidates 0 few.candidates);
      letters = length-take-le _ _ (front_length {A = ℕ} _ most_candidates 0 few.candidates);
      texts = length-take-le _ _ (front_length _ most_candidates zero_text few.candidates);
    }
