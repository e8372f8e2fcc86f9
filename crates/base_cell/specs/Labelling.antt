-- The label call: arguments past 5. Its labels, whatever the order of the permutations, stand in proofs/.
use Rattle.std.specs.Prelude.{ℕ, ◌≡◌, false, List, T}
use Rattle.definitions.specs.Lists.{all, up_to}
use Rattle.definitions.specs.Permutation.{is_permutation, permutation_at}
use Rattle.definitions.specs.Lent.{permutations_of, bad_images}
use Rattle.definitions.specs.SiteCalls.{LabelArguments, permutations_in, label_conditions, LabelCells, label_rooms, LabelAnswered}
use Rattle.definitions.specs.Demand.{LabellingCall}
use Rattle.laws.specs.Lists.{all_map}
use Rattle.laws.specs.Tests.{passed, not_so}

-- ---- arguments past 5

-- images that pass are permutations
pub images_permute : (n k : ℕ) (images : List ℕ) → bad_images n k images ≡ false → T (all (is_permutation n) (permutations_of n k images))
images_permute n k images e =
    all_map (is_permutation n) (permutation_at n images) (up_to k)
    (passed (all (λ o. is_permutation n (permutation_at n images o)) (up_to k)) (not_so e))

-- ---- the call

abbrev pub label_call : LabellingCall
label_call =
    record {
      Arguments = LabelArguments × LabelCells;
      Result = LabelCells;
      conditions = λ x. label_conditions x.0 (label_rooms x.1);
      permutations = λ x. permutations_in x.0;
      mapping = λ x. x.0.mapping;
      Promises = λ x o. (exit : LabelCells) × LabelAnswered x.0 x.1 exit o;
      labels_of = λ a. a.labels;
      multiplicities_of = λ a. a.multiplicities;
    }
