-- Matrices whose entries are of any type.
use Rattle.std.specs.Prelude.{◌≡◌, List, [], get_or, pos}
use Rattle.std.specs.List.{AllZip, each_same}
use Rattle.std.specs.Float.{nan}
use Rattle.std.proofs.Common.{refl}
use Rattle.std.proofs.lemmas.List.Elements.{same_from_all_zip}
use Rattle.definitions.specs.Matrix.{Matrix, mat, transpose}
use Rattle.definitions.specs.Real.{RealMatrix, transpose_f}

-- entries that are widened are the same numbers
pub same_entries : {A : Type 0} (m r : List (List A)) → AllZip (AllZip (λ x y. y ≡ x)) m r → r ≡ m
same_entries m r h = same_from_all_zip (AllZip (λ x y. y ≡ x)) m r h each_same

-- the transpose; z is what a row has past its end
abbrev pub transposed_by : {A : Type 0} → A → List (List A) → List (List A)
transposed_by z m = mat (λ i j. get_or (get_or m j []) i z)

-- of whole numbers this is `transpose`, of floats `transpose_f`
pub transposed_whole : (m : Matrix) → transposed_by (pos 0) m ≡ transpose m
transposed_whole m = refl

pub transposed_real : (m : RealMatrix) → transposed_by nan m ≡ transpose_f m
transposed_real m = refl
