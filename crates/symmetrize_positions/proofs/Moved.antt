-- The transformed positions, held as cells.
use mathlib.Core.Path.{◌≡◌, refl, ap, ◌∙◌}
use mathlib.Core.List.{List, [], ◌∷◌, ◌++◌, map}
use lib.ListN.{length, take, length-map}
use lib.Seq.{take_at}
use lib.Ieee.{Float}
use Rattle.definitions.specs.declared.Position.{Position}
use Rattle.definitions.specs.Matrix.{Matrix, inverse}
use Rattle.definitions.specs.Real.{RealMatrix, real, apply_f, sub_p}
use Rattle.definitions.specs.Calls.{transformed_cells}
use Rattle.definitions.specs.Lent.{position_from}
use Rattle.symmetrize_positions.specs.Targets.{moved, moved_cells}

back : (m : RealMatrix) (shift : Position) (ps : List (List Float)) → map position_from (moved m shift ps) ≡ map (λ v. apply_f m (sub_p (position_from v) shift)) ps
back m shift [] = refl
back m shift (v ∷ ps) = ap (λ l. apply_f m (sub_p (position_from v) shift) ∷ l) (back m shift ps)

module _ (t : Matrix) (shift : Position) (ps : List (List Float)) (m : RealMatrix) (held d : List (List Float)) (h : held ≡ moved m shift ps ++ d) where
  front : take (length ps) held ≡ moved m shift ps
  front = rw h (take_at (moved m shift ps) d (length ps) (length-map ps (moved_cells m shift)))

  pub front_is : m ≡ real (inverse t) → map position_from (take (length ps) held) ≡ transformed_cells t shift ps
  front_is e = ap (map position_from) front ∙ back m shift ps ∙ rw e
