-- "Centrings: the seven matrices of `Centering::linear`."
use Rattle.std.specs.Prelude.{[], ◌∷◌, pos, negsuc}
use Rattle.definitions.specs.declared.Centering.{Centering}
use Rattle.definitions.specs.declared.Centering.TheVariants.{P, A, B, C, I, R, F}
use Rattle.definitions.specs.Matrix.{Matrix, identity}

-- from the primitive to the conventional cell
unfoldable pub linear : Centering → Matrix
linear P = identity
linear A = (pos 1 ∷ pos 0 ∷ pos 0 ∷ []) ∷ (pos 0 ∷ pos 1 ∷ pos 1 ∷ []) ∷ (pos 0 ∷ negsuc 0 ∷ pos 1 ∷ []) ∷ []
linear B = (pos 1 ∷ pos 0 ∷ negsuc 0 ∷ []) ∷ (pos 0 ∷ pos 1 ∷ pos 0 ∷ []) ∷ (pos 1 ∷ pos 0 ∷ pos 1 ∷ []) ∷ []
linear C = (pos 1 ∷ negsuc 0 ∷ pos 0 ∷ []) ∷ (pos 1 ∷ pos 1 ∷ pos 0 ∷ []) ∷ (pos 0 ∷ pos 0 ∷ pos 1 ∷ []) ∷ []
linear I = (pos 0 ∷ pos 1 ∷ pos 1 ∷ []) ∷ (pos 1 ∷ pos 0 ∷ pos 1 ∷ []) ∷ (pos 1 ∷ pos 1 ∷ pos 0 ∷ []) ∷ []
linear R = (pos 1 ∷ pos 0 ∷ pos 1 ∷ []) ∷ (negsuc 0 ∷ pos 1 ∷ pos 1 ∷ []) ∷ (pos 0 ∷ negsuc 0 ∷ pos 1 ∷ []) ∷ []
linear F = (negsuc 0 ∷ pos 1 ∷ pos 1 ∷ []) ∷ (pos 1 ∷ negsuc 0 ∷ pos 1 ∷ []) ∷ (pos 1 ∷ pos 1 ∷ negsuc 0 ∷ []) ∷ []
