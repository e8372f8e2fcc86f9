use mathlib.Core.Path.{◌≡◌}
use mathlib.Core.List.{◌++◌, map}
use lib.ListN.{length, take, drop}
use Rattle.definitions.specs.Matrix.{Matrix, mul_m}
use Rattle.symmetrize_align.proofs.rotations.put_transformed.Given as goal

-- a rotation between two matrices
abbrev pub between : Matrix → Matrix → Matrix → Matrix
between l m r = mul_m (mul_m l r) m

abbrev pub invariant-loop-i : goal.invariant-loop-i
invariant-loop-i l =
    (length l.moved ≡ length l.initial.moved)
    × (l.moved ≡ take l.i (map (between l.inverse l.by) l.rotations) ++ drop l.i l.initial.moved)
