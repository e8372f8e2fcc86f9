-- `inverse`: the minors times the determinant, where that is 1 or -1.
use Prim.Native.Nat.{ℕ}
use mathlib.Core.Path.{◌∙◌}
use mathlib.Core.List.{List, [], ◌∷◌}
use lib.ListN.{get_or}
use lib.IntN.{ℤ, pos, ◌*ℤ◌}
use mir.Syntax.{w64}
use Rattle.math_matrix.proofs.Sums.{told}
use Rattle.math_matrix.specs.Rows.{cross_of}
use Rattle.definitions.specs.Matrix.{Matrix, unit, item, three}
use Rattle.math_matrix.proofs.inverse.Goals as goal

-- the minors of the columns i and j, times the determinant
abbrev row : ℤ → Matrix → ℕ → ℕ → List ℤ
row k columns i j = three (λ n. unit k *ℤ item (cross_of (get_or columns i []) (get_or columns j [])) n)

pub returns : goal.returns
returns c =
    let k = told w64 c.determinant-k.type_inv c.determinant-k.ensures in
    let m = c.transposed.ensures (pos 0) in
    (λ i. c.signed_cross.ensures i ∷ c.signed_cross-2.ensures i ∷ c.signed_cross-3.ensures i ∷ [])
    ∙ (λ i. row (k i) (m i) 1 2 ∷ row (k i) (m i) 2 0 ∷ row (k i) (m i) 0 1 ∷ [])
