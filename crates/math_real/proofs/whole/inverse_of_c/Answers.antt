-- `inverse_of_c`: the determinant of numbers of 8 bits is exact as a float.
use Prim.Native.Nat.{◌≤◌, ◌^◌}
use mathlib.Core.Path.{◌≡◌, sym, ap, subst, ◌∙◌}
use native.Mathlib.Omega.{arith}
use native.Mathlib.Nat.{le_trans}
use lib.Dec.{T, le→leb, lt→ltb, lit≤}
use lib.IntN.{ℤ, pos, negsuc, nat_abs}
use lib.Ieee.{binary64, in_float}
use mir.Syntax.{w8, w64}
use Rattle.definitions.specs.Matrix.{det, adjugate}
use Rattle.definitions.specs.Real.{real, real_of}
use Rattle.math_matrix.specs.Bounds.{abs_fits}
use Rattle.math_matrix.proofs.Shape.{good_entry}
use Rattle.math_matrix.proofs.Sizes.{det-abs}
use Rattle.math_matrix.proofs.Sums.{read, told}
use Rattle.math_real.specs.Rows.{divide_m, real_is}
use Rattle.math_real.proofs.whole.inverse_of_c.Goals as goal
use Rattle.math_real.proofs.whole.inverse_of_c.Goals.{After-determinant-d}

exact : (z : ℤ) → nat_abs z ≤ 9007199254740992 → T (in_float binary64 z)
unfolding in_float
exact (pos n) h = le→leb n (2 ^ 53) (omega arith)
exact (negsuc n) h = lt→ltb n (2 ^ 53) (omega arith)

number : (c : After-determinant-d) → read w64 c.determinant-d.result ≡ det c.args.c
number c = told w64 c.determinant-d.type_inv (c.determinant-d.ensures ∙ ap det c.widened-m.ensures)

pub int_to_float-d : goal.int_to_float-d
int_to_float-d c =
    let small = det-abs 128 c.args.c (λ i j. abs_fits w8 _ (good_entry w8 c.args.c c.well_formed.0 i j)) in
    subst (λ (z : ℤ). T (in_float binary64 z)) (sym (number c.before)) (exact (det c.args.c) (le_trans small (lit≤ tt)))

pub returns : goal.returns
returns c =
    let cofactors = real_is c.real-a.ensures ∙ ap real (c.adjugate.ensures ∙ ap adjugate c.widened-m.ensures) in
    c.divide.ensures ∙ (λ i. divide_m (cofactors i) (real_of (number c.before.before.before.before i)))
