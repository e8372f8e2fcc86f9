-- `unimodular_inverse`: each row of the inverse, of numbers of 16 bits.
use Prim.Native.Nat.{ℕ}
use mathlib.Core.Path.{◌≡◌, sym, ap, subst, ◌∙◌}
use mir.Syntax.{w8}
use mir.Val.{SFits}
use Rattle.definitions.specs.Matrix.{Matrix, at, inverse}
use Rattle.math_matrix.proofs.Shape.{good_entry}
use Rattle.math_matrix.proofs.Sizes.{Bound}
use Rattle.math_matrix.proofs.MinorSizes.{inverse_small}
use Rattle.math_matrix.proofs.unimodular_inverse.Goals as goal

small : {t w i : Matrix} → w ≡ t → i ≡ inverse w → ((j k : ℕ) → SFits w8 (at t j k)) → Bound 32767 i
small {t} d e f = subst (Bound 32767) (sym (e ∙ ap inverse d)) (inverse_small t f)

pub short_row-r0-requires : goal.short_row-r0-requires
short_row-r0-requires c = small c.widened.ensures c.inverse.ensures (good_entry w8 c.args.t c.well_formed.0) 0

pub short_row-r1-requires : goal.short_row-r1-requires
short_row-r1-requires c = small c.widened.ensures c.inverse.ensures (good_entry w8 c.args.t c.well_formed.0) 1

pub short_row-r2-requires : goal.short_row-r2-requires
short_row-r2-requires c = small c.widened.ensures c.inverse.ensures (good_entry w8 c.args.t c.well_formed.0) 2
