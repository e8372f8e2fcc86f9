-- `transform_by`: a row of 16 bits times a matrix of 8 fits 32.
use mathlib.Core.Path.{◌≡◌, sym, subst}
use borrow.Author.Rules.{rules}
use mir.Syntax.{w8, w16}
use mir.Val.{SFits}
use Prim.Native.Nat.{ℕ}
use Rattle.definitions.specs.Matrix.{Matrix, at, mul_m}
use Rattle.math_matrix.specs.Bounds.{abs_fits}
use Rattle.math_matrix.specs.Entries.{same_entries}
use Rattle.math_matrix.proofs.Shape.{good_entry}
use Rattle.math_matrix.proofs.Sizes.{Bound, product_small}
use Rattle.math_matrix.proofs.transform_by.Goals as goal

module _ {i r a b p : Matrix} (d : a ≡ i) (e : b ≡ r) (f : p ≡ mul_m a b) where
  small : ((j k : ℕ) → SFits w16 (at i j k)) → ((j k : ℕ) → SFits w8 (at r j k)) → Bound 2147483647 p
  small g h =
      subst (Bound 2147483647) (sym f)
      (product_small a b
      (subst (Bound 32768) (sym d) (λ j k. abs_fits w16 _ (g j k)))
      (subst (Bound 128) (sym e) (λ j k. abs_fits w8 _ (h j k))))

pub narrow_row-r0-requires : goal.narrow_row-r0-requires
narrow_row-r0-requires c =
    let i = same_entries c.args.i c.wider.result c.wider.ensures in
    small i c.widened.ensures c.times.ensures (good_entry w16 c.args.i c.well_formed.0) (good_entry w8 c.args.r c.well_formed.1.1.0) 0

pub narrow_row-r1-requires : goal.narrow_row-r1-requires
narrow_row-r1-requires c =
    let i = same_entries c.args.i c.wider.result c.wider.ensures in
    small i c.widened.ensures c.times.ensures (good_entry w16 c.args.i c.well_formed.0) (good_entry w8 c.args.r c.well_formed.1.1.0) 1

pub narrow_row-r2-requires : goal.narrow_row-r2-requires
narrow_row-r2-requires c =
    let i = same_entries c.args.i c.wider.result c.wider.ensures in
    small i c.widened.ensures c.times.ensures (good_entry w16 c.args.i c.well_formed.0) (good_entry w8 c.args.r c.well_formed.1.1.0) 2

pub returns : goal.returns
returns c = let i = same_entries c.args.i c.wider.result c.wider.ensures in search rules
