-- The code makes the definition's steps with the three roots that `sqrt` gives; the branch is the definition's own.
use mathlib.Core.Path.{◌≡◌, refl}
use mathlib.Core.Bool.{Bool, true, false, ◌&&◌, cond}
use mathlib.Core.Option.{none, some}
use lib.Ieee.{Float, binary64, sub, mul, div}
use Rattle.definitions.specs.Real.{RealMatrix, at_f, above0, lower, sqrt, cholesky}
use Rattle.std.specs.Prelude.{Some, None}
use Rattle.math_factor.specs.Factor.{handed_back}
use Rattle.math_factor.proofs.cholesky.Goals as goal

-- the definition's steps, with the roots l00 and l11 as arguments
module _ (g : RealMatrix) where
  abbrev l10 : Float → Float
  l10 l00 = div binary64 (at_f g 1 0) l00

  abbrev p1 : Float → Float
  p1 l00 = sub binary64 (at_f g 1 1) (mul binary64 (l10 l00) (l10 l00))

  abbrev l20 : Float → Float
  l20 l00 = div binary64 (at_f g 2 0) l00

  abbrev l21 : Float → Float → Float
  l21 l00 l11 = div binary64 (sub binary64 (at_f g 2 1) (mul binary64 (l20 l00) (l10 l00))) l11

  abbrev p2 : Float → Float → Float
  p2 l00 l11 =
      sub binary64 (sub binary64 (at_f g 2 2) (mul binary64 (l20 l00) (l20 l00))) (mul binary64 (l21 l00 l11) (l21 l00 l11))

  abbrev tests : Float → Float → Bool
  tests l00 l11 = above0 (at_f g 0 0) && above0 (p1 l00) && above0 (p2 l00 l11)

  abbrev rows : Float → Float → Float → RealMatrix
  rows l00 l11 l22 = lower l00 (l10 l00) l11 (l20 l00) (l21 l00 l11) l22

-- what three roots say of the factor
module _ (g : RealMatrix) (l00 l11 l22 : Float) (e0 : l00 ≡ sqrt (at_f g 0 0)) (e1 : l11 ≡ sqrt (p1 g l00)) (e2 : l22 ≡ sqrt (p2 g l00 l11)) where
  by_roots : cholesky g ≡ cond (tests g l00 l11) (some (rows g l00 l11 l22)) none
  unfolding cholesky
  by_roots = rw (e2, e1, e0)

  there : tests g l00 l11 ≡ true → Some (rows g l00 l11 l22) ≡ handed_back (cholesky g)
  there t = rw (by_roots, t) refl

  missing : tests g l00 l11 ≡ false → None ≡ handed_back (cholesky g)
  missing t = rw (by_roots, t) refl

pub returns-then-above0-above1 : goal.returns-then-above0-above1
returns-then-above0-above1 c =
    there c.args.g c.sqrt-l00.result c.sqrt-l11.result c.sqrt-l22.result c.sqrt-l00.ensures.value c.sqrt-l11.ensures.value
    c.sqrt-l22.ensures.value c.if-above0-above1.true

pub returns : goal.returns
returns c =
    missing c.args.g c.sqrt-l00.result c.sqrt-l11.result c.sqrt-l22.result c.sqrt-l00.ensures.value c.sqrt-l11.ensures.value
    c.sqrt-l22.ensures.value c.if-above0-above1.false
