-- `base_permutation::put_inverse` meets its contract: the cell of the image of each j below i holds j, and the cells
-- past the answer are as they were.
use Rattle.std.proofs.Common.{◌<◌, ◌≡◌, refl, ◌∙◌, arith, not-suc-le-zero, length}
use Rattle.std.proofs.Math.Seq.{drop-set-lt}
use Rattle.base_permutation.specs.Bijection.{bijection}
use Rattle.base_permutation.proofs.Placing.{place, placed}
use Rattle.base_permutation.proofs.put_inverse.Goals as goal
use Rattle.base_permutation.proofs.put_inverse.Goals.{After-from-x}

pub loop-i-init : goal.loop-i-init
loop-i-init c = (refl, λ j k. absurd (not-suc-le-zero k))

-- an image is below the length
image_below : (c : After-from-x) → c.from-x.result < length c.args.p.now
image_below c =
    let p = c.args.p.now in
    omega (arith, (bijection (length p) p c.requires.1).below c.loop-i.i (omega arith))

pub bounds-out-x : goal.bounds-out-x
bounds-out-x c = omega (arith, image_below c)

pub loop-i-preserved : goal.loop-i-preserved
loop-i-preserved c =
    let l = c.loop-i in
    let p = c.args.p.now in
    let x = c.from-x.result in (
      drop-set-lt (length p) l.out x l.i (image_below (goal.at.loop-i-preserved c).After-from-x) ∙ l.invariant.0,
      place (length p) p (bijection (length p) p c.requires.1) l.out (omega arith) l.i x (omega arith) c.from-x.ensures l.invariant.1,
    )

pub returns : goal.returns
returns c =
    let l = c.loop-i in
    let p = c.args.p.now in
    let all : l.i ≡ length p = omega arith in
    placed (length p) p (bijection (length p) p c.requires.1) l.out (omega arith) c.args.out.now (rw all at l.invariant.1) l.invariant.0
