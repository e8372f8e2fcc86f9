-- `base_permutation::each_once` meets its contract: the table says which images were met, none of them twice or
-- past the length.
use Rattle.std.proofs.Common.{◌<◌, refl, arith, not-suc-le-zero, length, length-set}
use borrow.Author.Count.{below_more}
use Rattle.definitions.specs.Permutation.{image}
use Rattle.base_permutation.proofs.MetTable.{met_none, met_more, met_twice, met_outside, met_all}
use Rattle.base_permutation.proofs.each_once.Goals as goal

pub loop-image-init : goal.loop-image-init
loop-image-init c = (refl, met_none c.args.p.now, λ j k. absurd (not-suc-le-zero k))

pub returns-then-p-x : goal.returns-then-p-x
returns-then-p-x c = met_outside c.args.p.now c.loop-image.image-index c.from-x.result (omega arith) c.from-x.ensures (omega arith)

pub returns-then-met-x : goal.returns-then-met-x
returns-then-met-x c =
    let l = c.loop-image in
    let x = c.from-x in
    met_twice c.args.p.now l.met l.image-index x.result l.invariant.1 (omega arith) (omega arith) x.ensures c.if-met-x.true

pub loop-image-preserved : goal.loop-image-preserved
loop-image-preserved c =
    let l = c.loop-image in
    let x = c.from-x in
    let p = c.args.p.now in (
      simp length-set l.invariant.0,
      met_more p l.met l.image-index x.result l.invariant.1 (omega arith) l.invariant.0 (omega arith) x.ensures c.if-met-x.false,
      below_more (λ j. image p j < length p) l.image-index l.invariant.2 (omega (arith, x.ensures)),
    )

pub returns : goal.returns
returns c =
    let l = c.loop-image in
    met_all c.args.p.now l.met l.image-index l.invariant.1 (omega arith) l.invariant.2 (λ j. omega (arith, c.type_inv.p j))
