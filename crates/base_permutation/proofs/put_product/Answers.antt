-- `base_permutation::put_product` meets its contract: the first i cells are the answer's.
use Rattle.std.proofs.Common.{◌<◌, sym, ap, ◌∙◌, arith, length}
use Rattle.std.proofs.lemmas.List.{length-map}
use Rattle.definitions.specs.Permutation.{image, after}
use Rattle.base_permutation.specs.Bijection.{bijection, image-map}
use Rattle.laws.specs.Filling.{put_step, put_end}
use Rattle.base_permutation.proofs.put_product.Goals as goal

pub bounds-p-from : goal.bounds-p-from
bounds-p-from c =
    let l = c.loop-i in
    let q = c.args.q.now in
    omega (arith, (bijection (length q) q c.requires.2).below l.i (omega arith))

pub loop-i-preserved : goal.loop-i-preserved
loop-i-preserved c =
    let l = c.loop-i in
    let p = c.args.p.now in
    let q = c.args.q.now in
    let k : l.i < length q = omega arith in
    put_step 0 (after p q) c.args.out.now l.out l.i (image p c.from.result) l.invariant (omega (arith, length-map q (image p))) (omega arith) (ap (image p) c.from.ensures ∙ sym (image-map (image p) q l.i k))

pub returns : goal.returns
returns c =
    let l = c.loop-i in
    let p = c.args.p.now in
    let q = c.args.q.now in
    put_end 0 (after p q) c.args.out.now l.out l.i (length q) l.invariant (length-map q (image p)) (omega arith)
