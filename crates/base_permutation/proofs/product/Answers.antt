-- `base_permutation::product` meets its contract: the verdict is `product_verdict`'s, and past what is written the list
-- is cleared.
use lib.ListN.{length, length-map}
use Rattle.definitions.specs.Permutation.{image, after}
use Rattle.base_permutation.proofs.Accepted.{product_facts}
use Rattle.laws.specs.Filling.{padded_by}
use Rattle.base_permutation.proofs.product.Goals as goal

pub put_product-requires : goal.put_product-requires
put_product-requires c =
    let a = c.args in
    product_facts a.p.now a.q.now (length a.out.now) (rw c.in-Ok.is at c.product_verdict-v.ensures)

pub returns-in-Ok : goal.returns-in-Ok
returns-in-Ok c =
    let a = c.args in
    let v = c.product_verdict-v in
    let told = c.in-Ok.is in
    let room = (product_facts a.p.now a.q.now (length a.out.now) (rw told at v.ensures)).3 in (
      v.ensures,
      rw told
          (padded_by 0 (after a.p.now a.q.now) a.out.now c.clear.new.out c.put_product.new.out (length a.q.now) (length-map a.q.now (image a.p.now)) room c.put_product.ensures c.clear.ensures),
    )

pub returns-in-Err : goal.returns-in-Err
returns-in-Err c =
    (c.product_verdict-v.ensures, rw c.in-Err.is c.clear-in-Err.ensures)
