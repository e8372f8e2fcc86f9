-- `base_permutation::inverse` meets its contract: the verdict is `inverse_verdict`'s, and past what is written the list
-- is cleared.
use mathlib.Core.Path.{◌∙◌}
use mathlib.Core.List.{map}
use lib.ListN.{length, length-map}
use Rattle.definitions.specs.Lists.{up_to}
use Rattle.definitions.specs.Permutation.{inverse_image}
use Rattle.base_permutation.proofs.Accepted.{inverse_facts}
use Rattle.laws.specs.Counting.{length-up_to}
use Rattle.laws.specs.Filling.{padded_by}
use Rattle.base_permutation.proofs.inverse.Goals as goal

pub put_inverse-requires : goal.put_inverse-requires
put_inverse-requires c =
    let a = c.args in
    inverse_facts a.p.now (length a.out.now) (rw c.in-Ok.is at c.inverse_verdict-v.ensures)

pub returns-in-Ok : goal.returns-in-Ok
returns-in-Ok c =
    let a = c.args in
    let v = c.inverse_verdict-v in
    let told = c.in-Ok.is in
    let room = (inverse_facts a.p.now (length a.out.now) (rw told at v.ensures)).2 in (
      v.ensures,
      rw told
          (padded_by 0 (map (inverse_image a.p.now) (up_to (length a.p.now))) a.out.now c.clear.new.out c.put_inverse.new.out (length a.p.now) (length-map (up_to (length a.p.now)) (inverse_image a.p.now) ∙ length-up_to (length a.p.now)) room c.put_inverse.ensures c.clear.ensures),
    )

pub returns-in-Err : goal.returns-in-Err
returns-in-Err c =
    (c.inverse_verdict-v.ensures, rw c.in-Err.is c.clear-in-Err.ensures)
