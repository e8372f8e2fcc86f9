-- `base_permutation::identity` meets its contract: the verdict is `identity_verdict`'s, and past what is written the
-- list is cleared.
use lib.ListN.{length}
use Rattle.definitions.specs.Lists.{up_to}
use Rattle.base_permutation.proofs.Accepted.{identity_facts}
use Rattle.laws.specs.Counting.{length-up_to}
use Rattle.laws.specs.Filling.{padded_by}
use Rattle.base_permutation.proofs.identity.Goals as goal

pub put_identity-requires : goal.put_identity-requires
put_identity-requires c =
    let a = c.args in
    identity_facts a.n (length a.out.now) (rw c.in-Ok.is at c.identity_verdict-v.ensures)

pub returns-in-Ok : goal.returns-in-Ok
returns-in-Ok c =
    let a = c.args in
    let v = c.identity_verdict-v in
    let told = c.in-Ok.is in
    let room = (identity_facts a.n (length a.out.now) (rw told at v.ensures)).1 in (
      v.ensures,
      rw told
          (padded_by 0 (up_to a.n) a.out.now c.clear.new.out c.put_identity.new.out a.n (length-up_to a.n) room c.put_identity.ensures c.clear.ensures),
    )

pub returns-in-Err : goal.returns-in-Err
returns-in-Err c =
    (c.identity_verdict-v.ensures, rw c.in-Err.is c.clear-in-Err.ensures)
