-- `shuffle::shuffle` meets its contract: the verdict is `identity`'s, and its list is shuffled where it stands.
use Rattle.std.proofs.Common.{sym, length-take-le}
use Rattle.shuffle.proofs.Started.{long, shuffled_there}
use Rattle.shuffle.proofs.shuffle.Goals as goal
use Rattle.shuffle.proofs.shuffle.Goals.{In_ok-identity}

pub slice_bounds-swap_down-end : goal.slice_bounds-swap_down-end
slice_bounds-swap_down-end c =
    let a = c.args in
    long a.n a.seed a.out.now c.identity.new.out c.in_ok-identity.ensures.1

pub slice_bounds-swap_down-end-2 : goal.slice_bounds-swap_down-end-2
slice_bounds-swap_down-end-2 c = sym (length-take-le _ _ (slice_bounds-swap_down-end (goal.at.slice_bounds-swap_down-end-2 c).In_ok-identity))

pub returns : goal.returns
returns c =
    let a = c.args in
    let e = c.in_ok-identity.ensures in
    let down = c.swap_down in
    (e.0, shuffled_there a.n a.seed a.out.now c.identity.new.out e.1 down.new.list down.ensures)
