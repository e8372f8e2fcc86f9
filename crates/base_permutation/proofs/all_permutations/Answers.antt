-- `base_permutation::all_permutations` meets its contract: those before o pass, and the part of o starts at o * n.
use Rattle.std.proofs.Common.{◌≡◌, ◌≤◌, ◌+◌, ◌*◌, refl, sym, ◌∙◌, arith, length}
use Rattle.base_permutation.proofs.Parts.{is_nth, one_passes, one_fails, all_passed, part_is, too_few, room_for, of_no_sites}
use Rattle.base_permutation.proofs.all_permutations.Goals as goal
use Rattle.base_permutation.proofs.all_permutations.Goals.{After-is_permutation}

-- permutation o stands within the list
within : (c : After-is_permutation) → c.loop-o.o * c.args.n + c.args.n ≤ length c.args.images.now
within c = room_for (length c.args.images.now) c.args.n c.args.k c.loop-o.o (omega arith) (omega arith)

-- the call's answer is the test of permutation o
nth : (c : After-is_permutation) → c.is_permutation.result ≡ is_nth c.args.n c.args.images.now c.loop-o.o
nth c =
    let a = c.args in
    c.is_permutation.ensures ∙ part_is a.images.now a.n c.loop-o.o (c.loop-o.o * a.n) refl (within c)

pub returns-then-n-eq0 : goal.returns-then-n-eq0
returns-then-n-eq0 c =
    let a = c.args in
    of_no_sites a.images.now a.n a.k c.if-n-eq0.true

pub returns-then-images-n : goal.returns-then-images-n
returns-then-images-n c =
    let a = c.args in
    too_few a.images.now a.n a.k c.if-n-eq0.false c.if-images-n.true

pub returns-then-not-is_permutation : goal.returns-then-not-is_permutation
returns-then-not-is_permutation c =
    let l = c.loop-o in
    let a = c.args in
    one_fails a.images.now a.n a.k l.o l.invariant (omega arith) (sym (nth (goal.at.returns-then-not-is_permutation c).After-is_permutation) ∙ c.if-not-is_permutation.true)

pub loop-o-preserved : goal.loop-o-preserved
loop-o-preserved c =
    let l = c.loop-o in
    let a = c.args in
    one_passes a.images.now a.n a.k l.o l.invariant (omega arith) (sym (nth (goal.at.loop-o-preserved c).After-is_permutation) ∙ c.if-not-is_permutation.false)

pub returns : goal.returns
returns c =
    let l = c.loop-o in
    all_passed c.args.images.now c.args.n c.args.k l.o l.invariant (omega arith)
