-- `base_permutation::put_identity` meets its contract: the first i cells are the answer's.
use Rattle.std.proofs.Common.{◌<◌, ◌≡◌, sym, ap, ◌∙◌, arith, length, take, drop}
use Rattle.std.proofs.Common.{◌++◌, length-take, append-nil, drop_of_length-le, take_all}
use Rattle.definitions.specs.Lists.{up_to}
use Rattle.laws.specs.Counting.{length-up_to, get_d_up_to}
use Rattle.laws.specs.Filling.{put_step}
use Rattle.base_permutation.proofs.put_identity.Goals as goal

pub loop-i-preserved : goal.loop-i-preserved
loop-i-preserved c =
    let l = c.loop-i in
    let n = c.args.n in
    let long = length-take n c.args.out.now in
    let h : l.i < n = omega (arith, long) in
    put_step 0 (up_to n) (take n c.args.out.now) l.front l.i l.i l.invariant (omega (arith, length-up_to n))
    (omega arith) (sym (get_d_up_to n l.i 0 h))

pub returns : goal.returns
returns c =
    let l = c.loop-i in
    let n = c.args.n in
    let part = take n c.args.out.now in
    let long : length part ≡ n = length-take n c.args.out.now ∙ omega arith in
    ap (λ front. front ++ drop n c.args.out.now)
    (l.invariant
    ∙ rw (take_all l.i (up_to n) (omega (arith, length-up_to n, long)), drop_of_length-le part {i = l.i} (omega arith))
    (append-nil (up_to n)))
