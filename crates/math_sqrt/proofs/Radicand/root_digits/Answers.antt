-- At each turn `First` holds of the digits so far.
use Rattle.std.proofs.Common.{◌≡◌, ◌<◌, arith}
use Rattle.math_sqrt.specs.Root.{first_none, first_narrow, first_more, first_all}
use Rattle.math_sqrt.proofs.Radicand.root_digits.Goals as goal

pub loop-init : goal.loop-init
loop-init c = first_none c.args.self.w (omega arith)

pub root_step-a-requires : goal.root_step-a-requires
root_step-a-requires c = (omega (arith, first_narrow c.loop.invariant), c.loop.invariant.least, omega (arith, c.loop.invariant.coming))

pub loop-preserved : goal.loop-preserved
loop-preserved c =
    let l : c.loop.counter < 54 = omega arith in
    first_more _ _ _ _ _ _ _ l c.loop.invariant c.root_step-a.ensures.root c.root_step-a.ensures.q_bound

pub returns : goal.returns
returns c =
    let h = c.loop.invariant in
    let e : c.loop.counter ≡ 54 = omega (arith, h.few) in
    record { value = first_all c.args.self.w _ _ _ (omega arith) (rw e at h); upper_bound = first_narrow h }
