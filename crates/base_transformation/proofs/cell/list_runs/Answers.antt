-- The runs before i are laid.
use Rattle.std.proofs.Common.{sym, ◌∙◌, arith}
use Rattle.base_transformation.proofs.Laying.{run_of, run_length, in_run, run_at, lay, laid_all}
use Rattle.base_transformation.proofs.cell.list_runs.Goals as goal

pub loop-i-preserved : goal.loop-i-preserved
loop-i-preserved g c = λ made count makes.
    let l = c.loop-i in
    let a = c.args in
    let laid = l.invariant made count makes in
    let h = c.loop-i-test.true in
    let long = run_length made a.out.now l.out a.n a.m l.i count c.requires.room laid h l.auto.out in
    lay made a.out.now l.out a.n a.m l.i count c.requires.room laid h c.put_run.new.run
    (c.put_run.ensures (run_of made a.out.now l.out a.n a.m l.i count c.requires.room laid h) long
    (λ k x below p.
    let k_below = in_run made a.out.now l.out a.n a.m l.i count c.requires.room laid h k below in
    makes l.i k x h k_below p ∙ sym (run_at made a.out.now l.out a.n a.m l.i count c.requires.room laid h k x k_below)))

pub returns : goal.returns
returns g c = λ made count makes.
    let l = c.loop-i in
    let a = c.args in
    laid_all made a.out.now l.out a.n a.m l.i count c.requires.room (l.invariant made count makes) g.T.Zero.ZERO c.clear.new.out (omega arith) c.clear.ensures
