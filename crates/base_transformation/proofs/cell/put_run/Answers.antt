-- The first k entries are the run's first k.
use Rattle.std.proofs.Common.{◌∙◌, refl, append-nil, arith, drop_of_length-le, take_all}
use Rattle.laws.specs.Filling.{put_step}
use Rattle.base_transformation.proofs.cell.put_run.Goals as goal

pub loop-k-init : goal.loop-k-init
loop-k-init g c = λ made e m. refl

pub loop-k-preserved : goal.loop-k-preserved
loop-k-preserved g c = λ made e m.
    let l = c.loop-k in
    put_step c.entry.result made c.args.run.now l.run l.k c.entry.result (l.invariant made e m) (omega arith) (omega arith)
    (m l.k c.entry.result (omega arith) c.entry.ensures)

pub returns : goal.returns
returns g c = λ made e m.
    let l = c.loop-k in
    l.invariant made e m ∙ rw (take_all l.k made (omega arith), drop_of_length-le c.args.run.now {i = l.k} (omega arith)) (append-nil made)
