-- The candidates before i stand in the list, with the first refusal of them.
use Rattle.data_wyckoff.proofs.Listed.{put_none, put-more, refused_behind}
use Rattle.data_wyckoff.proofs.space.prepare_each.Goals as goal
use Rattle.data_wyckoff.proofs.space.prepare_each.Goals.{in-Ok, in-Err}

pub loop-i-init : goal.loop-i-init
loop-i-init c = put_none c.args.spaces.now

pub loop-i-preserved : goal.loop-i-preserved
loop-i-preserved c =
    let l = c.loop-i in
    let texts = c.args.texts.now in
    let e = c.args.spaces.now in
    let h = c.loop-i-test.true in
    elim c.match-prepare.branch [
      | in-Ok w ↦
          rw (w.spaces-is, w.v-is)
          (put-more texts l.i h e l.spaces l.v l.invariant w.in-Ok.space w.put.new.spaces
          w.in-Ok.ensures.prepared w.in-Ok.ensures.shift w.put.ensures)
      | in-Err w ↦
          rw (w.spaces-is, w.v-is)
          (refused_behind texts l.i h e l.spaces l.v l.invariant w.in-Err.k w.first_of.result
          w.in-Err.ensures.prepared w.first_of.ensures)
    ]
