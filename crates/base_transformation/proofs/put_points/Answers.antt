-- The first k cells are the points' first k.
use Rattle.std.proofs.Common.{◌*◌, ◌<◌, [], map, ◌∙◌, append-nil, arith, drop_of_length-le, take_all}
use Rattle.definitions.specs.Matrix.{apply}
use Rattle.definitions.specs.Snf.{box}
use Rattle.laws.specs.Filling.{put_step}
use Rattle.base_transformation.proofs.Points.{box-points, point_at, factors}
use Rattle.base_transformation.proofs.put_points.Goals as goal

pub digits-requires : goal.digits-requires
digits-requires c =
    let k = c.loop-k.k in
    let a = c.args in
    let h : k < a.a * a.b * a.c = omega arith in
    let f = factors a.a a.b a.c k h in
    (omega arith, f.0, f.1, omega (arith, f.2))

pub loop-k-preserved : goal.loop-k-preserved
loop-k-preserved c =
    let l = c.loop-k in
    let a = c.args in
    let ps = map (apply a.m) (box a.a a.b a.c) in
    let h : l.k < a.a * a.b * a.c = omega arith in
    put_step [] ps a.out.now l.out l.k c.apply.result l.invariant
    (omega (arith, box-points a.m a.a a.b a.c)) (omega arith)
    (point_at a.m a.a a.b a.c l.k c.digits.result c.apply.result h c.digits.ensures c.apply.ensures)

pub returns : goal.returns
returns c =
    let l = c.loop-k in
    let a = c.args in
    let ps = map (apply a.m) (box a.a a.b a.c) in
    l.invariant
    ∙ rw (
      take_all l.k ps (omega (arith, box-points a.m a.a a.b a.c)),
      drop_of_length-le a.out.now {i = l.k} (omega arith),
    ) (append-nil ps)
