-- `put_transformed`: the first i are the transformed rotations.
use mathlib.Core.Path.{sym, ◌∙◌}
use mathlib.Core.List.{[], ◌++◌, map}
use native.Mathlib.Omega.{arith}
use lib.ListN.{length, drop, length-set, length-map}
use Rattle.laws.specs.Filling.{put_step, put_end}
use Rattle.laws.specs.Lists.{map_at}
use Rattle.symmetrize_align.proofs.rotations.put_transformed.Goals as goal
use Rattle.symmetrize_align.proofs.rotations.put_transformed.Invariants.{between}

pub loop-i-preserved : goal.loop-i-preserved
loop-i-preserved c =
    let l = c.loop-i in
    let a = c.args in
    let rs = a.rotations.now in
    let f = between c.unimodular_inverse-inverse.result c.widened-by.result in (
      simp length-set l.invariant.0,
      put_step [] (map f rs) a.moved.now l.moved l.i c.transform_by.result l.invariant.1
          (omega (arith, length-map rs f)) (omega arith)
          (c.transform_by.ensures ∙ sym (map_at f rs l.i [] [] (omega arith))),
    )

pub returns : goal.returns
returns c =
    let l = c.loop-i in
    let a = c.args in
    let rs = a.rotations.now in
    let i = c.unimodular_inverse-inverse in
    let f = between i.result c.widened-by.result in
    put_end [] (map f rs) a.moved.now l.moved l.i (length rs) l.invariant.1 (length-map rs f) (omega arith)
    ∙ (λ k. map (between (i.ensures k) (c.widened-by.ensures k)) rs ++ drop (length rs) a.moved.now)
