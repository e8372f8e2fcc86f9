-- The list is the points' or cleared.
use Rattle.std.proofs.Common.{length, w8}
use Rattle.std.specs.Prelude.{Ok, Err}
use Rattle.definitions.specs.Refusal.{Returns}
use Rattle.definitions.specs.Calls.{points_conditions, IsSnf}
use Rattle.laws.specs.Verdicts.{checked_in}
use Rattle.math_matrix.proofs.Shape.{good_three}
use Rattle.math_snf.specs.Step.{state_of}
use Rattle.base_transformation.proofs.Points.{points-lent}
use Rattle.base_transformation.proofs.Accepted.{ready}
use Rattle.base_transformation.proofs.lattice_points.Goals as goal

pub list_points-requires : goal.list_points-requires
unfolding Returns
list_points-requires c =
    let a = c.args in
    let x = c.in-Ok in
    let m = length a.out.now in
    let e = checked_in (points_conditions a.c m) (IsSnf a.c) state_of (Ok x.form) x.ensures in
    ready a.c m e (good_three w8 a.c c.well_formed.0) (state_of x.form) x.ensures.1

pub returns-in-Ok : goal.returns-in-Ok
unfolding Returns
returns-in-Ok c =
    let a = c.args in
    let x = c.in-Ok in (
      checked_in (points_conditions a.c (length a.out.now)) (IsSnf a.c) state_of (Ok x.form) x.ensures,
      points-lent a.c (state_of x.form) a.out.now c.list_points.new.out x.ensures.1 c.list_points.ensures,
    )

pub returns-in-Err : goal.returns-in-Err
returns-in-Err c =
    let cs = points_conditions c.args.c (length c.args.out.now) in
    (checked_in cs (IsSnf c.args.c) state_of (Err c.in-Err.refusal) c.in-Err.ensures, c.clear.ensures)
