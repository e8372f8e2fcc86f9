-- `matched` meets its contract: the first offset stands before the other inner ones, and these before the outer ones.
use Rattle.symmetrize_match.proofs.Tables.{first_fits, inner_fits, outer_is}
use Rattle.symmetrize_match.proofs.trial.Trial.matched.Goals as goal

pub returns-in-Some : goal.returns-in-Some
returns-in-Some c =
    let t = c.args.self.now in
    let m = c.match_first in
    first_fits t.basis t.tolerance.symprec t.space.now t.position m.result m.ensures _ c.in-Some.is

pub returns-in-Some-match_run : goal.returns-in-Some-match_run
returns-in-Some-match_run c =
    let t = c.args.self.now in
    let m = c.match_first in
    let r = c.match_run in
    inner_fits t.basis t.tolerance.symprec t.space.now t.position m.result m.ensures c.in_default.is r.result r.ensures _
    c.in-Some-match_run.is

pub returns : goal.returns
returns c =
    let t = c.args.self.now in
    let m = c.match_first in
    let r = c.match_run in
    let o = c.match_run-2 in
    outer_is t.basis t.tolerance.symprec t.space.now t.position m.result m.ensures c.in_default.is r.result r.ensures
    c.in_default-match_run.is o.result o.ensures
