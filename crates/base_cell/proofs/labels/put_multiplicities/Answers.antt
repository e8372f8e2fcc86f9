-- `put_multiplicities`: the first j cells are the answer's.
use Rattle.std.proofs.Common.{◌<◌, arith, length}
use Rattle.definitions.specs.Orbit.{multiplicities}
use Rattle.laws.specs.Filling.{put_step, put_end}
use Rattle.base_cell.proofs.Tables.{length-multiplicities, multiplicity_at}
use Rattle.base_cell.proofs.labels.put_multiplicities.Goals as goal

pub loop-j-preserved : goal.loop-j-preserved
loop-j-preserved c =
    let l = c.loop-j in
    let ls = c.args.labels.now in
    let counts = c.args.counts.now in
    let x = c.from.result in
    let hj : l.j < length ls = omega arith in
    let small : x < 1024 = omega (arith, c.from.ensures, c.requires.0 l.j hj) in
    put_step 0 (multiplicities ls) c.args.out.now l.out l.j c.sites_of.result l.invariant
    (omega (arith, length-multiplicities ls)) (omega (arith, c.requires.2))
    (multiplicity_at 1024 ls counts c.requires.1 l.j x c.sites_of.result hj c.from.ensures small c.sites_of.ensures)

pub returns : goal.returns
returns c =
    let l = c.loop-j in
    let a = c.args in
    put_end 0 (multiplicities a.labels.now) a.out.now l.out l.j (length a.labels.now) l.invariant
    (length-multiplicities a.labels.now) (omega arith)
