-- `count_sites`: the table has how often each label was met so far.
use Rattle.std.proofs.Common.{◌+◌, ◌<◌, refl, sym, ap, subst, ◌∙◌, arith, length, get_or, take, length-set}
use Rattle.base_cell.specs.Grouping.{Counted}
use Rattle.base_cell.proofs.Tables.{counted_none, count_small, counted-more, counted-all}
use Rattle.base_cell.proofs.labels.count_sites.Goals as goal

pub loop-label-init : goal.loop-label-init
loop-label-init c = rw c.requires.2 (refl, counted_none 1024 c.args.labels.now)

pub count_site-requires : goal.count_site-requires
count_site-requires c =
    let l = c.loop-label in
    let ls = c.args.labels.now in
    let x = c.from.result in
    let hj : l.label-index < length ls = omega arith in
    let small : x < 1024 = omega (arith, c.from.ensures, c.requires.0 l.label-index hj) in
    (small, omega (arith, count_small 1024 ls l.label-index l.counts l.invariant.1 hj x small, c.requires.1))

pub loop-label-preserved : goal.loop-label-preserved
loop-label-preserved c =
    let l = c.loop-label in
    let ls = c.args.labels.now in
    let x = c.from.result in
    let hj : l.label-index < length ls = omega arith in
    let small : x < 1024 = omega (arith, c.from.ensures, c.requires.0 l.label-index hj) in (
      ap length c.count_site.ensures ∙ length-set l.counts x (get_or l.counts x 0 + 1) ∙ l.invariant.0,
      subst (Counted 1024 (take (l.label-index + 1) ls)) (sym c.count_site.ensures)
          (counted-more 1024 ls l.label-index l.counts l.invariant.1 hj x small c.from.ensures l.invariant.0),
    )

pub returns : goal.returns
returns c =
    let l = c.loop-label in
    counted-all 1024 c.args.labels.now l.label-index l.counts l.invariant.1 (omega arith)
