-- The verdict is `judge`'s; accepted, the list is cleared behind the spaces, refused, cleared whole.
use mathlib.Core.Path.{sym, subst}
use Rattle.definitions.specs.SiteCalls.{PrepareAllPromise}
use Rattle.data_wyckoff.specs.Spaces.{lists}
use Rattle.data_wyckoff.proofs.Promise.{keep-accepted, keep_refused}
use Rattle.data_wyckoff.proofs.space.prepare_all.Goals as goal

pub returns-in-Ok-clause-prepared : goal.returns-in-Ok-clause-prepared
returns-in-Ok-clause-prepared c =
    let texts = c.args.texts.now in
    let e = c.args.spaces.now in
    let y = c.clear.new.out in
    subst (PrepareAllPromise texts (lists e) (lists y)) (sym c.in-Ok.is)
    (keep-accepted texts e c.judge-v.new.spaces y c.in-Ok.ensures c.clear.ensures)

pub returns-in-Err-clause-prepared : goal.returns-in-Err-clause-prepared
returns-in-Err-clause-prepared c =
    let texts = c.args.texts.now in
    let e = c.args.spaces.now in
    let y = c.clear-in-Err.new.out in
    subst (PrepareAllPromise texts (lists e) (lists y)) (sym c.in-Err.is)
    (keep_refused texts e c.judge-v.new.spaces y c.in-Err.field-0 c.in-Err.ensures c.clear-in-Err.ensures)
