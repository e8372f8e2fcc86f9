-- Too many, or what the candidates decide, and then the room.
use borrow.Author.Tests.{lt-ltb, le-ltb}
use lib.ListN.{length}
use Rattle.laws.specs.Verdicts.{passed_on}
use Rattle.data_wyckoff.specs.Spaces.{Judged}
use Rattle.data_wyckoff.proofs.Promise.{too_many, a_refusal, lacks_room, has_room}
use Rattle.data_wyckoff.proofs.space.judge.Goals as goal

pub returns-then-texts-gt-MOST_CANDIDATES : goal.returns-then-texts-gt-MOST_CANDIDATES
returns-then-texts-gt-MOST_CANDIDATES c =
    let texts = c.args.texts.now in
    too_many texts c.args.spaces.now (lt-ltb 64 (length texts) c.if-texts-gt-MOST_CANDIDATES.true)

pub returns-in_err-prepare_each : goal.returns-in_err-prepare_each
returns-in_err-prepare_each c =
    let texts = c.args.texts.now in
    let e = c.args.spaces.now in
    let x = c.prepare_each.new.spaces in
    let k = c.in_err-prepare_each.field-0.0 in
    passed_on (Judged texts e x) k c.from_residual.result c.from_residual.ensures.1
    (a_refusal texts e (le-ltb 64 (length texts) c.if-texts-gt-MOST_CANDIDATES.false) x k c.in_err-prepare_each.ensures)

pub returns-then-spaces-texts : goal.returns-then-spaces-texts
returns-then-spaces-texts c =
    let texts = c.args.texts.now in
    lacks_room texts c.args.spaces.now (le-ltb 64 (length texts) c.if-texts-gt-MOST_CANDIDATES.false)
    c.prepare_each.new.spaces c.in_ok-prepare_each.ensures c.if-spaces-texts.true

pub returns : goal.returns
returns c =
    let texts = c.args.texts.now in
    has_room texts c.args.spaces.now (le-ltb 64 (length texts) c.if-texts-gt-MOST_CANDIDATES.false)
    c.prepare_each.new.spaces c.in_ok-prepare_each.ensures c.if-spaces-texts.false
