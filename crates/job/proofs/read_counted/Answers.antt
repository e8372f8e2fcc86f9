-- The lent values hold what is read of counted commands, or are zero.
use mathlib.Core.Path.{◌≡◌, sym, ap, ◌∙◌}
use Rattle.job.specs.Given.{given_in, rooms_of, readable}
use Rattle.job.proofs.Rooms.{read_so}
use Rattle.job.proofs.Promise.{counted-kept, counted_none}
use Rattle.job.proofs.read_counted.Goals as goal
use Rattle.job.proofs.read_counted.Goals.{After-readable}

-- the test, of the lists as they were lent
tested : (c : After-readable) → let a = c.args in c.readable.result ≡ readable a.bytes.now a.k (rooms_of (given_in a.lists.now))
tested c = let a = c.args in c.readable.ensures ∙ ap (readable a.bytes.now a.k) c.rooms.ensures

pub fill-requires : goal.fill-requires
fill-requires c =
    read_so c.args.bytes.now c.args.k (rooms_of (given_in c.args.lists.now)) (sym (tested (goal.at.fill-requires c).After-readable) ∙ c.if-readable.true)

pub returns-then-readable-clause-read : goal.returns-then-readable-clause-read
returns-then-readable-clause-read c =
    counted-kept c.args.bytes.now _ _ c.args.k (sym (tested (goal.at.returns-then-readable-clause-read c).After-readable) ∙ c.if-readable.true) c.fill.ensures.filled

pub returns-else-readable-clause-read : goal.returns-else-readable-clause-read
returns-else-readable-clause-read c =
    counted_none c.args.bytes.now _ _ c.args.k (sym (tested (goal.at.returns-else-readable-clause-read c).After-readable) ∙ c.if-readable.false) c.clear.ensures.zero
