-- The lent values hold the job, or are zero.
use mathlib.Core.Path.{subst}
use Rattle.std.specs.Prelude.{Ok}
use Rattle.job.specs.declared.room.Rooms.{Rooms}
use Rattle.job.specs.Given.{given_in, rooms_of, Settled}
use Rattle.job.proofs.Rooms.{enough}
use Rattle.job.proofs.Promise.{read_kept, refused_kept}
use Rattle.job.proofs.read_job.Goals as goal
use Rattle.job.proofs.read_job.Goals.{Start, In-Ok}

abbrev rooms_at : Start → Rooms
rooms_at s = rooms_of (given_in s.args.lists.now)

abbrev start : In-Ok → Start
start c = (goal.at.In-Ok c).Start

found : (c : In-Ok) → Settled (start c).args.bytes.now (rooms_at (start c)) (Ok c.in-Ok.k)
found c =
    let bytes = (start c).args.bytes.now in
    subst (Settled bytes (rooms_at (start c))) c.in-Ok.is (subst (λ r. Settled bytes r c.settled-counts.result) c.rooms.ensures c.settled-counts.ensures)

pub fill-requires : goal.fill-requires
fill-requires c =
    let f = found (goal.at.fill-requires c).In-Ok in
    (f.0.room, enough c.in-Ok.k (rooms_at (goal.at.fill-requires c).Start) f.1)

pub returns-in-Ok-clause-read : goal.returns-in-Ok-clause-read
returns-in-Ok-clause-read c =
    let f = found (goal.at.returns-in-Ok-clause-read c).In-Ok in
    read_kept c.args.bytes.now _ _ c.in-Ok.k f.0 f.1 c.fill.ensures.filled

pub returns-in-Err-clause-read : goal.returns-in-Err-clause-read
returns-in-Err-clause-read c =
    let bytes = c.args.bytes.now in
    let rooms = rooms_of (given_in c.args.lists.now) in
    let settled = subst (Settled bytes rooms) c.in-Err.is (subst (λ r. Settled bytes r c.settled-counts.result) c.rooms.ensures c.settled-counts.ensures) in
    rw c.in-Err.is (refused_kept bytes _ _ c.in-Err.field-0 settled c.clear.ensures.zero)
