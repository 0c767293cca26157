use Rattle.std.proofs.Common.{length}
use Rattle.pt_records.proofs.LogRoom.{more-asked, room-asked, ok-less, room-enough, room-within}
use Rattle.pt_records.proofs.LogRoom.{room-short}
use Rattle.pt_records.proofs.answer_log.AnswerLog.reserve.Goals as goal

pub returns-then-many-self-clause-ok : goal.returns-then-many-self-clause-ok
returns-then-many-self-clause-ok g c =
    let i = c.self.inside in
    room-enough i.base i.room i.wholes i.shorts c.args.self.now c.self.view_is c.args.many
    c.if-many-self.true

pub grow-requires : goal.grow-requires
grow-requires g c =
    let i = c.self.inside in
    room-within i.base i.room i.wholes i.shorts c.args.self.now c.self.view_is
    c.saturating_add.result
    (room-asked i.room c.args.many c.saturating_add.result c.if-many-self.false
    (more-asked i.room c.args.many c.saturating_add.result c.if-many-self.false
    c.ranges.many.fits c.saturating_add.ensures))

pub returns-clause-succeeds_if : goal.returns-clause-succeeds_if
returns-clause-succeeds_if g c = λ enough.
    let i = c.self.inside in
    absurd (room-short i.base i.room i.wholes i.shorts c.args.self.now c.self.view_is c.args.many
    c.if-many-self.false enough)

pub returns-clause-ok : goal.returns-clause-ok
returns-clause-ok g c =
    let now = c.grow.new.self in
    ok-less c.grow.result (length now.items) c.args.many c.saturating_add.result now.capacity
    (more-asked c.self.inside.room c.args.many c.saturating_add.result c.if-many-self.false
    c.ranges.many.fits c.saturating_add.ensures)
    c.grow.ensures.ok
