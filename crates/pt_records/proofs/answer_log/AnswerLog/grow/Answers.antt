use Rattle.std.proofs.Common.{refl}
use Rattle.pt_records.proofs.LogRoom.{many-more, readable-same, room-same, room-shorts, room-grown}
use Rattle.pt_records.proofs.LogRoom.{seen-same, room-kept}
use Rattle.pt_records.proofs.answer_log.AnswerLog.grow.Goals as goal

pub returns-clause-ok : goal.returns-clause-ok
returns-clause-ok g c =
    many-more c.self.inside.base c.reserve-2.new.self.items c.reserve.new.self c.args.many

pub returns-clause-capacity : goal.returns-clause-capacity
returns-clause-capacity g c =
    let i = c.self.inside in
    room-grown i.base i.room i.wholes i.shorts c.args.self.now c.self.view_is c.reserve.new.self
    c.args.many c.reserve.ensures.len c.requires

pub returns-clause-items : goal.returns-clause-items
returns-clause-items g c =
    let i = c.self.inside in
    seen-same i.base i.room i.wholes i.shorts c.args.self.now c.self.view_is
    c.reserve-2.new.self.items c.reserve.new.self.items c.reserve-2.ensures.items
    c.reserve.ensures.items

pub invariant_of-self-2 : goal.invariant_of-self-2
invariant_of-self-2 g c =
    let i = c.self.inside in (
      readable-same i.base i.wholes.items c.reserve-2.new.self.items i.shorts.items
          c.reserve.new.self.items c.reserve-2.ensures.items c.reserve.ensures.items
          c.self.invariant.0,
      record {
        shorts = c.in_ok-reserve.ensures.ok;
        wholes = c.in_ok-reserve-2.ensures.ok;
      },
    )

pub invariant_of-self-in_err-reserve-2 : goal.invariant_of-self-in_err-reserve-2
invariant_of-self-in_err-reserve-2 g c =
    let i = c.self.inside in (
      readable-same i.base i.wholes.items c.reserve-2.new.self.items i.shorts.items
          c.reserve.new.self.items c.reserve-2.ensures.items c.reserve.ensures.items
          c.self.invariant.0,
      room-same i.shorts c.reserve.new.self i.wholes c.reserve-2.new.self i.room
          c.self.invariant.1 c.reserve.ensures.len c.reserve.ensures.capacity
          c.reserve-2.ensures.len c.reserve-2.ensures.capacity,
    )

pub invariant_of-self : goal.invariant_of-self
invariant_of-self g c =
    let i = c.self.inside in (
      readable-same i.base i.wholes.items i.wholes.items i.shorts.items c.reserve.new.self.items
          refl c.reserve.ensures.items c.self.invariant.0,
      room-shorts i.shorts c.reserve.new.self i.wholes i.room c.self.invariant.1
          c.reserve.ensures.len c.reserve.ensures.capacity,
    )

pub returns-in_err-reserve-2-clause-items : goal.returns-in_err-reserve-2-clause-items
returns-in_err-reserve-2-clause-items g c =
    let i = c.self.inside in
    seen-same i.base i.room i.wholes i.shorts c.args.self.now c.self.view_is
    c.reserve-2.new.self.items c.reserve.new.self.items c.reserve-2.ensures.items
    c.reserve.ensures.items

pub returns-in_err-reserve-2-clause-capacity : goal.returns-in_err-reserve-2-clause-capacity
returns-in_err-reserve-2-clause-capacity g c =
    let i = c.self.inside in
    room-kept i.base i.room i.wholes i.shorts c.args.self.now c.self.view_is c.reserve.new.self
    c.reserve.ensures.len

pub returns-in_err-reserve-clause-items : goal.returns-in_err-reserve-clause-items
returns-in_err-reserve-clause-items g c =
    let i = c.self.inside in
    seen-same i.base i.room i.wholes i.shorts c.args.self.now c.self.view_is i.wholes.items
    c.reserve.new.self.items refl c.reserve.ensures.items

pub returns-in_err-reserve-clause-capacity : goal.returns-in_err-reserve-clause-capacity
returns-in_err-reserve-clause-capacity g c =
    let i = c.self.inside in
    room-kept i.base i.room i.wholes i.shorts c.args.self.now c.self.view_is c.reserve.new.self
    c.reserve.ensures.len
