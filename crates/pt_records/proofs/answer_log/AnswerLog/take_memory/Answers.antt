use Rattle.pt_records.proofs.LogRoom.{readable-same, room-same, room-kept, seen-same}
use Rattle.pt_records.proofs.answer_log.AnswerLog.take_memory.Goals as goal

pub invariant_of-self : goal.invariant_of-self
invariant_of-self g c =
    let i = c.self.inside in (
      readable-same i.base i.wholes.items c.take_memory-2.new.list.items i.shorts.items
          c.take_memory.new.list.items c.take_memory-2.ensures.items c.take_memory.ensures.items
          c.self.invariant.0,
      room-same i.shorts c.take_memory.new.list i.wholes c.take_memory-2.new.list i.room
          c.self.invariant.1 c.take_memory.ensures.len c.take_memory.ensures.capacity
          c.take_memory-2.ensures.len c.take_memory-2.ensures.capacity,
    )

pub returns-clause-items : goal.returns-clause-items
returns-clause-items g c =
    let i = c.self.inside in
    seen-same i.base i.room i.wholes i.shorts c.args.self.now c.self.view_is
    c.take_memory-2.new.list.items c.take_memory.new.list.items c.take_memory-2.ensures.items
    c.take_memory.ensures.items

pub returns-clause-capacity : goal.returns-clause-capacity
returns-clause-capacity g c =
    let i = c.self.inside in
    room-kept i.base i.room i.wholes i.shorts c.args.self.now c.self.view_is
    c.take_memory.new.list c.take_memory.ensures.len
