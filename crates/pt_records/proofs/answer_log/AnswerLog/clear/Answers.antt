use Rattle.pt_records.proofs.LogRoom.{readable-none, room-empty, room-cleared}
use Rattle.pt_records.proofs.answer_log.AnswerLog.clear.Goals as goal

pub returns-clause-room : goal.returns-clause-room
returns-clause-room g c =
    let i = c.self.inside in
    room-cleared i.base i.room i.wholes i.shorts c.args.self.now c.self.view_is
    c.clear.new.self.len

pub invariant_of-self : goal.invariant_of-self
invariant_of-self g c =
    let i = c.self.inside in (
      readable-none i.base c.clear-2.new.self.items c.clear.new.self.items c.clear.ensures.items
          c.self.invariant.0.base,
      room-empty i.shorts c.clear.new.self i.wholes c.clear-2.new.self i.room
          c.self.invariant.1 c.clear.ensures.len c.clear.ensures.capacity c.clear-2.ensures.len
          c.clear-2.ensures.capacity,
    )
