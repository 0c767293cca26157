use Rattle.std.proofs.Common.{ap}
use Rattle.pt_records.specs.AnswerLogs.{answers_of_shorts}
use Rattle.pt_records.proofs.LogRoom.{readable-none, room-got, room-more, low-base}
use Rattle.pt_records.proofs.answer_log.AnswerLog.with_room.Goals as goal

pub invariant_of-result : goal.invariant_of-result
invariant_of-result g c =
    let ss = c.in_ok-with_capacity.ensures in
    let ws = c.in_ok-with_capacity-2.ensures in (
      readable-none 0 c.in_ok-with_capacity-2.field-0.items c.in_ok-with_capacity.field-0.items
          ss.items low-base,
      room-got c.in_ok-with_capacity.field-0 c.in_ok-with_capacity-2.field-0 c.args.room ss.len
          ss.capacity ws.len ws.capacity,
    )

pub returns-clause-items : goal.returns-clause-items
returns-clause-items g c =
    ap (answers_of_shorts 0 c.in_ok-with_capacity-2.field-0.items)
    c.in_ok-with_capacity.ensures.items

pub returns-clause-room : goal.returns-clause-room
returns-clause-room g c = room-more c.in_ok-with_capacity.field-0.len c.args.room
