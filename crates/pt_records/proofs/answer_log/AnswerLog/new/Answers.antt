use Rattle.pt_records.proofs.LogRoom.{readable-none, room-none, low-base}
use Rattle.pt_records.proofs.answer_log.AnswerLog.new.Goals as goal

pub invariant_of-result : goal.invariant_of-result
invariant_of-result g c = (
  readable-none 0 c.new-2.result.items c.new.result.items c.new.ensures.items low-base,
  room-none c.new.result c.new-2.result,
)
