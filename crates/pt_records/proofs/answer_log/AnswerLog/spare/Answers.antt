use Rattle.pt_records.proofs.LogRoom.{room-seen}
use Rattle.pt_records.proofs.answer_log.AnswerLog.spare.Goals as goal

pub returns : goal.returns
returns g c =
    let i = c.self.inside in
    room-seen i.base i.room i.wholes i.shorts c.args.self.now c.self.view_is
