use Rattle.std.proofs.Common.{sym, ◌∙◌}
use Rattle.pt_records.proofs.LogRoom.{seen-many}
use Rattle.pt_records.proofs.answer_log.AnswerLog.len.Goals as goal

pub returns : goal.returns
returns g c =
    let i = c.self.inside in
    c.len.ensures
    ∙ sym (seen-many i.base i.room i.wholes i.shorts c.args.self.now c.self.view_is)
