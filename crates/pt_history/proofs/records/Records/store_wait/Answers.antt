use Rattle.pt_history.proofs.Absent.{shows-none, texts-kept}
use Rattle.pt_history.proofs.Calls.{shows-wait}
use Rattle.pt_history.proofs.records.Records.store_wait.Goals as goal

pub returns : goal.returns
returns g c =
    let t = c.in_ok-first in
    shows-wait c.args.base c.args.self.now c.two_texts.new.texts c.two_texts.new.hints
    c.in-Wait.cond c.in-Wait.mutex c.args.answer t.first t.second c.args.client t.from
    c.args.call.now t.ensures.some c.in-Wait.is

pub returns-in_err-first : goal.returns-in_err-first
returns-in_err-first g c =
    let t = c.two_texts.ensures in
    shows-none _ _ _ _ _ c.from_residual.ensures
    (texts-kept c.args.self.now c.two_texts.new.texts c.two_texts.new.hints
    (t.none c.in_err-first.was) (t.unchanged c.in_err-first.was))
