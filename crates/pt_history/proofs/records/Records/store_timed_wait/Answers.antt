use Rattle.std.proofs.Common.{◌∙◌, refl}
use Rattle.pt_history.proofs.Absent.{shows-none, texts-kept}
use Rattle.pt_history.proofs.Calls.{shows-timed-wait}
use Rattle.pt_history.proofs.records.Records.store_timed_wait.Goals as goal

pub returns : goal.returns
returns g c =
    let old = c.args.self.now in
    let t = c.in_ok-first in
    let e = c.push_reserved.ensures in
    shows-timed-wait c.args.base old c.two_texts.new.texts c.two_texts.new.hints
    c.push_reserved.new.self c.in-Some.limit c.in-Some.cond.now c.in-Some.mutex.now c.args.answer
    t.first t.second c.args.client t.from c.in_ok-index.index c.args.call.now t.ensures.some
    c.in-Some.ensures (c.in_ok-index.ensures ∙ c.len.ensures ∙ old.limits.ok.0) e.items e.len
    e.capacity

pub returns-in_err-index : goal.returns-in_err-index
returns-in_err-index g c = shows-none _ _ _ _ _ c.from_residual.ensures refl

pub returns-in_err-first : goal.returns-in_err-first
returns-in_err-first g c =
    let t = c.two_texts.ensures in
    shows-none _ _ _ _ _ c.from_residual-in_err-first.ensures
    (texts-kept c.args.self.now c.two_texts.new.texts c.two_texts.new.hints
    (t.none c.in_err-first.was) (t.unchanged c.in_err-first.was))
