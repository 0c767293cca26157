use Rattle.std.proofs.Common.{◌∙◌, refl}
use Rattle.pt_history.proofs.Absent.{shows-none, texts-kept}
use Rattle.pt_history.proofs.Calls.{shows-timed}
use Rattle.pt_history.proofs.records.Records.store_timed.Goals as goal

pub returns : goal.returns
returns g c =
    let old = c.args.self.now in
    let t = c.in_ok-length in
    let e = c.push_reserved.ensures in
    shows-timed c.args.base old c.one_text.new.texts c.one_text.new.hints
    c.push_reserved.new.self c.in-Some.limit c.in-Some.name.now c.in-Some.kind c.args.answer
    t.length c.args.client t.from c.in_ok-index.index c.args.call.now t.ensures.some
    c.in-Some.ensures (c.in_ok-index.ensures ∙ c.len.ensures ∙ old.limits.ok.0) e.items e.len
    e.capacity

pub returns-in_err-index : goal.returns-in_err-index
returns-in_err-index g c = shows-none _ _ _ _ _ c.from_residual.ensures refl

pub returns-in_err-length : goal.returns-in_err-length
returns-in_err-length g c =
    let t = c.one_text.ensures in
    shows-none _ _ _ _ _ c.from_residual-in_err-length.ensures
    (texts-kept c.args.self.now c.one_text.new.texts c.one_text.new.hints
    (t.none c.in_err-length.was) (t.unchanged c.in_err-length.was))
