use Rattle.std.proofs.Common.{refl}
use Rattle.pt_history.proofs.Absent.{shows-none, texts-kept}
use Rattle.pt_history.proofs.Calls.{shows-barrier}
use Rattle.pt_history.proofs.records.Records.store_barrier.Goals as goal

pub returns : goal.returns
returns g c =
    let t = c.in_ok-length in
    shows-barrier c.args.base c.args.self.now c.one_text.new.texts c.one_text.new.hints
    c.in_ok-name.name.now c.args.answer t.length c.args.client t.from c.in_ok-name.count
    c.args.call.now t.ensures.some c.in_ok-name.ensures

pub returns-in_err-name : goal.returns-in_err-name
returns-in_err-name g c = shows-none _ _ _ _ _ c.from_residual.ensures refl

pub returns-in_err-length : goal.returns-in_err-length
returns-in_err-length g c =
    let t = c.one_text.ensures in
    shows-none _ _ _ _ _ c.from_residual-in_err-length.ensures
    (texts-kept c.args.self.now c.one_text.new.texts c.one_text.new.hints
    (t.none c.in_err-length.was) (t.unchanged c.in_err-length.was))
