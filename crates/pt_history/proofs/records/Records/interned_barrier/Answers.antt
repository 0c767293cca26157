use Rattle.std.proofs.Common.{◌∙◌, refl}
use Rattle.pt_history.proofs.Absent.{shows-none}
use Rattle.pt_history.proofs.Calls.{barrier-again}
use Rattle.pt_history.proofs.records.Records.interned_barrier.Goals as goal

pub returns : goal.returns
returns g c =
    let name = c.as_bytes in
    barrier-again c.args.base c.args.self.now c.deref.result.now name.result.now
    c.in_ok-name.name.now c.answer_of.result c.in_ok-client.client c.args.client
    c.in_ok-from.from c.in_ok-name.count c.args.call.now c.args.outcome c.deref.ensures.value
    c.in_ok-from.ensures name.ensures.bytes name.ensures.name c.in_ok-name.ensures
    (c.in_ok-client.ensures ∙ c.client.view_is) c.answer_of.ensures

pub returns-in_err-name : goal.returns-in_err-name
returns-in_err-name g c = shows-none _ _ _ _ _ c.from_residual.ensures refl

pub returns-in_err-from : goal.returns-in_err-from
returns-in_err-from g c =
    shows-none _ _ _ _ _ c.from_residual-in_err-from.ensures refl

pub returns-in_err-client : goal.returns-in_err-client
returns-in_err-client g c =
    shows-none _ _ _ _ _ c.from_residual-in_err-client.ensures refl
