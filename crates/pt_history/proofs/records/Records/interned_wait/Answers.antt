use Rattle.std.proofs.Common.{◌∙◌, refl}
use Rattle.pt_history.proofs.Absent.{shows-none}
use Rattle.pt_history.proofs.Calls.{wait-again}
use Rattle.pt_history.proofs.records.Records.interned_wait.Goals as goal

pub returns : goal.returns
returns g c =
    let t = c.in_ok-first in
    wait-again c.args.base c.args.self.now c.deref.result.now c.in-Wait.cond c.in-Wait.mutex
    c.answer_of.result t.first t.second c.in_ok-client.client c.args.client t.from
    c.args.call.now c.args.outcome c.deref.ensures.value t.ensures c.in-Wait.is
    (c.in_ok-client.ensures ∙ c.client.view_is) c.answer_of.ensures

pub returns-in_err-first : goal.returns-in_err-first
returns-in_err-first g c = shows-none _ _ _ _ _ c.from_residual.ensures refl

pub returns-in_err-client : goal.returns-in_err-client
returns-in_err-client g c =
    shows-none _ _ _ _ _ c.from_residual-in_err-client.ensures refl
