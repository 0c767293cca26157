use Rattle.std.proofs.Common.{◌∙◌, refl}
use Rattle.pt_history.proofs.Absent.{shows-none}
use Rattle.pt_history.specs.declared.compact.Word.TheVariants.{Named as NamedWord}
use Rattle.pt_history.proofs.Calls.{named-again}
use Rattle.pt_history.proofs.records.Records.interned_name.Goals as goal

pub returns : goal.returns
returns g c =
    let name = c.as_bytes in
    named-again c.args.base c.args.self.now c.deref.result.now name.result.now
    c.in_ok-verb.name.now (NamedWord c.in_ok-verb.verb) c.answer_of.result
    c.in_ok-client.client c.args.client
    c.in_ok-from.from c.args.call.now c.args.outcome c.deref.ensures.value c.in_ok-from.ensures
    name.ensures.bytes name.ensures.name c.in_ok-verb.ensures.found
    (c.in_ok-client.ensures ∙ c.client.view_is) c.answer_of.ensures

pub returns-in_err-verb : goal.returns-in_err-verb
returns-in_err-verb g c = shows-none _ _ _ _ _ c.from_residual.ensures refl

pub returns-in_err-from : goal.returns-in_err-from
returns-in_err-from g c =
    shows-none _ _ _ _ _ c.from_residual-in_err-from.ensures refl

pub returns-in_err-client : goal.returns-in_err-client
returns-in_err-client g c =
    shows-none _ _ _ _ _ c.from_residual-in_err-client.ensures refl
