use Rattle.std.proofs.Common.{◌∙◌, refl}
use Rattle.pt_model.specs.declared.entry.Entry.TheVariants.{Call as CallEntry}
use Rattle.pt_history.proofs.Views.{told-if}
use Rattle.pt_history.proofs.Absent.{shows-none}
use Rattle.pt_history.proofs.records.Records.store_short_call.Goals as goal

pub returns : goal.returns
returns g c =
    told-if c.args.base c.in_ok-client.client c.args.client c.args.call.now c.answer_of.result
    c.args.outcome c.args.self.now c.store_call.new.self c.store_call.result
    (c.in_ok-client.ensures ∙ c.client.view_is) c.answer_of.ensures c.store_call.ensures

pub returns-in_err-client : goal.returns-in_err-client
returns-in_err-client g c =
    shows-none c.args.base (CallEntry c.args.client c.args.call.now c.args.outcome)
    c.args.self.now c.args.self.now c.from_residual.result c.from_residual.ensures refl
