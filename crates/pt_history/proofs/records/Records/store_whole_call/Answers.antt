use Rattle.std.proofs.Common.{subst}
use Rattle.pt_types.specs.declared.call.Call.{Call}
use Rattle.pt_model.specs.declared.entry.Entry.TheVariants.{Call as CallEntry}
use Rattle.pt_history.specs.Records.{Shows}
use Rattle.pt_history.proofs.records.Records.store_whole_call.Goals as goal

pub returns : goal.returns
returns g c =
    subst (λ (call : Call). Shows c.args.base (CallEntry c.args.client call c.args.outcome)
    c.args.self.now c.store_whole.new.self c.store_whole.result) c.copied.ensures
    c.store_whole.ensures
