use Rattle.std.proofs.Common.{subst}
use Rattle.pt_model.specs.declared.entry.Entry.{Entry}
use Rattle.pt_history.specs.Records.{Shows}
use Rattle.pt_history.proofs.records.Records.store_copy.Goals as goal

pub returns : goal.returns
returns g c =
    subst (λ (e : Entry). Shows c.args.base e c.args.self.now c.store_whole.new.self
    c.store_whole.result) c.copied.ensures c.store_whole.ensures
