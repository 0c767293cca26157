use Rattle.std.proofs.Common.{subst}
use Rattle.pt_model.specs.declared.entry.Entry.{Entry}
use Rattle.pt_history.specs.Records.{Shows}
use Rattle.pt_history.proofs.records.Records.store_whole_forced.Goals as goal

pub store_whole-requires-clause-room : goal.store_whole-requires-clause-room
store_whole-requires-clause-room g c = c.requires.room

pub store_whole-requires-clause-within : goal.store_whole-requires-clause-within
store_whole-requires-clause-within g c = c.requires.within

pub returns : goal.returns
returns g c =
    subst (λ (e : Entry). Shows c.args.base e c.args.self.now c.store_whole.new.self
    c.store_whole.result) c.entry_of.ensures c.store_whole.ensures
