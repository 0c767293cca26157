use Rattle.pt_history.proofs.Wholes.{room-still, few-still, shows-after}
use Rattle.pt_history.proofs.records.Records.store.Goals as goal

pub store_short-requires : goal.store_short-requires
store_short-requires g c = c.requires.room

pub store_copy-requires-clause-room : goal.store_copy-requires-clause-room
store_copy-requires-clause-room g c =
    room-still c.args.self.now c.store_short.new.self 1 c.in-None.ensures c.requires.room

pub store_copy-requires-clause-within : goal.store_copy-requires-clause-within
store_copy-requires-clause-within g c =
    few-still c.args.self.now c.store_short.new.self c.in-None.ensures c.requires.within

pub returns-in-Some : goal.returns-in-Some
returns-in-Some g c = c.in-Some.ensures

pub returns-in-None : goal.returns-in-None
returns-in-None g c =
    shows-after _ _ c.args.self.now c.store_short.new.self c.store_copy.new.self c.store_copy.result
    c.in-None.ensures c.store_copy.ensures
