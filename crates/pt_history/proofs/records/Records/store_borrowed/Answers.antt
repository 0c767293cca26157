use Rattle.pt_history.proofs.Wholes.{room-still, few-still, shows-after}
use Rattle.pt_history.proofs.records.Records.store_borrowed.Goals as goal

pub store_short_call-requires : goal.store_short_call-requires
store_short_call-requires g c = c.requires.room

pub store_whole_call-requires-clause-room : goal.store_whole_call-requires-clause-room
store_whole_call-requires-clause-room g c =
    room-still c.args.self.now c.store_short_call.new.self 1 c.in-None.ensures c.requires.room

pub store_whole_call-requires-clause-within : goal.store_whole_call-requires-clause-within
store_whole_call-requires-clause-within g c =
    few-still c.args.self.now c.store_short_call.new.self c.in-None.ensures c.requires.within

pub returns-in-Some : goal.returns-in-Some
returns-in-Some g c = c.in-Some.ensures

pub returns-in-None : goal.returns-in-None
returns-in-None g c =
    shows-after _ _ c.args.self.now c.store_short_call.new.self c.store_whole_call.new.self
    c.store_whole_call.result
    c.in-None.ensures c.store_whole_call.ensures
