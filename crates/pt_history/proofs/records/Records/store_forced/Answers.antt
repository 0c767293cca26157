use Rattle.pt_history.proofs.Wholes.{room-still, few-still, shows-after}
use Rattle.pt_history.proofs.records.Records.store_forced.Goals as goal

pub store_short_forced-requires : goal.store_short_forced-requires
store_short_forced-requires g c = c.requires.room

pub store_whole_forced-requires-clause-room : goal.store_whole_forced-requires-clause-room
store_whole_forced-requires-clause-room g c =
    room-still c.args.self.now c.store_short_forced.new.self 1 c.in-None.ensures c.requires.room

pub store_whole_forced-requires-clause-within : goal.store_whole_forced-requires-clause-within
store_whole_forced-requires-clause-within g c =
    few-still c.args.self.now c.store_short_forced.new.self c.in-None.ensures c.requires.within

pub returns-in-Some : goal.returns-in-Some
returns-in-Some g c = c.in-Some.ensures

pub returns-in-None : goal.returns-in-None
returns-in-None g c =
    shows-after _ _ c.args.self.now c.store_short_forced.new.self
    c.store_whole_forced.new.self c.store_whole_forced.result
    c.in-None.ensures c.store_whole_forced.ensures
