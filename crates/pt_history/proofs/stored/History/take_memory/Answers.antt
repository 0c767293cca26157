use Rattle.std.proofs.Common.{arith}
use Rattle.pt_model.specs.StartRows.{rows_of_start}
use Rattle.pt_history.specs.Stored.{entries_of}
use Rattle.pt_history.proofs.Unchanged.{counted-same, recorded-same}
use Rattle.pt_history.proofs.Room.{entries-same, seen-same}
use Rattle.pt_history.proofs.stored.History.take_memory.Goals as goal

pub invariant_of-self : goal.invariant_of-self
invariant_of-self g c =
    let i = c.self.inside in
    let k = c.take_memory-2.ensures in (
      record {
        fits = omega (arith, c.self.invariant.0.fits, c.take_memory.ensures.len);
        enough = c.self.invariant.0.enough;
        has_capacity = omega (
          arith,
          c.self.invariant.0.has_capacity,
          c.take_memory.ensures.len,
          c.take_memory.ensures.capacity,
        );
        places = c.self.invariant.0.places;
      },
      counted-same (rows_of_start i.start) i.start.at i.records c.take_memory-2.new.self
          i.entries.items
          c.take_memory.new.list.items i.outer c.take_memory.ensures.items k.same
          c.self.invariant.1,
      recorded-same i.records c.take_memory-2.new.self i.entries.items c.take_memory.new.list.items
          i.memory c.take_memory.ensures.items k c.self.invariant.2,
      c.self.invariant.3,
    )

pub returns : goal.returns
returns g c =
    let i = c.self.inside in
    let new = c.take_memory-2.new.self in
    let items = c.take_memory.new.list.items in
    seen-same c.args.self.now (rows_of_start i.start)
    (entries_of i.start.at i.records i.entries.items)
    (entries_of i.start.at new items) i.limit i.room
    (entries-same i.start.at i.records new i.entries.items items c.take_memory.ensures.items
    c.take_memory-2.ensures.same) c.self.view_is
