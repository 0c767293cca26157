use Rattle.std.proofs.Common.{◌≡◌, ◌+◌, ◌≤◌, ap, vec_len, vec_capacity, arith}
use Rattle.pt_model.specs.StartRows.{rows_of_start}
use Rattle.pt_history.proofs.Unchanged.{counted-same, recorded-same}
use Rattle.pt_history.specs.Records.{HasPartsRoom}
use Rattle.pt_history.specs.Stored.{Stored, entries_of}
use Rattle.pt_history.proofs.Room.{entries-same, seen-same, seen-room, seen-length}
use Rattle.pt_history.proofs.Room.{recorded-room, at-ok}
use Rattle.pt_history.proofs.stored.History.grow_for.Goals as goal

pub invariant_of-self : goal.invariant_of-self
invariant_of-self g c =
    let i = c.self.inside in
    let k = c.grow.ensures.parts in (
      record {
        fits = omega (arith, c.self.invariant.0.fits, c.grow.ensures.len);
        enough = c.self.invariant.0.enough;
        has_capacity = omega
            (arith, c.self.invariant.0.has_capacity, c.grow.ensures.len, c.grow.ensures.capacity);
        places = c.self.invariant.0.places;
      },
      counted-same (rows_of_start i.start) i.start.at i.records c.grow.new.records i.entries.items
          c.grow.new.entries.items i.outer c.grow.ensures.entries k.same c.self.invariant.1,
      recorded-same i.records c.grow.new.records i.entries.items c.grow.new.entries.items i.memory
          c.grow.ensures.entries k c.self.invariant.2,
      c.self.invariant.3,
    )

pub returns-then-is_err-clause-unchanged : goal.returns-then-is_err-clause-unchanged
returns-then-is_err-clause-unchanged g c =
    let i = c.self.inside in
    seen-same c.args.self.now (rows_of_start i.start)
    (entries_of i.start.at i.records i.entries.items)
    (entries_of i.start.at c.grow.new.records c.grow.new.entries.items) i.limit i.room
    (entries-same i.start.at i.records c.grow.new.records i.entries.items
    c.grow.new.entries.items c.grow.ensures.entries c.grow.ensures.parts.same) c.self.view_is

pub invariant_of-self-2 : goal.invariant_of-self-2
invariant_of-self-2 g c =
    let i = c.self.inside in
    let k = c.grow.ensures.parts in
    let many = seen-length c.args.self.now
    (rows_of_start i.start) i.start.at i.limit i.room i.records
    i.entries.items c.self.view_is in
    let most : i.limit ≡ c.args.self.now.limit = ap (λ (s : Stored). s.limit) c.self.view_is in
    let made : vec_len i.entries + c.args.memory ≤ vec_capacity c.grow.new.entries =
    at-ok c.grow.result _ c.if-is_err.ensures.value c.grow.ensures.has_room in
    let room : HasPartsRoom c.grow.new.records c.args.memory =
    at-ok c.grow.result _ c.if-is_err.ensures.value c.grow.ensures.room in (
      record {
        fits = omega (arith, many, most, i.entries.ok.0, c.requires.within, c.grow.ensures.len);
        enough = c.requires.enough;
        has_capacity = omega (arith, made, c.grow.ensures.len);
        places = c.self.invariant.0.places;
      },
      counted-same (rows_of_start i.start) i.start.at i.records c.grow.new.records i.entries.items
          c.grow.new.entries.items i.outer c.grow.ensures.entries k.same c.self.invariant.1,
      recorded-room i.records c.grow.new.records i.entries.items c.grow.new.entries.items
          i.memory c.args.memory c.grow.ensures.entries k room c.self.invariant.2,
      c.self.invariant.3,
    )

pub returns-clause-ok : goal.returns-clause-ok
returns-clause-ok g c =
    let i = c.self.inside in
    seen-room c.args.self.now (rows_of_start i.start)
    (entries_of i.start.at i.records i.entries.items)
    (entries_of i.start.at c.grow.new.records c.grow.new.entries.items) i.limit i.room c.args.room
    (entries-same i.start.at i.records c.grow.new.records i.entries.items
    c.grow.new.entries.items c.grow.ensures.entries c.grow.ensures.parts.same) c.self.view_is
