use Rattle.std.proofs.Common.{refl, arith}
use Rattle.pt_model.specs.StartRows.{rows_of_start}
use Rattle.pt_history.specs.Stored.{entries_of}
use Rattle.pt_history.proofs.Views.{seen-sealed}
use Rattle.pt_history.proofs.stored.History.seal.Goals as goal

pub invariant_of-self : goal.invariant_of-self
invariant_of-self g c = (
  record {
    fits = omega (arith, c.self.invariant.0.fits, c.clear.ensures.len);
    enough = c.self.invariant.0.enough;
    has_capacity = omega (arith, c.self.invariant.0.has_capacity, c.clear.ensures.len, c.clear.ensures.capacity);
    places = c.requires.places;
  },
  rw c.clear.ensures.items (record { before = c.requires.counted; all = refl }),
  rw c.clear.ensures.items (record {
    stored = λ k d l. absurd (omega arith);
    room = c.clear-2.ensures.room _ c.self.invariant.2.room;
    bounded = omega (arith, c.clear-2.ensures.within);
  }),
  c.base-self-inside.ensures,
)

pub returns : goal.returns
returns g c =
    let i = c.self.inside in
    seen-sealed c.args.self.now (rows_of_start i.start) (rows_of_start c.args.start)
    (entries_of i.start.at i.records i.entries.items) c.args.start.at i.limit i.room
    c.clear-2.new.self c.clear.new.self.items c.self.view_is c.clear.ensures.items
