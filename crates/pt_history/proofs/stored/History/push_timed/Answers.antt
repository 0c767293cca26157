use Rattle.std.proofs.Common.{refl, arith}
use Rattle.pt_model.specs.declared.entry.Entry.TheVariants.{Call as CallEntry}
use Rattle.pt_history.proofs.Pushed.{can-append, outer-fits, holds-appended, seen-appended}
use Rattle.pt_model.specs.StartRows.{rows_of_start}
use Rattle.pt_history.proofs.Views.{seen-kept, counted-kept, recorded-kept}
use Rattle.pt_history.proofs.stored.History.push_timed.Goals as goal

pub overflow_add-self : goal.overflow_add-self
overflow_add-self g c =
    omega (
      arith,
      outer-fits c.self.inside c.args.self.now c.self.view_is c.requires
          c.self.invariant 1 (omega arith),
    )

pub append-requires : goal.append-requires
append-requires g c =
    can-append c.self.inside c.args.self.now c.self.view_is c.requires c.self.invariant

pub invariant_of-self-2 : goal.invariant_of-self-2
invariant_of-self-2 g c =
    holds-appended c.self.inside c.args.self.now c.self.view_is c.requires c.self.invariant
    c.store_short_timed-stored.new.self c.append.new.entries _
    (CallEntry c.args.client c.args.call.now c.args.outcome)
    _ _ c.append.ensures c.in-Some.ensures _ 1 refl refl

pub returns : goal.returns
returns g c =
    seen-appended c.self.inside c.args.self.now c.self.view_is c.requires c.self.invariant
    c.store_short_timed-stored.new.self c.append.new.entries _
    (CallEntry c.args.client c.args.call.now c.args.outcome)
    _ _ c.append.ensures c.in-Some.ensures

pub returns-in_default : goal.returns-in_default
returns-in_default g c =
    let i = c.self.inside in
    seen-kept i.records c.store_short_timed-stored.new.self c.in_default.ensures i.entries.items
    c.args.self.now (rows_of_start i.start) i.start.at i.limit i.room c.self.view_is

pub invariant_of-self : goal.invariant_of-self
invariant_of-self g c =
    let i = c.self.inside in
    let new = c.store_short_timed-stored.new.self in (
      c.self.invariant.0,
      counted-kept i.records new c.in_default.ensures i.entries.items
          (rows_of_start i.start) i.start.at
          i.outer c.self.invariant.1,
      recorded-kept i.records new c.in_default.ensures i.entries.items i.memory c.self.invariant.2,
      c.self.invariant.3,
    )
