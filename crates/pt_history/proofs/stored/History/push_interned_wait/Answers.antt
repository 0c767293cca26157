use Rattle.std.proofs.Common.{refl, arith}
use Rattle.pt_model.specs.declared.entry.Entry.TheVariants.{Call as CallEntry}
use Rattle.pt_history.proofs.Pushed.{can-append, outer-fits, holds-appended, seen-appended}
use Rattle.pt_history.proofs.stored.History.push_interned_wait.Goals as goal

pub overflow_add-self : goal.overflow_add-self
overflow_add-self g c =
    omega (
      arith,
      outer-fits c.self.inside c.args.self.now c.self.view_is c.requires
          c.self.invariant 1 (omega arith),
    )

pub append-requires : goal.append-requires
append-requires g c =
    can-append c.self.inside c.args.self.now c.self.view_is c.requires c.self.invariant

pub invariant_of-self : goal.invariant_of-self
invariant_of-self g c =
    holds-appended c.self.inside c.args.self.now c.self.view_is c.requires c.self.invariant
    c.self.inside.records c.append.new.entries _
    (CallEntry c.args.client c.args.call.now c.args.outcome)
    _ _ c.append.ensures c.in-Some.ensures _ 1 refl refl

pub returns : goal.returns
returns g c =
    seen-appended c.self.inside c.args.self.now c.self.view_is c.requires c.self.invariant
    c.self.inside.records c.append.new.entries _
    (CallEntry c.args.client c.args.call.now c.args.outcome)
    _ _ c.append.ensures c.in-Some.ensures
