use Rattle.std.proofs.Common.{refl, arith}
use Rattle.pt_model.specs.Histories.{is_forced}
use Rattle.pt_history.proofs.Counts.{one_most}
use Rattle.pt_history.proofs.Pushed.{can-append, outer-fits, holds-appended, seen-appended}
use Rattle.pt_history.proofs.stored.History.push_borrowed.Goals as goal

pub overflow_add-self : goal.overflow_add-self
overflow_add-self g c =
    omega (
      arith,
      outer-fits c.self.inside c.args.self.now c.self.view_is c.requires
          c.self.invariant c.outer_in.result
          (omega (arith, c.outer_in.ensures, one_most (is_forced c.args.entry.now))),
    )

pub append-requires : goal.append-requires
append-requires g c =
    can-append c.self.inside c.args.self.now c.self.view_is c.requires c.self.invariant

pub invariant_of-self : goal.invariant_of-self
invariant_of-self g c =
    holds-appended c.self.inside c.args.self.now c.self.view_is c.requires c.self.invariant
    c.store-compact.new.self c.append.new.entries _ c.args.entry.now
    _ _ c.append.ensures c.store-compact.ensures _ _ refl c.outer_in.ensures

pub returns : goal.returns
returns g c =
    seen-appended c.self.inside c.args.self.now c.self.view_is c.requires c.self.invariant
    c.store-compact.new.self c.append.new.entries _ c.args.entry.now
    _ _ c.append.ensures c.store-compact.ensures
