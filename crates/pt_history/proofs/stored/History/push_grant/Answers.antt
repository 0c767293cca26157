use Rattle.std.proofs.Common.{Some, refl, arith}
use Rattle.pt_model.specs.declared.entry.Entry.TheVariants.{Grant as GrantEntry}
use Rattle.pt_history.proofs.Growing.{shows-single}
use Rattle.pt_history.proofs.Pushed.{can-append, holds-appended, seen-appended}
use Rattle.pt_history.proofs.stored.History.push_grant.Goals as goal

pub append-requires : goal.append-requires
append-requires g c =
    can-append c.self.inside c.args.self.now c.self.view_is c.requires c.self.invariant

pub invariant_of-self : goal.invariant_of-self
invariant_of-self g c =
    holds-appended c.self.inside c.args.self.now c.self.view_is c.requires c.self.invariant
    c.self.inside.records c.append.new.entries _ (GrantEntry c.args.place c.args.outcome)
    _ _ c.append.ensures (shows-single c.self.inside.base (GrantEntry c.args.place c.args.outcome)
    c.self.inside.records (Some c.in-Some.compact) c.in-Some.ensures) _ 0 (omega arith) refl

pub returns : goal.returns
returns g c =
    seen-appended c.self.inside c.args.self.now c.self.view_is c.requires c.self.invariant
    c.self.inside.records c.append.new.entries _ (GrantEntry c.args.place c.args.outcome)
    _ _ c.append.ensures (shows-single c.self.inside.base (GrantEntry c.args.place c.args.outcome)
    c.self.inside.records (Some c.in-Some.compact) c.in-Some.ensures)
