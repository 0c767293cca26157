use Rattle.std.proofs.Common.{◌≡◌, ℕ, cond, refl, arith}
use Rattle.pt_model.specs.Histories.{is_forced}
use Rattle.pt_history.specs.Compact.{forced_entry}
use Rattle.pt_history.specs.declared.compact.ForcedEntry.{ForcedEntry}
use Rattle.pt_history.specs.declared.compact.ForcedEntry.TheVariants.{Grant, Trip, Yield, Expire}
use Rattle.pt_history.proofs.Pushed.{can-append, holds-appended, seen-appended}
use Rattle.pt_history.proofs.stored.History.push_forced.Goals as goal

-- a forced entry is no outer entry
none_outer : (f : ForcedEntry) → ◌≡◌ {A = ℕ} 0 (cond (is_forced (forced_entry f)) 0 1)
none_outer (Grant j x) = refl
none_outer (Trip b) = refl
none_outer (Yield m) = refl
none_outer (Expire j) = refl

pub append-requires : goal.append-requires
append-requires g c =
    can-append c.self.inside c.args.self.now c.self.view_is c.requires c.self.invariant

pub invariant_of-self : goal.invariant_of-self
invariant_of-self g c =
    holds-appended c.self.inside c.args.self.now c.self.view_is c.requires c.self.invariant
    c.store_forced-compact.new.self c.append.new.entries _ (forced_entry c.args.forced)
    _ _ c.append.ensures c.store_forced-compact.ensures _ 0 (omega arith) (none_outer c.args.forced)

pub returns : goal.returns
returns g c =
    seen-appended c.self.inside c.args.self.now c.self.view_is c.requires c.self.invariant
    c.store_forced-compact.new.self c.append.new.entries _ (forced_entry c.args.forced)
    _ _ c.append.ensures c.store_forced-compact.ensures
