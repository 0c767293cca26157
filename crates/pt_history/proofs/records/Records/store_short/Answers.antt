use Rattle.std.proofs.Common.{sym, subst}
use Rattle.pt_model.specs.declared.entry.Entry.{Entry}
use Rattle.pt_history.specs.Records.{ShowsIfSome}
use Rattle.pt_history.proofs.Growing.{shows-single}
use Rattle.pt_history.proofs.records.Records.store_short.Goals as goal

pub returns-in_default : goal.returns-in_default
returns-in_default g c =
    shows-single _ _ _ _ c.single_entry.ensures

pub returns-in-Call : goal.returns-in-Call
returns-in-Call g c =
    subst (λ (e : Entry). ShowsIfSome c.args.base e c.args.self.now c.store_short_call.new.self
    c.store_short_call.result) (sym c.in-Call.is) c.store_short_call.ensures

pub returns-in-Moment : goal.returns-in-Moment
returns-in-Moment g c =
    subst (λ (e : Entry). ShowsIfSome c.args.base e c.args.self.now c.store_moment.new.self
    c.store_moment.result) (sym c.in-Moment.is) c.store_moment.ensures
