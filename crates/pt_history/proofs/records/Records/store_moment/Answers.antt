use Rattle.std.proofs.Common.{◌∙◌, refl}
use Rattle.pt_model.specs.declared.entry.Entry.TheVariants.{Moment as MomentEntry}
use Rattle.pt_history.proofs.Calls.{shows-moment}
use Rattle.pt_history.proofs.Absent.{shows-none}
use Rattle.pt_history.proofs.records.Records.store_moment.Goals as goal

pub returns : goal.returns
returns g c =
    let old = c.args.self.now in
    let e = c.push_reserved.ensures in
    shows-moment c.args.base old c.push_reserved.new.self c.args.clock c.args.moment
    c.in_ok-index.index (c.in_ok-index.ensures ∙ c.len.ensures ∙ old.moments.ok.0) e.items e.len
    e.capacity

pub returns-in_err-index : goal.returns-in_err-index
returns-in_err-index g c =
    shows-none c.args.base (MomentEntry c.args.clock c.args.moment) c.args.self.now c.args.self.now
    c.from_residual.result c.from_residual.ensures refl
