use Rattle.std.proofs.Common.{length, ap, sym, ◌∙◌}
use Rattle.pt_model.specs.StartRows.{rows_of_start}
use Rattle.pt_history.specs.Stored.{Stored}
use Rattle.pt_history.proofs.Room.{seen-length}
use Rattle.pt_history.proofs.Views.{within-seen}
use Rattle.pt_history.proofs.stored.History.room.Goals as goal

pub returns-clause-within : goal.returns-clause-within
returns-clause-within g c =
    let i = c.self.inside in
    let many = seen-length c.args.self.now
    (rows_of_start i.start) i.start.at i.limit i.room i.records
    i.entries.items c.self.view_is
    in
    within-seen (length c.args.self.now.entries) i.entries.len i.room c.args.self.now.room i.limit
    c.args.self.now.limit (many ∙ sym i.entries.ok.0) (ap (λ (s : Stored). s.room) c.self.view_is)
    (ap (λ (s : Stored). s.limit) c.self.view_is) c.self.invariant.0.fits
