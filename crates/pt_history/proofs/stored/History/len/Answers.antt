use Rattle.std.proofs.Common.{length, ap, sym, ◌∙◌}
use Rattle.pt_model.specs.StartRows.{rows_of_start}
use Rattle.pt_history.specs.Stored.{Stored}
use Rattle.pt_history.proofs.Room.{seen-length}
use Rattle.pt_history.proofs.Views.{sum-same}
use Rattle.pt_history.proofs.stored.History.len.Goals as goal

pub returns : goal.returns
returns g c =
    let i = c.self.inside in
    sum-same i.start.at c.args.self.now.start.at c.len.result (length c.args.self.now.entries)
    (ap (λ (s : Stored). s.start.at) c.self.view_is)
    (c.len.ensures
    ∙ (i.entries.ok.0
    ∙ sym (seen-length c.args.self.now (rows_of_start i.start) i.start.at i.limit i.room i.records
    i.entries.items c.self.view_is)))
