use Rattle.std.proofs.Common.{sym, ◌∙◌}
use Rattle.pt_model.specs.StartRows.{rows_of_start}
use Rattle.pt_history.proofs.Room.{seen-length}
use Rattle.pt_history.proofs.stored.History.entry_count.Goals as goal

pub returns-clause-value : goal.returns-clause-value
returns-clause-value g c =
    let i = c.self.inside in
    c.len.ensures
    ∙ (i.entries.ok.0
    ∙ sym (seen-length c.args.self.now (rows_of_start i.start) i.start.at i.limit i.room i.records
    i.entries.items c.self.view_is))
