use Rattle.std.proofs.Common.{◌∙◌, ap}
use Rattle.pt_table.specs.ClientRows.{client_at}
use Rattle.pt_table.proofs.Removed.{not_found}
use Rattle.pt_table.proofs.clients.Clients.remove.Goals as goal

pub drop_number-requires-clause-gone : goal.drop_number-requires-clause-gone
drop_number-requires-clause-gone g c =
    ap (λ rows. client_at rows c.args.number) c.in_ok-row.ensures.rows
    ∙ not_found (λ row. row.number) _ c.args.number
