use Rattle.pt_table.proofs.Added.{IsNumbered-added, rows_listed-added}
use Rattle.pt_table.proofs.rows.Rows.put.Goals as goal

pub returns-clause-numbered : goal.returns-clause-numbered
returns-clause-numbered g c =
    let put = c.insert_reserved-slot.ensures in
    rw (c.list.ensures, c.number-number.ensures)
    (IsNumbered-added _ c.args.row _ c.requires.numbered put.was_vacant put.updates.changed
    put.updates.others c.requires.new put.len)

pub returns-clause-rows : goal.returns-clause-rows
returns-clause-rows g c =
    let put = c.insert_reserved-slot.ensures in
    rw (c.list.ensures, c.number-number.ensures)
    (rows_listed-added _ c.args.row _ c.requires.numbered put.was_vacant put.updates.changed
    put.updates.others c.requires.new put.len)
