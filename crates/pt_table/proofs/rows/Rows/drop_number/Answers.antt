use Rattle.std.proofs.Common.{◌∙◌, ap}
use Rattle.pt_table.specs.Slots.{rows_listed}
use Rattle.pt_table.proofs.Listed.{number_free}
use Rattle.pt_table.proofs.Packed.{IsNumbered-without, rows_without}
use Rattle.pt_table.proofs.rows.Rows.drop_number.Goals as goal

pub returns-clause-numbered : goal.returns-clause-numbered
returns-clause-numbered g c =
    let n = c.args.number in
    rw c.shift_remove.ensures.entries
    (IsNumbered-without _ _ n (number_free c.requires.numbered n c.requires.gone) _
    c.requires.numbered)

pub returns-clause-rows : goal.returns-clause-rows
returns-clause-rows g c =
    let n = c.args.number in
    let number = g.R.Numbered.its_number in
    let slots = c.args.self.now.rows.slots in
    ap (rows_listed number slots) c.shift_remove.ensures.entries
    ∙ rows_without number slots n (number_free c.requires.numbered n c.requires.gone)
    c.args.self.now.slots.entries
