use Rattle.std.proofs.Common.{◌∙◌, ap}
use Rattle.pt_table.specs.Slots.{rows_listed}
use Rattle.pt_table.proofs.Packed.{IsNumbered-packed, rows_packed}
use Rattle.pt_table.proofs.rows.Rows.pack.Goals as goal

pub returns-then-len-clause-numbered : goal.returns-then-len-clause-numbered
returns-then-len-clause-numbered g c = rw c.pack.ensures (IsNumbered-packed _ _ _ c.requires)

pub returns-then-len-clause-rows : goal.returns-then-len-clause-rows
returns-then-len-clause-rows g c =
    let number = g.R.Numbered.its_number in
    let slots = c.args.self.now.rows.slots in
    ap (rows_listed number slots) c.pack.ensures
    ∙ rows_packed number slots c.args.self.now.slots.entries
