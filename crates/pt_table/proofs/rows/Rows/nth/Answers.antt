use Rattle.std.proofs.Common.{◌∙◌, arith}
use Rattle.pt_table.proofs.Packed.{nth-listed}
use Rattle.pt_table.proofs.rows.Rows.nth.Goals as goal

pub returns : goal.returns
returns g c =
    c.listed-2.ensures
    ∙ nth-listed g.R.Numbered.its_number c.args.self.now.rows.slots c.args.self.now.slots.entries
    (omega (arith, c.requires.counted, c.len.ensures.len, c.len-2.ensures, c.if-len.false))
    c.args.index
