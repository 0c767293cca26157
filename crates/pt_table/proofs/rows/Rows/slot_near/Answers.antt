use Rattle.std.proofs.Common.{sym}
use Rattle.pt_table.proofs.Listed.{right_slot}
use Rattle.pt_table.proofs.rows.Rows.slot_near.Goals as goal

pub returns-in-Some : goal.returns-in-Some
returns-in-Some g c =
    let right = right_slot c.requires c.args.number _ _ (sym c.in-Some.ensures) in
    record { row = right.0; found = right.1 }
