use Rattle.std.proofs.Common.{refl, sym}
use Rattle.pt_table.proofs.Listed.{no_slot, right_slot}
use Rattle.pt_table.proofs.rows.Rows.slot_by_map.Goals as goal

pub returns-in_err-slot : goal.returns-in_err-slot
returns-in_err-slot g c =
    let none = no_slot c.requires c.args.number _ c.in_err-slot.ensures.value refl in
    rw c.from_residual.ensures (record { row = none.0; found = none.1 })

pub returns-in-Some : goal.returns-in-Some
returns-in-Some g c =
    let right = right_slot c.requires c.args.number _ _ (sym c.in-Some.ensures) in
    record { row = right.0; found = right.1 }

pub returns-in-None : goal.returns-in-None
returns-in-None g c =
    let none =
    no_slot c.requires c.args.number _ c.in_ok-slot.ensures.value (sym c.in-None.ensures) in
    record { row = none.0; found = none.1 }
