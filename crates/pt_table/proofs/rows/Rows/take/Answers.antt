use Rattle.std.proofs.Common.{sym}
use Rattle.pt_table.proofs.Removed.{taken, without_absent}
use Rattle.pt_table.proofs.rows.Rows.take.Goals as goal

pub returns-in_err-slot-clause-rows : goal.returns-in_err-slot-clause-rows
returns-in_err-slot-clause-rows g c = sym (without_absent _ _ _ (sym c.in_err-slot.ensures.row))

pub returns-clause-numbered : goal.returns-clause-numbered
returns-clause-numbered g c =
    let took = c.try_remove.ensures in
    (taken c.requires c.args.number _ _ _ took.value c.in_ok-slot.ensures.row
    c.in_ok-slot.ensures.found took.slots took.len).0

pub returns-clause-rows : goal.returns-clause-rows
returns-clause-rows g c =
    let took = c.try_remove.ensures in
    (taken c.requires c.args.number _ _ _ took.value c.in_ok-slot.ensures.row
    c.in_ok-slot.ensures.found took.slots took.len).1
