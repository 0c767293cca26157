use Rattle.std.proofs.Common.{◌≡◌, drop}
use Rattle.std.specs.Prelude.{slice_get}
use Rattle.pt_table.specs.Slots.{rows_listed}
use Rattle.pt_table.proofs.rows.Rows.scan.Given as goal

abbrev pub invariant-loop-i : goal.invariant-loop-i
invariant-loop-i g l =
    let number = g.R.Numbered.its_number in
    let slots = l.fn.self.rows.slots in
    slice_get (rows_listed number slots (drop l.i l.fn.self.slots.entries)) l.before
    ≡ slice_get (rows_listed number slots l.fn.self.slots.entries) l.fn.index
