use Rattle.std.proofs.Common.{◌≡◌, ◌+◌, length}
use Rattle.pt_cells.specs.Cells.{AreFirst, Extends}
use Rattle.pt_cells.proofs.celled.fill.Given as goal

abbrev pub invariant-loop-index : goal.invariant-loop-index
invariant-loop-index g l =
    AreFirst (g.C.LegalHistory.seen l.core).entries l.slots.cells
    × Extends l.fn.slots.cells l.slots.cells
    × (length l.slots.cells ≡ l.index)
    × (l.slots.room + length l.slots.cells ≡ l.fn.slots.room + length l.fn.slots.cells)
