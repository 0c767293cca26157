use Rattle.std.proofs.Common.{◌≤◌, length, take}
use Rattle.pt_table.proofs.Relinked.{IsRelinked}
use Rattle.pt_table.proofs.objects.Objects.link_each.Given as goal

abbrev pub invariant-loop-i : goal.invariant-loop-i
invariant-loop-i g l =
    IsRelinked l.fn.self l.self l.fn.numbers (take l.i l.fn.numbers) l.head
    × (l.i ≤ length l.fn.numbers)
