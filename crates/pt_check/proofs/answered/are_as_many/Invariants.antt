use Rattle.std.proofs.Common.{◌≡◌, ◌==◌, length}
use Rattle.pt_check.proofs.answered.are_as_many.Given as goal

abbrev pub invariant-loop-due : goal.invariant-loop-due
invariant-loop-due l = (length l.fn.seen == length l.fn.due) ≡ (length l.seen == length l.due)

abbrev pub decreases-loop-due : goal.decreases-loop-due
decreases-loop-due l = length l.due
