use Rattle.std.proofs.Common.{◌≤◌, length, drop}
use Rattle.pt_model.specs.Searches.{Each}
use Rattle.pt_hub.specs.Closing.{IsMet}
use Rattle.pt_hub.proofs.honesty.law_all_met.Given as goal

abbrev pub invariant-loop-i : goal.invariant-loop-i
invariant-loop-i g l = (l.i ≤ length l.receipts) × Each (IsMet l.inner) (drop l.i l.receipts)

abbrev pub decreases-loop-i : goal.decreases-loop-i
decreases-loop-i g l = l.i
