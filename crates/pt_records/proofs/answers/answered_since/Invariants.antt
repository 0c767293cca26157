use Rattle.std.proofs.Common.{◌≤◌, length, drop}
use Rattle.pt_records.proofs.LogParts.{AllSince}
use Rattle.pt_records.proofs.answers.answered_since.Given as goal

abbrev pub invariant-loop-i : goal.invariant-loop-i
invariant-loop-i g l =
    record {
      within : l.i ≤ length l.answers.items;
      rest : AllSince l.place (drop l.i l.answers.items);
    }

abbrev pub decreases-loop-i : goal.decreases-loop-i
decreases-loop-i g l = l.i
