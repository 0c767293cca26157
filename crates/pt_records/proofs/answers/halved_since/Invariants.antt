use Rattle.std.proofs.Common.{◌≤◌, ◌-◌, length, take, drop}
use Rattle.pt_records.proofs.LogParts.{AllSince, NoneSince}
use Rattle.pt_records.proofs.answers.halved_since.Given as goal

abbrev pub invariant-loop-low : goal.invariant-loop-low
invariant-loop-low g l =
    record {
      order : l.low ≤ l.high;
      within : l.high ≤ length l.answers.items;
      none : NoneSince l.place (take l.low l.answers.items);
      all : AllSince l.place (drop l.high l.answers.items);
    }

abbrev pub decreases-loop-low : goal.decreases-loop-low
decreases-loop-low g l = l.high - l.low
