use Rattle.std.proofs.Common.{◌-◌, ◌≤◌, length}
use Rattle.pt_rwlock.specs.RowPlaces.{place_in}
use Rattle.pt_rwlock.proofs.rows.count_below.Given as goal

abbrev pub invariant-loop-low : goal.invariant-loop-low
invariant-loop-low l = record {
  within : l.high ≤ length l.rows;
  above_low : l.low ≤ place_in l.rows l.client;
  below_high : place_in l.rows l.client ≤ l.high;
}

abbrev pub decreases-loop-low : goal.decreases-loop-low
decreases-loop-low l = l.high - l.low
