use Rattle.std.proofs.Common.{◌≡◌, ℕ, ◌<◌, false}
use Rattle.pt_table.specs.ClientRows.{nth_value}
use Rattle.pt_model.specs.Found.{is_some_and}
use Rattle.pt_records.specs.Callers.{open_in}
use Rattle.pt_records.specs.OpenRows.{returns_to}
use Rattle.pt_records.proofs.cond.any_returns.Given as goal

abbrev pub invariant-loop-i : goal.invariant-loop-i
invariant-loop-i g l =
    (k : ℕ) → k < l.i → is_some_and (returns_to l.m) (open_in (nth_value l.clients k)) ≡ false
