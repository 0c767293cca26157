use Rattle.std.proofs.Common.{◌≡◌, ℕ, ◌<◌, false}
use Rattle.pt_table.specs.ClientRows.{nth_number}
use Rattle.pt_types.specs.RwlockTable.{has_lock}
use Rattle.pt_rwlock.specs.RwlockState.{view_for}
use Rattle.pt_model.specs.Found.{is_some_and}
use Rattle.pt_records.proofs.rwlock.any_holds.Given as goal

abbrev pub invariant-loop-i : goal.invariant-loop-i
invariant-loop-i g l =
    (k : ℕ) → k < l.i
    → is_some_and (λ c. has_lock (view_for l.lock c)) (nth_number l.clients k) ≡ false
