use Rattle.std.proofs.Common.{◌≡◌, ℕ, ◌<◌, false}
use Rattle.std.specs.Prelude.{◌&&◌}
use Rattle.pt_types.specs.RwlockTable.{has_lock}
use Rattle.pt_model.specs.Clients.{is_alive}
use Rattle.pt_model.specs.Rwlocks.{rwlock_view}
use Rattle.pt_model.specs.Histories.{history}
use Rattle.pt_readings.proofs.rwlocks.has_living_holder.Given as goal

abbrev pub invariant-loop-i : goal.invariant-loop-i
invariant-loop-i l =
    let h = history l.entries in
    (k : ℕ) → k < l.i → (is_alive h k && has_lock (rwlock_view h l.r k)) ≡ false
