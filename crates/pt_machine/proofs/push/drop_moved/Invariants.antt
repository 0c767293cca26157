use Rattle.std.proofs.Common.{ℕ, ◌≡◌, take}
use Rattle.pt_timers.specs.Deadlines.{deadline_at}
use Rattle.pt_records.specs.Callers.{opens_of}
use Rattle.pt_machine.proofs.TimerDrops.{dropped}
use Rattle.pt_machine.proofs.push.drop_moved.Given as goal

abbrev pub invariant-loop-i : goal.invariant-loop-i
invariant-loop-i g l =
    (p : ℕ) → deadline_at l.timers p
    ≡ dropped l.place (opens_of (take l.i l.state.clients)) (deadline_at l.fn.timers p) p
