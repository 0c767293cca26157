use Rattle.std.proofs.Common.{◌≡◌, ℕ, ◌+◌, ◌*◌, ◌<◌, false, length, take}
use Rattle.std.specs.Prelude.{nat_lt, ◌==◌, ◌&&◌}
use Rattle.pt_model.specs.WaitingCall.{call_at_place, is_barrier_wait}
use Rattle.pt_model.specs.Found.{is_some_and}
use Rattle.pt_model.specs.Histories.{history}
use Rattle.pt_model.specs.Answers.{outcome, open_calls}
use Rattle.pt_readings.proofs.answers.+answers.Given as goal

abbrev pub decreases-outcome : goal.decreases-outcome
decreases-outcome l = 7 * length l.entries.now

abbrev pub decreases-is_open : goal.decreases-is_open
decreases-is_open l = 7 * length l.entries.now + 1

abbrev pub decreases-is_open_at_barrier : goal.decreases-is_open_at_barrier
decreases-is_open_at_barrier l = 7 * length l.entries.now + 2

abbrev pub decreases-is_later_at_barrier : goal.decreases-is_later_at_barrier
decreases-is_later_at_barrier l = 7 * length l.entries.now + 3

abbrev pub decreases-has_later : goal.decreases-has_later
decreases-has_later l = 7 * length l.entries.now + 4

abbrev pub decreases-answer_in_trip : goal.decreases-answer_in_trip
decreases-answer_in_trip l = 7 * length l.entries.now + 5

abbrev pub decreases-answer_by : goal.decreases-answer_by
decreases-answer_by l = 7 * length l.entries.now + 6

abbrev pub invariant-has_later-loop-i : goal.invariant-has_later-loop-i
invariant-has_later-loop-i l =
    (k : ℕ) → k < l.i
    → is_some_and (λ w. (is_barrier_wait w.role && (w.object == l.b)) && nat_lt l.j w.place)
    (call_at_place k (open_calls (history l.entries)))
    ≡ false

abbrev pub invariant-outcome-loop-i : goal.invariant-outcome-loop-i
invariant-outcome-loop-i l = l.found ≡ outcome (history (take l.i l.entries)) l.j
