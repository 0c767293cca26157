use Rattle.std.proofs.Common.{◌≡◌, ℕ, ◌+◌, ◌*◌, ◌<◌, false, length, take}
use Rattle.std.specs.Prelude.{◌&&◌}
use Rattle.pt_model.specs.Histories.{history}
use Rattle.pt_model.specs.WaitingCall.{call_at_place}
use Rattle.pt_model.specs.Answers.{open_calls}
use Rattle.pt_model.specs.Moves.{wait_move, is_at_cond, precedes_by}
use Rattle.pt_model.specs.Found.{is_some_and}
use Rattle.pt_readings.specs.Found.{unmoved}
use Rattle.pt_readings.proofs.moves.+moves.Given as goal

abbrev pub decreases-moved : goal.decreases-moved
decreases-moved l = 5 * length l.entries.now

abbrev pub decreases-waits_before : goal.decreases-waits_before
decreases-waits_before l = 5 * length l.entries.now + 1

abbrev pub decreases-is_preceded : goal.decreases-is_preceded
decreases-is_preceded l = 5 * length l.entries.now + 2

abbrev pub decreases-is_first_waiting : goal.decreases-is_first_waiting
decreases-is_first_waiting l = 5 * length l.entries.now + 3

abbrev pub decreases-cause_by : goal.decreases-cause_by
decreases-cause_by l = 5 * length l.entries.now + 4

abbrev pub invariant-is_preceded-loop-i : goal.invariant-is_preceded-loop-i
invariant-is_preceded-loop-i l =
    let h = history l.entries in
    (k : ℕ) → k < l.i
    → is_some_and (λ v. is_at_cond h (wait_move h) l.n v && precedes_by unmoved v l.w)
    (call_at_place k (open_calls h))
    ≡ false

abbrev pub invariant-moved-loop-i : goal.invariant-moved-loop-i
invariant-moved-loop-i l =
    l.found ≡ wait_move (history (take l.i l.entries)) l.j
