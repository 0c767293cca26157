-- CallDeadlines: the deadlines that are set, as they are read off a history.
use Rattle.std.specs.Prelude.{◌/◌, ◌%◌, option_map, ℕ, ◌≡◌, ◌==◌, Bool, true, false, not, ◌&&◌}
use Rattle.std.specs.Prelude.{List, Option, Some, None, MatchOption, if◌then◌else◌}
use Rattle.std.specs.List.{filter}
use Rattle.pt_types.specs.declared.time.Clock.{Clock}
use Rattle.pt_types.specs.Times.{Timespec, has_invalid_deadline}
use Rattle.pt_types.specs.Operations.{Operation, Acquires, CondWaits, Broadcasts, Signals}
use Rattle.pt_types.specs.Operations.{operation}
use Rattle.pt_types.specs.Operations.{deadline_of}
use Rattle.pt_timers.specs.Deadlines.{deadline_at}
use Rattle.pt_types.specs.Limits.{nanoseconds_per_second}
use Rattle.pt_model.specs.declared.entry.Entry.{Entry}
use Rattle.pt_model.specs.declared.entry.Entry.TheVariants.{Call}
use Rattle.pt_model.specs.Histories.{History, Begin, ◌▷◌, place}
use Rattle.pt_model.specs.declared.waiting_call.WaitingCall.{WaitingCall}
use Rattle.pt_model.specs.declared.waiting_call.Move.{Move}
use Rattle.pt_model.specs.WaitingCall.{calls_below, call_at_place}
use Rattle.pt_model.specs.Answers.{open_calls}
use Rattle.pt_model.specs.Forced.{expires_before, is_overdue}
use Rattle.pt_model.specs.Searches.{least}
use Rattle.pt_model.specs.Moves.{is_moved}
use Rattle.pt_model.specs.Queries.{deadline_if}
use Rattle.pt_records.specs.declared.clients.Open.{Open}
use Rattle.pt_state.specs.Serving.{move_of}

-- the deadline of an operation, if it has one, as the call gave it  [XSH pthread_mutex_timedlock]
abbrev pub operation_deadline : Operation → Option Timespec
operation_deadline (Acquires n lock_kind how) = deadline_of how
operation_deadline (CondWaits n m deadline) = deadline
operation_deadline _ = None

-- what an entry says of the deadline of the call at place j
abbrev pub call_deadline_by : History → Entry → Option Timespec → ℕ → Option Timespec
call_deadline_by h (Call c call reply) before j = if place h == j then operation_deadline
    (operation call) else before
call_deadline_by h _ before j = before

-- a deadline of this many nanoseconds, as a call may have given it  [XBD time.h, struct timespec]
abbrev pub timespec_of : ℕ → Timespec
timespec_of n = record { sec = n / nanoseconds_per_second; nsec = n % nanoseconds_per_second }

-- the deadline of the call at place j, as the call gave it; for an open call of the Start, as it
-- may have been given
abbrev pub call_deadline : History → ℕ → Option Timespec
call_deadline (Begin s) j = option_map timespec_of (deadline_if (call_at_place j
    (calls_below s.call s.at)))
call_deadline (h ▷ e) j = call_deadline_by h e (call_deadline h j) j

-- whether the deadline of an open call can pass: the call was not moved, and its deadline is a time
-- [XSH pthread_mutex_timedlock, EINVAL]
abbrev pub has_timer : History → WaitingCall → Bool
has_timer h w = not (is_moved h w) && not (has_invalid_deadline (call_deadline h w.place))

-- a call's deadline as it is set: its clock and its nanoseconds  [XSH pthread_mutex_clocklock]
abbrev pub timer_of_call : WaitingCall → Option (Clock × ℕ)
timer_of_call w = option_map (λ n. (w.clock, n)) w.deadline

-- the deadline of a call as it is set, if a call was found
abbrev pub timer_of_found : Option WaitingCall → Option (Clock × ℕ)
timer_of_found None = None
timer_of_found (Some w) = timer_of_call w

-- the deadline that is set for the open call at place p, with its clock
abbrev pub timer_at : History → ℕ → Option (Clock × ℕ)
timer_at h p = timer_of_found (call_at_place p (filter (has_timer h) (open_calls h)))

-- the deadlines that are set are those of the open calls  [XSH pthread_mutex_timedlock]
abbrev pub AreDeadlinesSet : History → List (ℕ × (Clock × ℕ)) → Type 0
AreDeadlinesSet h timers = (p : ℕ) → deadline_at timers p ≡ timer_at h p

-- if a deadline is set at the place of a call, it is the call's own  [XSH pthread_mutex_timedlock]
abbrev pub HasOwnDeadline : List (ℕ × (Clock × ℕ)) → WaitingCall → Type 0
HasOwnDeadline timers w =
    (d : Clock × ℕ) → deadline_at timers w.place ≡ Some d → timer_of_call w ≡ Some d

-- the place of the open call with the least deadline that has passed, or none if none has passed
-- [XSH pthread_mutex_timedlock; the order is profile]
abbrev pub IsFirstOverdue : History → Option ℕ → Type 0
IsFirstOverdue h found =
    MatchOption found
    (least expires_before (filter (is_overdue h) (open_calls h)) ≡ None)
    (λ p. (w : WaitingCall)
    × (least expires_before (filter (is_overdue h) (open_calls h)) ≡ Some w)
    × (call_at_place p (open_calls h) ≡ Some w))

-- the deadline if it is a time, or none  [XSH pthread_mutex_timedlock, EINVAL]
abbrev pub valid_deadline : Option Timespec → Option Timespec
valid_deadline d = if has_invalid_deadline d then None else d

-- whether the entry at this place made the move  [XSH pthread_cond_broadcast]
abbrev pub is_from : ℕ → Option Move → Bool
is_from k None = false
is_from k (Some v) = v.at == k

-- whether the entry at this place moved an open call  [XSH pthread_cond_broadcast]
abbrev pub was_moved_at : ℕ → Open → Bool
was_moved_at k o = is_from k (move_of o)

-- whether an operation can move waits  [XSH pthread_cond_broadcast]
abbrev pub can_move_waits : Operation → Bool
can_move_waits (Signals n) = true
can_move_waits (Broadcasts n) = true
can_move_waits _ = false
