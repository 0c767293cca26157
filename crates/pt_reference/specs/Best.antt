-- Best: the least of a list whose calls are examined one by one, from its end.
use Rattle.std.specs.Prelude.{ℕ, Bool, Option, Some, None}
use Rattle.pt_model.specs.declared.waiting_call.WaitingCall.{WaitingCall}
use Rattle.pt_model.specs.Searches.{least_with}
use Rattle.pt_model.specs.Histories.{History}
use Rattle.pt_model.specs.Verdicts.{mutex_of_wait}
use Rattle.pt_model.specs.Room.{reserved_for}

-- the least of a list, if a call may be added before those whose least is known
abbrev pub best_of :
    (WaitingCall → WaitingCall → Bool) → Option WaitingCall → Option WaitingCall
    → Option WaitingCall
best_of before None best = best
best_of before (Some w) best = least_with before w best

-- the mutex of a wait, if there is such a call, or else the mutex already found
abbrev pub awaited_or : Option WaitingCall → Option ℕ → Option ℕ
awaited_or None found = found
awaited_or (Some w) found = mutex_of_wait w.role

-- the entries reserved for a call, or 0 if there is no call
abbrev pub reserved_of : History → Option WaitingCall → ℕ
reserved_of h None = 0
reserved_of h (Some w) = reserved_for h w
