-- Found: tests and readings of a result that may be absent.
use Rattle.std.specs.Prelude.{ℕ, ◌==◌, Bool, ◌&&◌, Option, Some, None, if◌then◌else◌}
use Rattle.pt_model.specs.Histories.{History}
use Rattle.pt_model.specs.Clients.{is_alive}
use Rattle.pt_model.specs.declared.waiting_call.WaitingCall.{WaitingCall}
use Rattle.pt_model.specs.declared.waiting_call.Move.{Move}
use Rattle.pt_model.specs.WaitingCall.{is_barrier_wait}

-- the call's place if the call is the client's, or else the place already found
abbrev pub place_or : Option WaitingCall → ℕ → Option ℕ → Option ℕ
place_or None c found = found
place_or (Some w) c found = if w.client == c then Some w.place else found

-- whether the call is a living client's arrival at the barrier  [XSH pthread_barrier_wait]
abbrev pub is_alive_at : History → ℕ → WaitingCall → Bool
is_alive_at h b w = (is_barrier_wait w.role && (w.object == b)) && is_alive h w.client

-- the moves when no wait was moved
abbrev pub unmoved : ℕ → Option Move
unmoved j = None
