-- Services: what is served first, a barrier's calls or one client's call.
use Rattle.std.specs.Prelude.{◌≡◌, true, false, Option, Some, None}
use Rattle.pt_model.specs.Searches.{In}
use Rattle.pt_model.specs.Histories.{History}
use Rattle.pt_model.specs.declared.waiting_call.WaitingCall.{WaitingCall}
use Rattle.pt_model.specs.WaitingCall.{is_barrier_wait}
use Rattle.pt_model.specs.Answers.{open_calls}
use Rattle.pt_machine.specs.declared.candidates.Service.{Service}
use Rattle.pt_machine.specs.declared.candidates.Service.TheVariants.{Trip, Call}

-- an arrival is served by the Trip of its barrier, and any other call as the open call of its
-- client  [XSH pthread_barrier_wait]
abbrev pub Serves : Service → WaitingCall → Type 0
Serves (Trip b) w = (is_barrier_wait w.role ≡ true) × (w.object ≡ b)
Serves (Call c) w = (is_barrier_wait w.role ≡ false) × (w.client ≡ c)

-- how the call that is served first is served, if there is one
abbrev pub IsService : History → Option WaitingCall → Option Service → Type 0
IsService h first None = first ≡ None
IsService h first (Some s) =
    (w : WaitingCall) × ((first ≡ Some w) × (In w (open_calls h) × Serves s w))
