-- TouchLaws: the call to serve next waits at the object that was touched last.
use Rattle.std.specs.Prelude.{ℕ, ◌≡◌, ◌⊎◌, Some, None, IsTrue}
use Rattle.pt_model.specs.declared.entry.Entry.{Entry}
use Rattle.pt_model.specs.Searches.{In}
use Rattle.pt_model.specs.Starts.{Start}
use Rattle.pt_model.specs.Histories.{History, Begin, ◌▷◌}
use Rattle.pt_model.specs.declared.waiting_call.WaitingCall.{WaitingCall}
use Rattle.pt_model.specs.Answers.{open_calls}
use Rattle.pt_model.specs.Moves.{wait_object}
use Rattle.pt_model.specs.Forced.{can_be_served, service_if, forced_service, forced}
use Rattle.pt_model.specs.Steps.{Step, IsStart, Follows}
use Rattle.pt_next_grant.specs.Touched.{service_object_by, service_object}
use Rattle.pt_next_grant.specs.Candidates.{served_call, is_read_relock, latest_caller, candidate}
use Rattle.pt_next_grant.specs.Candidates.{candidate_if}

-- a call could be served in h, at the object at which it waits in g
abbrev pub WasServed : History → History → WaitingCall → Type 0
WasServed h g w =
    In w (open_calls h) × (IsTrue (can_be_served h w) × (wait_object h w ≡ wait_object g w))

-- Touched: a call that may be served after an entry waits at the object that the entry touches, or
-- could be served at the same object before the entry.
abbrev pub Touches : Type 0
Touches =
    (h : History) (e : Entry) → Follows h → Step h e → (w : WaitingCall)
    → In w (open_calls (h ▷ e)) → IsTrue (can_be_served (h ▷ e) w)
    → (service_object_by h e ≡ Some (wait_object (h ▷ e) w)) ⊎ WasServed h (h ▷ e) w

-- One object: all calls that may be served wait at the object that is touched.
abbrev pub AreTouched : Type 0
AreTouched =
    (h : History) → Follows h → (w : WaitingCall) → In w (open_calls h) → IsTrue (can_be_served h w)
    → service_object h ≡ Some (wait_object h w)

-- Just come: an open call for a read lock whose client holds one already is the call that came
-- last.
abbrev pub HasJustCome : Type 0
HasJustCome =
    (h : History) → Follows h → (w : WaitingCall) → In w (open_calls h)
    → IsTrue (is_read_relock h w)
    → latest_caller h ≡ Some w.client

-- Candidates: the call that is served at an object is its candidate.
abbrev pub Candidates : Type 0
Candidates = (h : History) → Follows h → (o : ℕ) → served_call h o ≡ candidate h o

-- Service: the Trip or the Grant that must follow serves the candidate of the object that is
-- touched.
abbrev pub ServesTouched : Type 0
ServesTouched =
    (h : History) → Follows h → forced_service h ≡ service_if h (candidate_if h (service_object h))

-- At rest: if no entry must follow, the object that is touched has no candidate.
abbrev pub RestsUntouched : Type 0
RestsUntouched =
    (h : History) → Follows h → forced h ≡ None → candidate_if h (service_object h) ≡ None

-- At a Start: if no entry must follow it, nothing is touched and no call has just come.
abbrev pub BeginsUntouched : Type 0
BeginsUntouched =
    (s : Start) → IsStart s → forced (Begin s) ≡ None
    → (service_object (Begin s) ≡ None) × (latest_caller (Begin s) ≡ None)
