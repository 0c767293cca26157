-- Pushes: what pushing an entry asks for, and what it does to the tables and the queues.
use Rattle.std.specs.Prelude.{ℕ, ◌≡◌, Bool, false, Option, Result, OnOk, OnErr, IfErr, IsOk}
use Rattle.pt_types.specs.declared.call.Call.{Call as FunctionCall}
use Rattle.pt_types.specs.declared.outcome.Outcome.{Outcome}
use Rattle.pt_types.specs.declared.outcome.Refusal.{Refusal}
use Rattle.pt_types.specs.declared.outcome.Refusal.TheVariants.{Enomem}
use Rattle.pt_types.specs.Operations.{operation}
use Rattle.pt_waitq.specs.Queues.{QueuesView}
use Rattle.pt_model.specs.declared.entry.Entry.{Entry}
use Rattle.pt_model.specs.declared.entry.Entry.TheVariants.{Call}
use Rattle.pt_state.specs.declared.request.Request.{Request}
use Rattle.pt_state.specs.declared.state.State.{State}
use Rattle.pt_state.specs.Adds.{Adds, HasRoomFor, AddsNothing, history_of}
use Rattle.pt_state.specs.Requests.{IsRequest}
use Rattle.pt_machine.specs.CallQueues.{IsQueued}

module _ {A : Type 0} where
  -- an entry may be pushed: it may follow, and the queues are those of the history
  pub record CanPush (s : State A) (v : QueuesView) (e : Entry) : Type 0 where
    pub ready : HasRoomFor s e
    pub queued : IsQueued (history_of s) v

  -- a call may be pushed with this answer, if any, and these are the objects that its names mean
  pub record CanCall (s : State A) (v : QueuesView) (c : ℕ) (call : FunctionCall)
      (answer : Option Outcome) (r : Request) : Type 0 where
    pub ready : HasRoomFor s (Call c call answer)
    pub has_request : IsRequest (history_of s) (operation call) r
    pub queued : IsQueued (history_of s) v

  -- the entry was pushed, and the queues are those of the history with it
  pub record Pushes (old : State A) (e : Entry) (new : State A) (v : QueuesView) : Type 0 where
    pub adds : Adds old e new
    pub queued : IsQueued (history_of new) v

  -- the entry was pushed, or refused for want of the memory that it needs
  pub record PushesOnOk {X : Type 0} (old : State A) (e : Entry) (needs : Bool)
      (result : Result X Refusal) (new : State A) (v : QueuesView) : Type 0 where
    pub ok : OnOk result (Adds old e new)
    pub err : OnErr result (AddsNothing old new)
    pub reason : IfErr result (λ refusal. refusal ≡ Enomem)
    pub enough : needs ≡ false → IsOk result
    pub queued : IsQueued (history_of new) v
