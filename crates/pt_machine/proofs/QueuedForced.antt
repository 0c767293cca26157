-- The queues of a state after a forced entry.
use Rattle.std.proofs.Common.{◌≡◌, ℕ, false, cond, ap, subst}
use Rattle.pt_waitq.specs.Queues.{QueuesView, other_waiters}
use Rattle.pt_model.specs.declared.entry.Entry.{Entry}
use Rattle.pt_model.specs.declared.entry.Entry.TheVariants.{Grant, Trip, Expire}
use Rattle.pt_model.specs.Searches.{In}
use Rattle.pt_model.specs.WaitingCall.{is_barrier_wait, is_cond_wait}
use Rattle.pt_model.specs.Answers.{open_calls}
use Rattle.pt_model.specs.Grants.{grant_outcome}
use Rattle.pt_model.specs.Forced.{service}
use Rattle.pt_records.specs.declared.clients.Open.{Open}
use Rattle.pt_state.specs.declared.state.State.{State}
use Rattle.pt_state.specs.Adds.{history_of, Adds}
use Rattle.pt_records.specs.Callers.{opens_of}
use Rattle.pt_state.specs.Reads.{AreTables}
use Rattle.pt_state.specs.Serving.{call_of_open}
use Rattle.pt_state.proofs.ServingFinds.{are-open}
use Rattle.pt_machine.specs.CallQueues.{IsQueued}
use Rattle.pt_machine.specs.Pushes.{CanPush}
use Rattle.pt_machine.proofs.QueuedSame.{queued-adds}
use Rattle.pt_machine.proofs.QueuedOut.{queued-grant, queued-expire}

-- the call that was found is open
open_call : {A : Type 0} (s : State A) (o : Open) → AreTables s → In o (opens_of s.clients)
    → In (call_of_open o) (open_calls (history_of s))
open_call s o read has_call =
    ((are-open (history_of s) s.clients read.follows read.callers).has_call o has_call).0

module _ {A : Type 0} {old new : State A} {e : Entry} {view view' : QueuesView} (o : Open)
    (can : CanPush old view e) (has_call : In o (opens_of old.clients))
    (room : (c : ℕ) → view'.admitted c ≡ view.admitted c)
    (there : (q : ℕ) → view'.is_queue q ≡ view.is_queue q)
    (gone : (q : ℕ) → view'.queue q ≡ other_waiters o.call.client (view.queue q)) where
  -- a call was granted
  pub queued-granted : Adds old (service (history_of old) (call_of_open o)) new
      → is_barrier_wait (call_of_open o).role ≡ false → IsQueued (history_of new) view'
  queued-granted a other =
      queued-adds old new (Grant o.call.place (grant_outcome (history_of old)
      (call_of_open o))) view'
      (subst (λ e. Adds old e new)
      (ap (λ b. cond b (Trip o.call.object)
      (Grant o.call.place (grant_outcome (history_of old) (call_of_open o)))) other) a)
      (queued-grant (history_of old) (grant_outcome (history_of old) (call_of_open o))
      (call_of_open o) view view'
      can.ready.read.follows (open_call old o can.ready.read has_call) gone room there can.queued)

  -- a call that is not a wait expired
  pub queued-late : Adds old (Expire o.call.place) new → is_cond_wait (call_of_open o).role ≡ false
      → IsQueued (history_of new) view'
  queued-late a other =
      queued-adds old new (Expire o.call.place) view' a
      (queued-expire (history_of old) (call_of_open o) view view' can.ready.read.follows
      (open_call old o can.ready.read has_call) other gone room there can.queued)
