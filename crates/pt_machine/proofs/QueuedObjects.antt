-- Pushes that make or end an object: the queues before and after them.
use Rattle.std.proofs.Common.{◌≡◌, ℕ, ◌+◌, ◌==◌, true, false, not, ◌&&◌, ◌||◌, List, []}
use Rattle.std.proofs.Common.{length, Some, sym, ap, ◌∙◌}
use Rattle.pt_types.specs.declared.call.Call.{Call as FunctionCall}
use Rattle.pt_types.specs.declared.call.ObjectKind.{ObjectKind}
use Rattle.pt_types.specs.declared.outcome.Outcome.TheVariants.{Done}
use Rattle.pt_types.specs.Operations.{Inits, Ends, operation}
use Rattle.pt_types.specs.declared.operations.ObjectClass.{ObjectClass}
use Rattle.pt_waitq.specs.Queues.{QueuesView, is_queued_in}
use Rattle.pt_model.specs.declared.entry.Entry.TheVariants.{Call}
use Rattle.pt_model.specs.Objects.{find_object}
use Rattle.pt_state.specs.declared.state.State.{State}
use Rattle.pt_state.specs.Adds.{history_of, Adds, AddsNothing}
use Rattle.pt_machine.specs.CallQueues.{IsQueued}
use Rattle.pt_machine.specs.Pushes.{CanPush, Pushes}
use Rattle.pt_machine.proofs.QueuedSame.{queued-kept, queued-adds, queued-stays}
use Rattle.pt_machine.proofs.QueuedCalls.{queued-made, queued-ended, end-unawaited, unmade-next}
use Rattle.pt_machine.proofs.QueuedCalls.{made-found, unawaited-empty, unmade-empty, made-back}
use Rattle.pt_history.proofs.Places.{place_of_next}

module _ {A : Type 0} {s : State A} {view : QueuesView} {c : ℕ} {call : FunctionCall}
    (can : CanPush s view (Call c call (Some Done))) where
  -- no queue has the number of a new object yet
  pub make-unmade : (o : ℕ) → o ≡ s.stored.start.at + length s.stored.entries → view.is_queue o ≡ false
  make-unmade o e =
      ap view.is_queue (e ∙ sym (place_of_next s.stored))
      ∙ unmade-next (history_of s) view can.ready.read.follows can.queued

  -- so the queue is empty when it is made
  pub make-empty : (view' : QueuesView)
      → ((d q : ℕ) → is_queued_in d (view.queue q) ≡ true → view.is_queue q ≡ true) → (o : ℕ)
      → o ≡ s.stored.start.at + length s.stored.entries
      → ((q : ℕ) → view'.queue q ≡ view.queue q) → view'.queue o ≡ []
  make-empty view' law o e queues =
      queues o ∙ unmade-empty view.queue view.is_queue law o (make-unmade o e)

  -- an object was made, with its queue
  pub make-queued : (n : List ℕ) (kind : ObjectKind) → operation call ≡ Inits n kind
      → (new : State A) (view' : QueuesView) (o : ℕ)
      → o ≡ s.stored.start.at + length s.stored.entries
      → ((q : ℕ) → view'.queue q ≡ view.queue q) → ((d : ℕ) → view'.admitted d ≡ view.admitted d)
      → ((q : ℕ) → view'.is_queue q ≡ ((o == q) || view.is_queue q))
      → Adds s (Call c call (Some Done)) new → IsQueued (history_of new) view'
  make-queued n kind d new view' o e queues rooms there a =
      queued-adds s new (Call c call (Some Done)) view' a
      (queued-made (history_of s) c call can.ready.read.follows can.ready.step n kind d view view'
      queues
      rooms (λ q. there q ∙ ap (λ p. (p == q) || view.is_queue q) (e ∙ sym (place_of_next s.stored)))
      can.queued)

  -- the object was not made, and the queue that was made for it is removed again
  pub make-undone : (new : State A) (between view' : QueuesView) (o : ℕ)
      → o ≡ s.stored.start.at + length s.stored.entries
      → ((q : ℕ) → view'.queue q ≡ view.queue q) → ((d : ℕ) → view'.admitted d ≡ view.admitted d)
      → ((q : ℕ) → between.is_queue q ≡ ((o == q) || view.is_queue q))
      → ((q : ℕ) → view'.is_queue q ≡ (not (o == q) && between.is_queue q)) → AddsNothing s new
      → IsQueued (history_of new) view'
  make-undone new between view' o e queues rooms more fewer a =
      queued-stays s new view' a
      (queued-kept (history_of s) view view' queues rooms
      (made-back o view.is_queue between.is_queue view'.is_queue (make-unmade o e) more fewer) can.queued)

  module _ (n : List ℕ) (class : ObjectClass) (o : ℕ) (found : find_object (history_of s) n class
      ≡ Some o) where
    -- an object that is ended has its queue
    pub end-made : view.is_queue o ≡ true
    end-made =
        made-found (history_of s) view can.ready.read.follows can.queued n class o found

    -- which is empty
    pub end-empty : operation call ≡ Ends n class → view.queue o ≡ []
    end-empty d =
        unawaited-empty (history_of s) view can.ready.read.follows can.queued o
        (end-unawaited (history_of s) c call can.ready.read.follows can.ready.step n class d o
        found)

    -- it was ended, and its queue with it
    pub end-pushes : operation call ≡ Ends n class → (new : State A) (view' : QueuesView)
        → ((q : ℕ) → view'.queue q ≡ view.queue q) → ((d : ℕ) → view'.admitted d ≡ view.admitted d)
        → ((q : ℕ) → view'.is_queue q ≡ (not (o == q) && view.is_queue q))
        → Adds s (Call c call (Some Done)) new → Pushes s (Call c call (Some Done)) new view'
    end-pushes d new view' queues rooms there a =
        record {
          adds = a;
          queued = queued-adds s new (Call c call (Some Done)) view' a
              (queued-ended (history_of s) c call can.ready.read.follows can.ready.step n class d o
              found
              view view' queues rooms there can.queued);
        }
