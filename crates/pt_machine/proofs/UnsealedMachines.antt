-- Queues, deadlines and reserved entries that are right for the seal of a history are right for the
-- history.
use Rattle.std.proofs.Common.{◌≡◌, ℕ, List, None, refl, sym, ap, ◌∙◌, subst}
use Rattle.pt_waitq.specs.Queues.{QueuesView}
use Rattle.pt_types.specs.declared.time.Clock.{Clock}
use Rattle.pt_model.specs.Searches.{In}
use Rattle.pt_model.specs.declared.waiting_call.WaitingCall.{WaitingCall}
use Rattle.pt_model.specs.Histories.{History, Begin}
use Rattle.pt_model.specs.Forced.{forced}
use Rattle.pt_model.specs.Seals.{seal}
use Rattle.pt_model.specs.Steps.{Follows}
use Rattle.pt_model.proofs.Agreeing.{calls-sealed}
use Rattle.pt_model.proofs.Seats.{move-sealed}
use Rattle.pt_history.specs.Stored.{stored_history}
use Rattle.pt_state.specs.declared.state.State.{State}
use Rattle.pt_state.specs.Adds.{history_of}
use Rattle.pt_state.specs.Sealed.{SealsWithRoom}
use Rattle.pt_machine.specs.CallQueues.{IsQueued}
use Rattle.pt_machine.specs.Reserved.{IsReserved}
use Rattle.pt_machine.specs.CallDeadlines.{AreDeadlinesSet}
use Rattle.pt_machine.proofs.QueuedSame.{members-carry}
use Rattle.pt_machine.proofs.SealedMachines.{alike}
use Rattle.pt_machine.proofs.SealedQueues.{set-alike}

-- the queues
pub queued-unsealed : (h : History) (view : QueuesView) → IsQueued (Begin (seal h)) view
    → IsQueued h view
queued-unsealed h view k =
    record {
      members = members-carry (Begin (seal h)) h view.queue view.queue (λ q. refl)
          (sym (calls-sealed h)) (λ w i. sym (move-sealed h w
          (subst (λ (ws : List WaitingCall). In w ws) (calls-sealed h) i))) k.members;
      admits = k.admits;
      makes = k.makes;
    }

-- the deadlines that are set
pub timed-unsealed : (h : History) (timers : List (ℕ × (Clock × ℕ))) → Follows h
    → forced h ≡ None → AreDeadlinesSet (Begin (seal h)) timers → AreDeadlinesSet h timers
timed-unsealed h timers f n t p = t p ∙ sym (set-alike h f n p)

-- as many entries are reserved
pub reserved-unsealed : (h : History) → Follows h → forced h ≡ None → (reserved : ℕ)
    → IsReserved (Begin (seal h)) reserved → IsReserved h reserved
reserved-unsealed h f n reserved r = record { needs = r.needs ∙ sym (alike h f n).needs }

-- the history begins with the seal
pub history_of-renewed : {A : Type 0} (old new : State A) (n : ℕ) → SealsWithRoom old new n
    → history_of new ≡ Begin (seal (history_of old))
history_of-renewed old new n s =
    ap (λ es. stored_history (record new.stored { entries = es })) s.entries ∙ ap Begin s.starts
