-- Queues that are still right, since nothing on which they depend has changed.
use Rattle.std.proofs.Common.{◌≡◌, ℕ, List, Option, is_some, Result, Ok, Err, OnOk, OnErr}
use Rattle.std.proofs.Common.{refl, sym, ap, ◌∙◌, subst}
use Rattle.pt_waitq.specs.declared.waiter.Waiter.{Waiter}
use Rattle.pt_waitq.specs.Queues.{QueuesView, IsInKeyOrder}
use Rattle.pt_waitq.specs.Members.{Members}
use Rattle.pt_waitq.proofs.MemberLemmas.{members-agree}
use Rattle.pt_model.specs.declared.entry.Entry.{Entry}
use Rattle.pt_model.specs.Searches.{In}
use Rattle.pt_model.specs.Histories.{History, ◌▷◌}
use Rattle.pt_model.specs.Clients.{is_alive}
use Rattle.pt_model.specs.Objects.{kind_of}
use Rattle.pt_model.specs.declared.waiting_call.WaitingCall.{WaitingCall}
use Rattle.pt_model.specs.declared.waiting_call.Move.{Move}
use Rattle.pt_model.specs.Answers.{open_calls}
use Rattle.pt_model.specs.Moves.{wait_move, wait_object_by, wait_object}
use Rattle.pt_types.specs.declared.outcome.Refusal.{Refusal}
use Rattle.pt_history.specs.Stored.{Stored, stored_history}
use Rattle.pt_state.specs.declared.state.State.{State}
use Rattle.pt_state.specs.Adds.{Adds, AddsNothing, history_of}
use Rattle.pt_state.specs.Reads.{AreTables}
use Rattle.pt_machine.specs.CallQueues.{waiter_by, waiter, IsQueued}
use Rattle.pt_history.proofs.Places.{past-pushed}

-- the same queues, list by list
pub members-same : {X : Type 0} (at : X → ℕ) (reading : X → Waiter) (calls : List X)
    (queue queue' : ℕ → List Waiter) → ((q : ℕ) → queue' q ≡ queue q)
    → Members at reading calls queue → Members at reading calls queue'
members-same at reading calls queue queue' same k =
    record {
      in_order = λ q. subst IsInKeyOrder (sym (same q)) (k.in_order q);
      has_call = λ q v i. k.has_call q v (subst (λ (xs : List Waiter). In v xs) (same q) i);
      in_queue = λ w i.
          subst (λ (xs : List Waiter). In (reading w) xs) (sym (same (at w))) (k.in_queue w i);
    }

-- a call whose move is unchanged waits where it did, and as it did
pub stands-same : (h g : History) (w : WaitingCall) → wait_move g w.place ≡ wait_move h w.place
    → (wait_object g w ≡ wait_object h w) × (waiter g w ≡ waiter h w)
stands-same h g w e = (
  ap (λ (v : Option Move). wait_object_by w.role v w.object) e,
  ap (λ (v : Option Move). waiter_by v w) e,
)

-- the same calls, each with the move it had, are in the same queues
pub members-carry : (h g : History) (queue queue' : ℕ → List Waiter)
    → ((q : ℕ) → queue' q ≡ queue q) → open_calls g ≡ open_calls h
    → ((w : WaitingCall) → In w (open_calls h) → wait_move g w.place ≡ wait_move h w.place)
    → Members (wait_object h) (waiter h) (open_calls h) queue
    → Members (wait_object g) (waiter g) (open_calls g) queue'
members-carry h g queue queue' queues calls moves k =
    subst (λ (ws : List WaitingCall). Members (wait_object g) (waiter g) ws queue') (sym calls)
    (members-agree (wait_object h) (wait_object g) (waiter h) (waiter g) (open_calls h) queue'
    (λ w i. stands-same h g w (moves w i))
    (members-same (wait_object h) (waiter h) (open_calls h) queue queue' queues k))

-- one more entry, by which no call comes, goes or is moved, no client comes or goes, and no object
-- is made or removed
pub queued-same : (h : History) (e : Entry) (view : QueuesView)
    → open_calls (h ▷ e) ≡ open_calls h
    → ((w : WaitingCall) → In w (open_calls h) → wait_move (h ▷ e) w.place ≡ wait_move h w.place)
    → ((c : ℕ) → is_alive (h ▷ e) c ≡ is_alive h c)
    → ((o : ℕ) → is_some (kind_of (h ▷ e) o) ≡ is_some (kind_of h o))
    → IsQueued h view → IsQueued (h ▷ e) view
queued-same h e view calls moves lives kinds k =
    record {
      members = members-carry h (h ▷ e) view.queue view.queue (λ q. refl) calls moves k.members;
      admits = λ c. k.admits c ∙ sym (lives c);
      makes = λ o. k.makes o ∙ sym (kinds o);
    }

-- no new entry, and the same queues
pub queued-kept : (h : History) (view view' : QueuesView)
    → ((q : ℕ) → view'.queue q ≡ view.queue q)
    → ((c : ℕ) → view'.admitted c ≡ view.admitted c)
    → ((o : ℕ) → view'.is_queue o ≡ view.is_queue o) → IsQueued h view → IsQueued h view'
queued-kept h view view' queues rooms places k =
    record {
      members = members-same (wait_object h) (waiter h) (open_calls h) view.queue view'.queue queues
          k.members;
      admits = λ c. rooms c ∙ k.admits c;
      makes = λ o. places o ∙ k.makes o;
    }

-- neither making room nor a refusal changes the history
pub history_of-reserved : {T : Type 0} (answer : Result T Refusal) (old new : Stored) (room : ℕ)
    → OnOk answer (new ≡ record old { room = room }) → OnErr answer (new ≡ old)
    → stored_history new ≡ stored_history old
history_of-reserved (Ok v) old new room is_queue same = ap stored_history is_queue
history_of-reserved (Err e) old new room is_queue same = ap stored_history same

module _ {A : Type 0} (old new : State A) where
  -- the history of a state with one more entry
  pub history_of-adds : (e : Entry) → Adds old e new → history_of new ≡ history_of old ▷ e
  history_of-adds e a =
      ap stored_history a.stored ∙ past-pushed old.stored e

  -- and of one to which none was added
  pub history_of-stays : AddsNothing old new → history_of new ≡ history_of old
  history_of-stays s = ap stored_history s.stored

  -- queues that are right for the history with its entry are right for the state that has it
  pub queued-adds : (e : Entry) (view : QueuesView) → Adds old e new
      → IsQueued (history_of old ▷ e) view
      → IsQueued (history_of new) view
  queued-adds e view a k =
      subst (λ (h : History). IsQueued h view) (sym (history_of-adds e a)) k

  pub queued-stays : (view : QueuesView) → AddsNothing old new → IsQueued (history_of old) view
      → IsQueued (history_of new) view
  queued-stays view s k =
      subst (λ (h : History). IsQueued h view) (sym (history_of-stays s)) k

-- nothing was changed
pub stays-same : {A : Type 0} (s : State A) → AreTables s → AddsNothing s s
stays-same s read = record { stored = refl; read = read; has_capacity = refl; replies = refl }
