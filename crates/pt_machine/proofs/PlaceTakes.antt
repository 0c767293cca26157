-- The open call in a client's row is the call that takes its place in a queue.
use Rattle.std.proofs.Common.{◌≡◌, ℕ, ◌==◌, true, false, cond, List, Option, Some, None, option_map}
use Rattle.std.proofs.Common.{refl, sym, ap, ◌∙◌, subst}
use Rattle.pt_table.specs.declared.clients.ClientRow.{ClientRow}
use Rattle.pt_table.specs.ClientRows.{client_value}
use Rattle.pt_waitq.specs.declared.waiter.Waiter.{Waiter}
use Rattle.pt_waitq.specs.Queues.{QueuesView, is_queued_in, HasLatestArrival, insert_in_order}
use Rattle.pt_model.specs.Histories.{History}
use Rattle.pt_model.specs.Searches.{In}
use Rattle.pt_model.specs.Clients.{client_priority}
use Rattle.pt_model.specs.declared.waiting_call.WaitingCall.{WaitingCall}
use Rattle.pt_model.specs.declared.waiting_call.Move.{Move}
use Rattle.pt_model.specs.Answers.{open_calls}
use Rattle.pt_model.specs.Moves.{wait_move, wait_object_by, wait_object}
use Rattle.pt_model.specs.Steps.{Follows}
use Rattle.pt_records.specs.declared.clients.Caller.{Caller}
use Rattle.pt_records.specs.declared.clients.Open.{Open}
use Rattle.pt_records.specs.Callers.{AreCallers, call_of, open_in, move_in}
use Rattle.pt_records.specs.OpenRows.{object_of}
use Rattle.pt_state.proofs.CallerFinds.{call_of-open}
use Rattle.pt_machine.specs.CallQueues.{queue_priority, waiter, waiter_by, CanEnqueue}
use Rattle.pt_machine.proofs.OpenPriorities.{open_priority}

-- an object and a waiter are those of the client's open call
pub record Takes (h : History) (c object : ℕ) (v : Waiter) : Type 0 where
  pub seat : (w : WaitingCall) → In w (open_calls h) → w.client ≡ c → object ≡ wait_object h w
  pub same : (w : WaitingCall) → In w (open_calls h) → w.client ≡ c → v ≡ waiter h w

-- an open call is its client's first one
first-call : (h : History) → Follows h → (c : ℕ) (w : WaitingCall) → In w (open_calls h)
    → w.client ≡ c → call_of (open_calls h) c ≡ Some w
first-call h f c w i e =
    subst (λ (d : ℕ). call_of (open_calls h) d ≡ Some w) e (call_of-open h f w i)

-- a client with an open call has it in its row
pub row-there :
    (h : History) (rows : List (ClientRow Caller)) → Follows h → AreCallers h rows → (c : ℕ)
    → open_in (client_value rows c) ≡ None → (w : WaitingCall) → In w (open_calls h)
    → w.client ≡ c → ⊥
row-there h rows f a c none w i e =
    let here : ◌≡◌ {A = Option WaitingCall} None (Some w) =
    ap (option_map (λ (o : Open). o.call)) (sym none)
    ∙ (a.look.calls c ∙ first-call h f c w i e) in
    cc

-- its row gives its object, and its waiter with the client's priority
pub takes :
    (h : History) (rows : List (ClientRow Caller)) → Follows h → AreCallers h rows
    → (c object : ℕ) (v : Waiter) (r : Caller) (o : Open)
    → client_value rows c ≡ Some r → r.«open» ≡ Some o → object ≡ object_of o
    → v ≡ record (waiter_by o.moved o.call) { prio = queue_priority o.call.role r.priority }
    → Takes h c object v
takes h rows f a c object v r o kept has at is =
    record {
      seat = λ w i e.
          at
          ∙ (ap (λ (u : WaitingCall). wait_object_by u.role o.moved u.object)
          (call w i e)
          ∙ ap (λ (m : Option Move). wait_object_by w.role m w.object) (move w i e));
      same = λ w i e.
          is
          ∙ (ap (λ (u : WaitingCall). with_priority r.priority o.moved u)
          (call w i e)
          ∙ (ap (λ (m : Option Move). with_priority r.priority m w) (move w i e)
          ∙ ap (λ (k : ℕ). with_priority k (wait_move h w.place) w) (priority w i e)));
    }
  where
    with_priority : ℕ → Option Move → WaitingCall → Waiter
    with_priority k m w = record (waiter_by m w) { prio = queue_priority w.role k }

    row : open_in (client_value rows c) ≡ Some o
    row = ap open_in kept ∙ has

    level : client_priority h c ≡ Some r.priority
    level = sym (a.look.living c) ∙ ap (option_map (λ (x : Caller). x.priority)) kept

    call : (w : WaitingCall) → In w (open_calls h) → w.client ≡ c → o.call ≡ w
    call w i e =
        let here : ◌≡◌ {A = Option WaitingCall} (Some o.call) (Some w) =
        ap (option_map (λ (x : Open). x.call)) (sym row)
        ∙ (a.look.calls c ∙ first-call h f c w i e) in
        cc

    move : (w : WaitingCall) → In w (open_calls h) → w.client ≡ c
        → o.moved ≡ wait_move h w.place
    move w i e =
        let has : move_in (client_value rows c) ≡ o.moved = rw row refl in
        sym has ∙ a.look.moves c w (first-call h f c w i e)

    priority : (w : WaitingCall) → In w (open_calls h) → w.client ≡ c → r.priority ≡ w.priority
    priority w i e =
        let here : ◌≡◌ {A = Option ℕ} (Some r.priority) (Some w.priority) =
        sym level ∙ (ap (client_priority h) (sym e) ∙ open_priority h f w i) in
        cc

module _ {h : History} {c object : ℕ} {v : Waiter} {queues : QueuesView} (s : CanEnqueue h c queues)
    (t : Takes h c object v) where
  -- the waiter is the client's own
  own : v.client ≡ c
  own = ap (λ (x : Waiter). x.client) (t.same s.call s.open s.its) ∙ s.its

  pub take-admitted : queues.admitted v.client ≡ true
  take-admitted = ap queues.admitted own ∙ s.room

  pub take-nowhere : (q : ℕ) → is_queued_in v.client (queues.queue q) ≡ false
  take-nowhere q = ap (λ (d : ℕ). is_queued_in d (queues.queue q)) own ∙ s.nowhere q

  pub take-made : queues.is_queue object ≡ true
  take-made = ap queues.is_queue (t.seat s.call s.open s.its) ∙ s.there

  pub take-latest : HasLatestArrival v (queues.queue object)
  take-latest =
      subst (λ (x : Waiter). HasLatestArrival x (queues.queue object)) (sym
      (t.same s.call s.open s.its))
      (subst (λ (q : ℕ). HasLatestArrival (waiter h s.call) (queues.queue q))
      (sym (t.seat s.call s.open s.its)) s.latest)

-- the queues after it has taken its place
pub take-put :
    (h : History) (c object : ℕ) (v : Waiter) → Takes h c object v
    → (queue queue' : ℕ → List Waiter)
    → ((q : ℕ) → queue' q ≡ cond (object == q) (insert_in_order v (queue q)) (queue q))
    → (w : WaitingCall) → In w (open_calls h) → w.client ≡ c → (q : ℕ)
    → queue' q ≡ cond (wait_object h w == q) (insert_in_order (waiter h w) (queue q)) (queue q)
take-put h c object v t queue queue' f w i e q =
    f q
    ∙ (ap (λ (m : ℕ). cond (m == q) (insert_in_order v (queue q)) (queue q)) (t.seat w i e)
    ∙ ap (λ (x : Waiter). cond (wait_object h w == q) (insert_in_order x (queue q)) (queue q))
    (t.same w i e))
