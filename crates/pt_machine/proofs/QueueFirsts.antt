-- QueueFirsts: the first of a queue is the first of the calls that wait there.
use Rattle.std.proofs.Common.{◌≡◌, ℕ, ◌==◌, Bool, true, false, List, Option, Some, None, option_map}
use Rattle.std.proofs.Common.{IfSome, cond, filter, refl, sym, ap, ◌∙◌, subst, arith, eq-eqb}
use Rattle.std.proofs.lemmas.Bool.Decides.{nat_tests}
use Rattle.pt_types.specs.KeyOrder.{goes_before}
use Rattle.pt_types.specs.Limits.{max_priority}
use Rattle.pt_table.specs.declared.clients.ClientRow.{ClientRow}
use Rattle.pt_table.specs.ClientRows.{client_value}
use Rattle.pt_waitq.specs.declared.waiter.Waiter.{Waiter}
use Rattle.pt_waitq.specs.Members.{Members}
use Rattle.pt_waitq.specs.Queues.{In as InQueue, waiter_key, comes_before, head_of}
use Rattle.pt_waitq.proofs.MemberLemmas.{head-in, head-first, head-none}
use Rattle.pt_model.specs.Searches.{In, least}
use Rattle.pt_model.specs.Histories.{History}
use Rattle.pt_model.specs.declared.waiting_call.WaitingCall.{WaitingCall}
use Rattle.pt_model.specs.declared.waiting_call.Move.{Move}
use Rattle.pt_model.specs.WaitingCall.{is_barrier_wait}
use Rattle.pt_model.specs.Answers.{open_calls}
use Rattle.pt_model.specs.Moves.{arrival_by, wait_move, call_key, precedes, wait_object}
use Rattle.pt_model.specs.Steps.{Follows}
use Rattle.pt_model.proofs.Lists.{In-filter, filter-in}
use Rattle.pt_model.proofs.Leasts.{least-in, least-none, none-least}
use Rattle.pt_model.proofs.Orders.{precedes-order, least-first}
use Rattle.pt_records.specs.declared.clients.Caller.{Caller}
use Rattle.pt_records.specs.declared.clients.Open.{Open}
use Rattle.pt_records.specs.Callers.{AreCallers, call_of, open_in, opens_of}
use Rattle.pt_state.specs.Serving.{call_of_open}
use Rattle.pt_records.proofs.OpenRows.{look-row, row-open}
use Rattle.pt_state.proofs.CallerFinds.{call_of-open}
use Rattle.pt_state.proofs.ServingOrders.{precedes-one}
use Rattle.pt_machine.specs.CallQueues.{waiter}
use Rattle.pt_machine.proofs.Membership.{in-list, in-queue}

-- the key of a call is that of its waiter, except at a barrier
call_key-waiter : (h : History) (w : WaitingCall) → is_barrier_wait w.role ≡ false
    → waiter_key (waiter h w) ≡ call_key h w
call_key-waiter h w other =
    ap (λ b. record (waiter_key (waiter h w)) { priority = cond b max_priority w.priority }) other
    ∙ ap (λ a. record (call_key h w) { arrival = a }) (arrives (wait_move h w.place) w.place)
  where
    arrives : (move : Option Move) (j : ℕ) → ((arrival_by move j).0, j) ≡ arrival_by move j
    arrives None j = refl
    arrives (Some v) j = refl

-- a waiter comes before another exactly if its call precedes the other's
pub before-waiter : (h : History) (v w : WaitingCall) → is_barrier_wait v.role ≡ false
    → is_barrier_wait w.role ≡ false → comes_before (waiter h v) (waiter h w) ≡ precedes h v w
before-waiter h v w one other =
    ap (λ k. goes_before k (waiter_key (waiter h w))) (call_key-waiter h v one)
    ∙ ap (goes_before (call_key h v)) (call_key-waiter h w other)

-- an open call that none of these precedes is the least of them
pub least-open : (h : History) → Follows h → (p : WaitingCall → Bool) (w : WaitingCall)
    → In w (open_calls h) → p w ≡ true
    → ((v : WaitingCall) → In v (open_calls h) → p v ≡ true → precedes h v w ≡ false)
    → least (precedes h) (filter p (open_calls h)) ≡ Some w
least-open h f p w i t first = go (least (precedes h) those) refl
  where
    those : List WaitingCall
    those = filter p (open_calls h)

    here : In w those
    here = filter-in p (open_calls h) w i t

    go : (o : Option WaitingCall) → least (precedes h) those ≡ o → o ≡ Some w
    go None e = absurd (least-none (precedes h) those e w here)
    go (Some u) e =
        let j = In-filter p (open_calls h) u (least-in (precedes h) those u e) in
        ap Some (
        precedes-one h f u w j.0 i (first u j.0 j.1)
        (least-first (precedes h) (precedes-order h) those u e w here))

module _ (h : History) (queue : ℕ → List Waiter)
    (m : Members (wait_object h) (waiter h) (open_calls h) queue) (follows : Follows h) (q : ℕ)
    (here : WaitingCall → Bool)
    (agrees : (w : WaitingCall) → In w (open_calls h) → (wait_object h w == q) ≡ here w) where
  -- the waiter of a call that waits there is in the queue
  pub is_waiting : (w : WaitingCall) → In w (open_calls h) → here w ≡ true
      → InQueue (waiter h w) (queue q)
  is_waiting w i t =
      let test : (wait_object h w == q) ≡ true = agrees w i ∙ t in
      let at : wait_object h w ≡ q = grind (arith, nat_tests) in
      subst (λ o. InQueue (waiter h w) (queue o)) at (m.in_queue w (in-queue w (open_calls h) i))

  -- none of the calls there is an arrival
  abbrev ArePlain : Type 0
  ArePlain = (w : WaitingCall) → In w (open_calls h) → here w ≡ true → is_barrier_wait w.role
      ≡ false

  -- the first of the queue is the least of the calls there
  pub first-least : ArePlain → (v : Waiter) → head_of (queue q) ≡ Some v
      → (w : WaitingCall) × (In w (open_calls h) × (v ≡ waiter h w)
      × (least (precedes h) (filter here (open_calls h)) ≡ Some w))
  first-least plain v e =
      let r = m.has_call q v (head-in (queue q) v e) in
      let w = r.0 in
      let i = in-list w (open_calls h) r.1 in
      let waits = sym (agrees w i) ∙ eq-eqb (wait_object h w) q r.2 in
      let first : (u : WaitingCall) → In u (open_calls h) → here u ≡ true
      → precedes h u w ≡ false = λ u j t.
      sym (before-waiter h u w (plain u j t) (plain w i waits))
      ∙ (ap (comes_before (waiter h u)) (sym r.3)
      ∙ head-first (queue q) v (m.in_order q) e (waiter h u) (is_waiting u j t)) in
      (w, (i, r.3, least-open h follows here w i waits first))

  -- the open call of the first waiter's client is the first call there
  pub first-call_of_open : ArePlain → (rows : List (ClientRow Caller)) → AreCallers h rows
      → (first : Option Waiter) (v : Waiter) (found : Option Open)
      → first ≡ head_of (queue q) → first ≡ Some v
      → found ≡ open_in (client_value rows v.client)
      → option_map call_of_open found
      ≡ least (precedes h) (filter here (open_calls h))
  first-call_of_open plain rows a first v found e s t =
      let r = first-least plain v (sym e ∙ s) in
      let own : call_of (open_calls h) v.client ≡ Some r.0 =
      ap (λ (x : Waiter). call_of (open_calls h) x.client) r.1.1
      ∙ call_of-open h follows r.0 r.1.0 in
      ap (option_map call_of_open) t ∙ (a.look.calls v.client ∙ (own ∙ sym r.1.2))

  -- if the queue is empty, no call waits there
  pub none-call_of_open : (first : Option Waiter) → first ≡ head_of (queue q) → first ≡ None
      → None ≡ least (precedes h) (filter here (open_calls h))
  none-call_of_open first e s =
      sym (none-least (precedes h) (filter here (open_calls h)) (λ w i.
      let j = In-filter here (open_calls h) w i in
      head-none (queue q) (sym e ∙ s) (waiter h w) (is_waiting w j.0 j.1)))

-- a client's open call is one of those in the rows
pub found-known : (rows : List (ClientRow Caller)) (c : ℕ) (found : Option Open)
    → found ≡ open_in (client_value rows c) → IfSome found (λ o. In o (opens_of rows))
found-known rows c found e = rw e (kept (client_value rows c) refl)
  where
    opens : (v : Caller) (o : Option Open) → client_value rows c ≡ Some v → v.open ≡ o
        → IfSome o (λ x. In x (opens_of rows))
    opens v None s t = tt
    opens v (Some o) s t =
        let row = look-row rows c v s in
        row-open rows row.0 o row.1.0 (ap (λ (x : Caller). x.open) row.1.2 ∙ t)

    kept : (k : Option Caller) → client_value rows c ≡ k
        → IfSome (open_in k) (λ o. In o (opens_of rows))
    kept None s = tt
    kept (Some v) s = opens v v.open s refl
