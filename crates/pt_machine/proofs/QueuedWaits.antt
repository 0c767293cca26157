-- A call that is left waiting takes its place in a queue.
use Rattle.std.proofs.Common.{◌≡◌, ◌⊎◌, inl, inr, ℕ, ◌<◌, ◌==◌, Bool, true, false, cond, List, []}
use Rattle.std.proofs.Common.{◌∷◌, ◌++◌, Option, Some, None, refl, sym}
use Rattle.std.proofs.Common.{ap, ◌∙◌, subst, arith}
use Rattle.std.proofs.lemmas.Bool.Decides.{nat_tests}
use Rattle.std.specs.List.{AllByRecursion as Each}
use Rattle.pt_types.specs.declared.call.Call.{Call as FunctionCall}
use Rattle.pt_types.specs.declared.outcome.Outcome.{Outcome}
use Rattle.pt_types.specs.Operations.{operation, clock_of}
use Rattle.pt_waitq.specs.declared.waiter.Waiter.{Waiter}
use Rattle.pt_waitq.specs.Queues.{QueuesView, is_queued_in, HasLatestArrival, insert_in_order}
use Rattle.pt_waitq.specs.ListLemmas.{any-out}
use Rattle.pt_waitq.proofs.CallerLemmas.{latest-after}
use Rattle.pt_waitq.proofs.MemberLemmas.{members-in}
use Rattle.pt_model.specs.declared.entry.Entry.TheVariants.{Call}
use Rattle.pt_model.specs.Searches.{In}
use Rattle.pt_model.specs.Clients.{client_priority}
use Rattle.pt_model.specs.Histories.{History, ◌▷◌, place}
use Rattle.pt_model.specs.declared.waiting_call.WaitingCall.{WaitingCall}
use Rattle.pt_model.specs.declared.waiting_call.Role.TheVariants.{ForMutex, ForRead, ForWrite}
use Rattle.pt_model.specs.declared.waiting_call.Role.TheVariants.{ForBarrier, ForCond}
use Rattle.pt_model.specs.declared.waiting_call.Role.{Role}
use Rattle.pt_model.specs.declared.waiting_call.Move.{Move}
use Rattle.pt_model.specs.WaitingCall.{waiting_calls_by_operation}
use Rattle.pt_records.specs.declared.clients.Open.{Open}
use Rattle.pt_state.specs.NewWaitingCalls.{IsNewWaitingCall}
use Rattle.pt_model.specs.Answers.{open_calls}
use Rattle.pt_model.specs.Moves.{wait_object, wait_move, wait_object_by}
use Rattle.pt_model.specs.Steps.{Step, Follows}
use Rattle.pt_model.proofs.Lists.{In-append_left, In-append_right, In-append_cases}
use Rattle.pt_model.proofs.Effects.{Effect, Idle, Creates, Removes, Relocks, Frees, Mends, Returns}
use Rattle.pt_model.proofs.Effects.{Wakes, Waits, effect, Allowed}
use Rattle.pt_model.proofs.Allowances.{allowed}
use Rattle.pt_model.proofs.Changes.{left_by}
use Rattle.pt_model.proofs.Readings.{stood-call}
use Rattle.pt_model.proofs.Sound.{Fresh-follows}
use Rattle.pt_model.proofs.Opens.{open-call}
use Rattle.pt_model.proofs.OneEach.{none_of_client}
use Rattle.pt_model.proofs.WaitingOrder.{stands-operation}
use Rattle.pt_state.proofs.StepLemmas.{called}
use Rattle.pt_machine.specs.CallQueues.{queue_priority, waiter, waiter_by, IsQueued, CanEnqueue}
use Rattle.pt_machine.proofs.ArrivalBounds.{waiters-below, arrival-new, object-there}
use Rattle.pt_machine.proofs.OpenPriorities.{open_priority}
use Rattle.pt_machine.proofs.PlaceTakes.{Takes}

-- an effect leaves at most one call waiting
alone : (E : Effect) (w : WaitingCall) → In w (left_by E) → left_by E ≡ w ∷ []
alone (Waits u) w (inl i) = ap (λ (v : WaitingCall). v ∷ []) (sym i)
alone (Waits u) w (inr i) = absurd i
alone Idle w i = absurd i
alone (Creates n kind) w i = absurd i
alone (Removes n s q) w i = absurd i
alone (Relocks m) w i = absurd i
alone (Frees m) w i = absurd i
alone (Mends m) w i = absurd i
alone (Returns r) w i = absurd i
alone (Wakes n all) w i = absurd i

-- a call that was not moved waits at the object that it names
stays : (r : Role) (o : ℕ) → wait_object_by r None o ≡ o
stays ForMutex o = refl
stays ForRead o = refl
stays ForWrite o = refl
stays ForBarrier o = refl
stays (ForCond m) o = refl

-- a call that has just come, and is the only one that the entry leaves waiting
record Came (h : History) (c : ℕ) (call : FunctionCall) : Type 0 where
  waiting : WaitingCall
  stood : In waiting (waiting_calls_by_operation h c (clock_of call) (operation call))
  at : waiting.place ≡ place h
  by : waiting.client ≡ c
  opens : open_calls (h ▷ Call c call None) ≡ open_calls h ++ waiting ∷ []

came : (h : History) → Follows h → (c : ℕ) (call : FunctionCall) → Step h (Call c call None)
    → Came h c call
came h f c call s =
    let has_call = called h c call None s in
    let left = stands-operation h c (clock_of call) (operation call) (sym has_call.replies) in
    let own = subst (λ (ws : List WaitingCall). In left.0 ws) (stood-call h c call None) left.1.0 in
    let may = subst (λ (r : Option Outcome). Allowed h c (effect h c call r)) (sym has_call.replies)
    (allowed h c call) in
    record {
      waiting = left.0;
      stood = left.1.0;
      at = left.1.1.0;
      by = left.1.1.1;
      opens = open-call h c call None (Fresh-follows h f) has_call.alive may
          ∙ ap (λ ws. open_calls h ++ ws) (alone (effect h c call None) left.0 own);
    }

module _ (h : History) (f : Follows h) (c : ℕ) (call : FunctionCall) (s : Step h (Call c call None))
    (view : QueuesView) (k : IsQueued h view) where
  -- the history after the call
  abbrev after : History
  after = h ▷ Call c call None

  new : Came h c call
  new = came h f c call s

  -- it is open
  there : In new.waiting (open_calls after)
  there =
      subst (λ (ws : List WaitingCall). In new.waiting ws) (sym new.opens)
      (In-append_right new.waiting (open_calls h) (new.waiting ∷ []) (inl refl))

  -- its client had no open call before
  nowhere : (q : ℕ) → is_queued_in c (view.queue q) ≡ false
  nowhere q = go (is_queued_in c (view.queue q)) refl
    where
      go : (b : Bool) → is_queued_in c (view.queue q) ≡ b → is_queued_in c (view.queue q) ≡ false
      go false e = e
      go true e =
          let v = any-out (λ (x : Waiter). x.client == c) (view.queue q) e in
          let w = k.members.has_call q v.0 v.1 in
          let test : (v.0.client == c) ≡ true = v.2 in
          let at : v.0.client ≡ c = grind (arith, nat_tests) in
          let own : w.0.client ≡ c = ap (λ (x : Waiter). x.client) (sym w.3) ∙ at in
          absurd (
          none_of_client (open_calls h) c w.0 (called h c call None s).unblocked w.1 own)

  -- all others arrived before
  latest : HasLatestArrival (waiter after new.waiting) (view.queue (wait_object after new.waiting))
  latest =
      latest-after (waiter after new.waiting) (view.queue (wait_object after new.waiting))
      (subst (λ (n : ℕ). Each (λ (v : Waiter). v.moved < n)
      (view.queue (wait_object after new.waiting)))
      (sym (arrival-new h f new.waiting new.at))
      (waiters-below h view.queue f k.members (wait_object after new.waiting)))

  can-stand : CanEnqueue after c view
  can-stand =
      record {
        call = new.waiting;
        «open» = there;
        its = new.by;
        room = k.admits c ∙ (called h c call None s).alive;
        nowhere = nowhere;
        there = k.makes (wait_object after new.waiting)
            ∙ object-there after (f, s) new.waiting there;
        latest = latest;
      }

  -- the call may take its place
  pub can-stand-left : (g : History) → g ≡ h ▷ Call c call None → CanEnqueue g c view
  can-stand-left g e =
      subst (λ (x : History). CanEnqueue x c view) (sym e) can-stand

  -- the queue of each object is unchanged, except the one where the call waits
  abbrev Puts : History → QueuesView → Type 0
  Puts g view' =
      (w : WaitingCall) → In w (open_calls g) → w.client ≡ c → (q : ℕ)
      → view'.queue q
      ≡ cond (wait_object g w == q) (insert_in_order (waiter g w) (view.queue q)) (view.queue q)

  queued : (view' : QueuesView) → Puts after view'
      → ((d : ℕ) → view'.admitted d ≡ view.admitted d) → ((o : ℕ) → view'.is_queue o ≡ view.is_queue o)
      → IsQueued after view'
  queued view' puts admits makes =
      record {
        members = members-in (wait_object after) (waiter after) (open_calls h) (open_calls after)
            new.waiting view.queue view'.queue split there old
            (puts new.waiting there new.by) k.members;
        admits = λ d. admits d ∙ k.admits d;
        makes = λ o. makes o ∙ k.makes o;
      }
    where
      pick : (w : WaitingCall) → In w (open_calls h) ⊎ In w (new.waiting ∷ [])
          → (w ≡ new.waiting) ⊎ In w (open_calls h)
      pick w (inl i) = inr i
      pick w (inr (inl e)) = inl e
      pick w (inr (inr i)) = absurd i

      split : (w : WaitingCall) → In w (open_calls after)
          → (w ≡ new.waiting) ⊎ In w (open_calls h)
      split w i =
          pick w (In-append_cases w (open_calls h) (new.waiting ∷ [])
          (subst (λ (ws : List WaitingCall). In w ws) new.opens i))

      old : (w : WaitingCall) → In w (open_calls h) → In w (open_calls after)
      old w i =
          subst (λ (ws : List WaitingCall). In w ws) (sym new.opens)
          (In-append_left w (open_calls h) (new.waiting ∷ []) i)

  -- after it has taken its place, the queues are those of the open calls
  pub queued-left : (g : History) → g ≡ h ▷ Call c call None → (view' : QueuesView) → Puts g view'
      → ((d : ℕ) → view'.admitted d ≡ view.admitted d) → ((o : ℕ) → view'.is_queue o ≡ view.is_queue o)
      → IsQueued g view'
  queued-left g e view' puts admits makes =
      subst (λ (x : History). Puts x view' → IsQueued x view') (sym e)
      (λ ps. queued view' ps admits makes) puts

  -- the client's open call is the one that has just come
  only-came : (w : WaitingCall) → In w (open_calls after) → w.client ≡ c → w ≡ new.waiting
  only-came w i by =
      pick (In-append_cases w (open_calls h) (new.waiting ∷ [])
      (subst (λ (ws : List WaitingCall). In w ws) new.opens i))
    where
      pick : In w (open_calls h) ⊎ In w (new.waiting ∷ []) → w ≡ new.waiting
      pick (inl j) =
          absurd (none_of_client (open_calls h) c w (called h c call None s).unblocked j by)
      pick (inr (inl e)) = e
      pick (inr (inr e)) = absurd e

  -- a call that is left waiting takes its place at its object, with its client's priority
  pub left-takes : (o : Open) → IsNewWaitingCall h c call o → (g : History) → g
      ≡ h ▷ Call c call None
      → (p : ℕ) (v : Waiter) → client_priority h c ≡ Some p
      → v ≡ record (waiter_by o.moved o.call) { prio = queue_priority o.call.role p }
      → Takes g c o.call.object v
  left-takes o l g e p v prior is_waiting =
      subst (λ (x : History). Takes x c o.call.object v) (sym e) (record {
        seat = λ w i by.
            ap (λ (u : WaitingCall). u.object) (its w i by)
            ∙ sym (ap (λ (m : Option Move). wait_object_by w.role m w.object) (still w i by)
            ∙ stays w.role w.object);
        same = λ w i by.
            is_waiting
            ∙ (ap (λ (m : Option Move). with_priority p m o.call) l.unmoved
            ∙ (ap (λ (u : WaitingCall). with_priority p None u) (its w i by)
            ∙ (ap (λ (k : ℕ). with_priority k None w) (level w i by)
            ∙ ap (λ (m : Option Move). waiter_by m w) (sym (still w i by)))));
      })
    where
      with_priority : ℕ → Option Move → WaitingCall → Waiter
      with_priority k m w = record (waiter_by m w) { prio = queue_priority w.role k }

      one : In new.waiting (o.call ∷ []) → o.call ≡ new.waiting
      one (inl k) = sym k
      one (inr k) = absurd k

      its : (w : WaitingCall) → In w (open_calls after) → w.client ≡ c → o.call ≡ w
      its w i by =
          one (subst (λ (ws : List WaitingCall). In new.waiting ws) l.is_waiting new.stood)
          ∙ sym (only-came w i by)

      still : (w : WaitingCall) → In w (open_calls after) → w.client ≡ c
          → wait_move after w.place ≡ None
      still w i by =
          ap (wait_move h) (ap (λ (u : WaitingCall). u.place) (only-came w i by) ∙ new.at)
          ∙ (Fresh-follows h f).moves (place h) (omega arith)

      level : (w : WaitingCall) → In w (open_calls after) → w.client ≡ c → p ≡ w.priority
      level w i by =
          let here : ◌≡◌ {A = Option ℕ} (Some p) (Some w.priority) =
          sym prior ∙ (ap (client_priority h) (sym by) ∙ open_priority after (f, s) w i) in
          cc
