-- One wait is moved: it leaves its condition's queue, and takes its place in its mutex's.
use Rattle.std.proofs.Common.{◌≡◌, ℕ, ◌<◌, Bool, true, false, cond, ◌==◌, List, Option, Some}
use Rattle.std.proofs.Common.{is_some, refl, sym, ap, ◌∙◌, subst, arith}
use Rattle.std.proofs.lemmas.Bool.Decides.{nat_tests}
use Rattle.std.proofs.lemmas.Bool.{false≢true}
use Rattle.std.specs.List.{AllByRecursion as Each}
use Rattle.pt_waitq.specs.declared.waiter.Waiter.{Waiter}
use Rattle.pt_waitq.specs.Queues.{QueuesView, is_queued_in, other_waiters, insert_in_order}
use Rattle.pt_waitq.specs.Members.{Members}
use Rattle.pt_waitq.proofs.MemberLemmas.{members-move}
use Rattle.pt_waitq.proofs.CallerLemmas.{latest-after, other_waiters-stands, other_waiters-each}
use Rattle.pt_model.specs.declared.entry.Entry.{Entry}
use Rattle.pt_model.specs.declared.entry.Cause.{Cause}
use Rattle.pt_model.specs.Searches.{In}
use Rattle.pt_model.specs.Histories.{History, ◌▷◌, place}
use Rattle.pt_model.specs.Clients.{is_alive}
use Rattle.pt_model.specs.Objects.{kind_of}
use Rattle.pt_model.specs.declared.waiting_call.WaitingCall.{WaitingCall}
use Rattle.pt_model.specs.declared.waiting_call.Move.{Move}
use Rattle.pt_model.specs.Answers.{open_calls}
use Rattle.pt_model.specs.Moves.{arrival_by, wait_move, wait_object_by, wait_object}
use Rattle.pt_model.specs.Steps.{Follows}
use Rattle.pt_model.proofs.Found.{one_open, open_alive}
use Rattle.pt_model.proofs.OneEach.{one_each}
use Rattle.pt_machine.specs.CallQueues.{waiter_by, waiter, IsQueued, CanEnqueue}
use Rattle.pt_machine.proofs.ArrivalBounds.{waiters-below, object-there}

-- an entry moves this open call, and changes nothing else on which the queues depend
pub record MovesOne (h : History) (e : Entry) (u : WaitingCall) : Type 0 where
  pub has_call : In u (open_calls h)
  pub cause : Cause
  pub here : wait_move (h ▷ e) u.place ≡ Some (record { at = place h; cause = cause })
  pub others : (w : WaitingCall) → In w (open_calls h) → (w.place == u.place) ≡ false
      → wait_move (h ▷ e) w.place ≡ wait_move h w.place
  pub calls : open_calls (h ▷ e) ≡ open_calls h
  pub lives : (c : ℕ) → is_alive (h ▷ e) c ≡ is_alive h c
  pub kinds : (o : ℕ) → kind_of (h ▷ e) o ≡ kind_of h o

module _ (h : History) (e : Entry) (u : WaitingCall) (f : Follows (h ▷ e)) (m : MovesOne h e u)
    (view view' : QueuesView)
    (left : (q : ℕ) → view'.queue q ≡ other_waiters u.client (view.queue q))
    (room : (c : ℕ) → view'.admitted c ≡ view.admitted c)
    (there : (o : ℕ) → view'.is_queue o ≡ view.is_queue o)
    (k : IsQueued h view) where
  -- each waiter that is left in a queue came there before
  left_before : (q : ℕ) → Each (λ v. v.moved < place h) (view'.queue q)
  left_before q =
      subst (λ (vs : List Waiter). Each (λ v. v.moved < place h) vs) (sym (left q))
      (other_waiters-each (λ (v : Waiter). v.moved < place h) u.client (view.queue q)
      (waiters-below h view.queue f.0 k.members q))

  -- the call that is moved may take its place after it has left its queue
  pub can-stand-wait_move : CanEnqueue (h ▷ e) u.client view'
  can-stand-wait_move =
      record {
        call = u;
        «open» = now_open;
        its = refl;
        room = room u.client ∙ (k.admits u.client ∙ open_alive h u m.has_call);
        nowhere = λ q. ap (is_queued_in u.client) (left q)
            ∙ other_waiters-stands u.client (view.queue q);
        there = there at ∙ (k.makes at
            ∙ (ap is_some (sym (m.kinds at)) ∙ object-there (h ▷ e) f u now_open));
        latest = latest-after (waiter (h ▷ e) u) (view'.queue at)
            (subst (λ (n : ℕ). Each (λ v. v.moved < n) (view'.queue at)) (sym new)
            (left_before at));
      }
    where
      at : ℕ
      at = wait_object (h ▷ e) u

      now_open : In u (open_calls (h ▷ e))
      now_open = subst (λ (ws : List WaitingCall). In u ws) (sym m.calls) m.has_call

      new : (waiter (h ▷ e) u).moved ≡ place h
      new = ap (λ (x : Option Move). (arrival_by x u.place).0) m.here

  -- the move of another client's call is unchanged
  other : (w : WaitingCall) → In w (open_calls h) → (w.client == u.client) ≡ false
      → wait_move (h ▷ e) w.place ≡ wait_move h w.place
  other w i ne = go (w.place == u.place) refl
    where
      go : (b : Bool) → (w.place == u.place) ≡ b → wait_move (h ▷ e) w.place ≡ wait_move h w.place
      go false t = m.others w i t
      go true t =
          let at : w.place ≡ u.place = grind (arith, nat_tests) in
          let own : w.client ≡ u.client =
          ap (λ (v : WaitingCall). v.client) (one_open h f.0 w u i m.has_call at) in
          let same : (w.client == u.client) ≡ true = grind (arith, nat_tests) in
          absurd (false≢true (sym ne ∙ same))

  -- and its client has no other call
  one_client : (w : WaitingCall) → In w (open_calls h) → (w.client == u.client) ≡ true → w ≡ u
  one_client w i t =
      let own : w.client ≡ u.client = grind (arith, nat_tests) in
      one_each h f.0 w u i m.has_call own

  -- after it has taken its place, the queues are those of the history with the entry
  pub queued-wait_move : (view'' : QueuesView)
      → ((q : ℕ) → view''.queue q
      ≡ cond (wait_object (h ▷ e) u == q) (insert_in_order (waiter (h ▷ e) u) (view'.queue q))
      (view'.queue q))
      → ((c : ℕ) → view''.admitted c ≡ view'.admitted c) → ((o : ℕ) → view''.is_queue o ≡ view'.is_queue o)
      → IsQueued (h ▷ e) view''
  queued-wait_move view'' taken room' there' =
      record {
        members = subst
            (λ (ws : List WaitingCall).
            Members (wait_object (h ▷ e)) (waiter (h ▷ e)) ws view''.queue)
            (sym m.calls)
            (members-move (wait_object h) (wait_object (h ▷ e)) (waiter h) (waiter (h ▷ e))
            (open_calls h) u view.queue view''.queue m.has_call one_client
            (λ w i ne. (
              ap (λ (x : Option Move). wait_object_by w.role x w.object) (other w i ne),
              ap (λ (x : Option Move). waiter_by x w) (other w i ne),
            )) put k.members);
        admits = λ c. room' c ∙ (room c ∙ (k.admits c ∙ sym (m.lives c)));
        makes = λ o. there' o ∙ (there o ∙ (k.makes o ∙ ap is_some (sym (m.kinds o))));
      }
    where
      put : (q : ℕ) → view''.queue q
          ≡ cond (wait_object (h ▷ e) u == q)
          (insert_in_order (waiter (h ▷ e) u) (other_waiters u.client (view.queue q)))
          (other_waiters u.client (view.queue q))
      put q =
          taken q ∙ ap (λ (vs : List Waiter). cond (wait_object (h ▷ e) u == q)
          (insert_in_order (waiter (h ▷ e) u) vs) vs) (left q)
