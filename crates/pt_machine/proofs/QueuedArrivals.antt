-- Queues before the first entry, as clients join and die, as the clock is read, and at a Yield.
use Rattle.std.proofs.Common.{◌≡◌, ℕ, ◌==◌, Bool, true, false, ◌&&◌, ◌||◌, not, cond, List, Option}
use Rattle.std.proofs.Common.{Some, None, is_some, refl, sym, ap, ◌∙◌, subst, arith}
use Rattle.std.proofs.lemmas.Bool.{false≢true}
use Rattle.std.proofs.lemmas.Bool.Decides.{nat_tests}
use Rattle.pt_types.specs.declared.time.Clock.{Clock}
use Rattle.pt_waitq.specs.declared.waiter.Waiter.{Waiter}
use Rattle.pt_waitq.specs.Queues.{QueuesView, is_queued_in, other_waiters}
use Rattle.pt_waitq.specs.Members.{Members}
use Rattle.pt_waitq.specs.Waits.{no_waits, queues_view}
use Rattle.pt_waitq.proofs.MemberLemmas.{members-out}
use Rattle.pt_model.specs.Starts.{empty_start}
use Rattle.pt_model.specs.declared.entry.Entry.TheVariants.{Join, Death, Moment, Yield}
use Rattle.pt_model.specs.Histories.{History, Begin, ◌▷◌, place}
use Rattle.pt_model.specs.Clients.{client_priority}
use Rattle.pt_model.specs.declared.waiting_call.WaitingCall.{WaitingCall}
use Rattle.pt_model.specs.Answers.{open_calls}
use Rattle.pt_model.specs.Moves.{wait_object}
use Rattle.pt_model.specs.Steps.{Follows}
use Rattle.pt_model.proofs.Opens.{open-join, open-moment, open-yield, open-death}
use Rattle.pt_model.proofs.Sound.{Fresh-follows}
use Rattle.pt_machine.specs.CallQueues.{waiter, IsQueued}
use Rattle.pt_machine.proofs.QueuedSame.{members-carry, queued-same}

queued-none : IsQueued (Begin empty_start) (queues_view no_waits)
queued-none =
    record {
      members = record {
        in_order = λ q. tt;
        has_call = λ q v i. absurd i;
        in_queue = λ w i. absurd i;
      };
      admits = λ c. refl;
      makes = λ o. refl;
    }

-- before the first entry there is no call, no room and no queue
pub queued-begin : (h : History) (view : QueuesView) → h ≡ Begin empty_start
    → view ≡ queues_view no_waits → IsQueued h view
queued-begin h view begins empty =
    subst (λ (g : History). IsQueued g view)
    (sym begins)
    (subst (λ (v : QueuesView). IsQueued (Begin empty_start) v) (sym empty) queued-none)

-- a reading of the clock changes no queue
pub queued-moment : (h : History) (z : Clock) (t : ℕ) (view : QueuesView) → IsQueued h view
    → IsQueued (h ▷ Moment z t) view
queued-moment h z t view k =
    queued-same h (Moment z t) view (open-moment h z t) (λ w i. refl) (λ c. refl) (λ o. refl) k

-- nor does a Yield, which changes the state of one mutex alone
pub queued-yield : (h : History) (m : ℕ) (view : QueuesView) → IsQueued h view
    → IsQueued (h ▷ Yield m) view
queued-yield h m view k =
    queued-same h (Yield m) view (open-yield h m) (λ w i. refl) (λ c. refl) (λ o. refl) k

joined_lives : (b : Bool) (p : ℕ) (o : Option ℕ) → (b || is_some o) ≡ is_some (cond b (Some p) o)
joined_lives true p o = refl
joined_lives false p o = refl

-- a client that joins has room for its call, and no call yet
pub queued-join : (h : History) (n p : ℕ) (view view' : QueuesView) → Follows h → n ≡ place h
    → ((q : ℕ) → view'.queue q ≡ view.queue q)
    → ((c : ℕ) → view'.admitted c ≡ ((n == c) || view.admitted c))
    → ((o : ℕ) → view'.is_queue o ≡ view.is_queue o)
    → IsQueued h view → IsQueued (h ▷ Join (place h) p) view'
queued-join h n p view view' f here queues rooms places k =
    record {
      members = members-carry h (h ▷ Join (place h) p) view.queue view'.queue queues
          (open-join h p (Fresh-follows h f)) (λ w i. refl) k.members;
      admits = λ c.
          rooms c ∙ ap (λ m. (m == c) || view.admitted c) here
          ∙ (ap (λ b. (place h == c) || b) (k.admits c)
          ∙ joined_lives (place h == c) p (client_priority h c));
      makes = λ o. places o ∙ k.makes o;
    }

-- there is no room yet for the client that would join next
pub no-room-yet : (h : History) (n : ℕ) (view : QueuesView)
    → Follows h → n ≡ place h → IsQueued h view → view.admitted n ≡ false
no-room-yet h n view f here k =
    k.admits n ∙ ap is_some ((Fresh-follows h f).clients n (omega (arith, here)))

-- a client for which there is no room is in no queue
pub no-room-nowhere : (c : ℕ) (queue queue' : ℕ → List Waiter) (admitted : ℕ → Bool)
    → ((q : ℕ) → is_queued_in c (queue q) ≡ true → admitted c ≡ true) → admitted c ≡ false
    → ((q : ℕ) → queue' q ≡ queue q) → (q : ℕ) → is_queued_in c (queue' q) ≡ false
no-room-nowhere c queue queue' admitted law none same q =
    ap (is_queued_in c) (same q) ∙ go (is_queued_in c (queue q)) refl
  where
    go : (b : Bool) → is_queued_in c (queue q) ≡ b → b ≡ false
    go true e = absurd (false≢true (sym none ∙ law q e))
    go false e = refl

-- making room and giving it back changes nothing
pub room-back : (c : ℕ) (before between after : ℕ → Bool) → before c ≡ false
    → ((d : ℕ) → between d ≡ ((c == d) || before d))
    → ((d : ℕ) → after d ≡ (not (c == d) && between d)) → (d : ℕ) → after d ≡ before d
room-back c before between after none is_queue back d =
    back d ∙ (ap (λ b. not (c == d) && b) (is_queue d) ∙ go (c == d) refl)
  where
    go : (b : Bool) → (c == d) ≡ b → (not b && (b || before d)) ≡ before d
    go true e =
        let same : c ≡ d = grind (arith, nat_tests) in
        sym (ap before (sym same) ∙ none)
    go false e = refl

died_lives : (b : Bool) (o : Option ℕ) → (not b && is_some o) ≡ is_some (cond b None o)
died_lives true o = refl
died_lives false o = refl

-- the death of a client removes its call from the queues, and its room
pub queued-death : (h : History) (c : ℕ) (view view' : QueuesView)
    → ((q : ℕ) → view'.queue q ≡ other_waiters c (view.queue q))
    → ((d : ℕ) → view'.admitted d ≡ (not (c == d) && view.admitted d))
    → ((o : ℕ) → view'.is_queue o ≡ view.is_queue o)
    → IsQueued h view → IsQueued (h ▷ Death c) view'
queued-death h c view view' queues rooms places k =
    record {
      members = subst (λ (ws : List WaitingCall). Members (wait_object h) (waiter h) ws view'.queue)
          (sym (open-death h c))
          (members-out (wait_object h) (waiter h) (open_calls h) c view.queue view'.queue queues
          k.members);
      admits = λ d. rooms d ∙ ap (λ b. not (c == d) && b) (k.admits d)
          ∙ died_lives (c == d) (client_priority h d);
      makes = λ o. places o ∙ k.makes o;
    }
