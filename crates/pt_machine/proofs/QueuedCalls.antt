-- Queues after a call that is answered at once: no call comes or goes by it.
use Rattle.std.proofs.Common.{◌≡◌, ℕ, ◌==◌, Bool, true, false, not, cond, ◌&&◌, ◌||◌, List, [], ◌∷◌}
use Rattle.std.proofs.Common.{◌++◌, append-nil, Option, Some, None, is_some, inl, refl, sym, ap}
use Rattle.std.proofs.Common.{◌∙◌, subst, eq-eqb, arith}
use Rattle.std.proofs.lemmas.Bool.{false≢true}
use Rattle.std.proofs.lemmas.Bool.Decides.{nat_tests}
use Rattle.pt_types.specs.declared.call.Call.{Call as FunctionCall}
use Rattle.pt_types.specs.declared.call.ObjectKind.{ObjectKind}
use Rattle.pt_types.specs.declared.outcome.Outcome.{Outcome}
use Rattle.pt_types.specs.declared.outcome.Outcome.TheVariants.{Done, Serial, Eperm, Einval, Ebusy}
use Rattle.pt_types.specs.declared.outcome.Outcome.TheVariants.{Eagain, Edeadlk, Etimedout}
use Rattle.pt_types.specs.declared.outcome.Outcome.TheVariants.{Eownerdead, Enotrecoverable}
use Rattle.pt_types.specs.Operations.{Operation, Inits, Ends, Acquires, Unlocks, Restores}
use Rattle.pt_types.specs.Operations.{Rwunlocks, CondWaits, Signals, Broadcasts, BarrierWaits, operation}
use Rattle.pt_types.specs.Operations.{clock_of}
use Rattle.pt_types.specs.declared.operations.ObjectClass.{ObjectClass}
use Rattle.pt_types.specs.MutexTable.{is_some_number}
use Rattle.pt_waitq.specs.declared.waiter.Waiter.{Waiter}
use Rattle.pt_waitq.specs.Queues.{QueuesView, In, is_queued_in}
use Rattle.pt_waitq.specs.ListLemmas.{any-in}
use Rattle.pt_model.specs.declared.entry.Entry.TheVariants.{Call}
use Rattle.pt_model.specs.Histories.{History, ◌▷◌, place}
use Rattle.pt_model.specs.Objects.{is_class, find_object, kind_by_operation, kind_of}
use Rattle.pt_model.specs.declared.waiting_call.WaitingCall.{WaitingCall}
use Rattle.pt_model.specs.declared.waiting_call.Move.{Move}
use Rattle.pt_model.specs.Answers.{open_calls}
use Rattle.pt_model.specs.Moves.{cause_by_operation, cause_by, move_or, wait_move, wait_object}
use Rattle.pt_model.specs.Verdicts.{has_waiters}
use Rattle.pt_model.specs.Steps.{Step, Follows}
use Rattle.pt_model.proofs.Effects.{Removes, upon, succeeds, act, effect, Allowed}
use Rattle.pt_model.proofs.Allowances.{allowed}
use Rattle.pt_model.proofs.Readings.{stood-call}
use Rattle.pt_model.proofs.Sound.{Fresh-follows}
use Rattle.pt_model.proofs.Opens.{open-call}
use Rattle.pt_model.proofs.Named.{known_exists}
use Rattle.pt_model.proofs.Seats.{unused-at}
use Rattle.pt_state.specs.Calling.{is_done, is_plain}
use Rattle.pt_state.proofs.StepLemmas.{called}
use Rattle.pt_machine.specs.CallQueues.{IsQueued}
use Rattle.pt_machine.proofs.QueuedSame.{members-carry}

-- a call that is answered anything but 0 moves no wait
told-cause : (h : History) (moves : ℕ → Option Move) (c : ℕ) (call : FunctionCall) (x : Outcome) (j : ℕ)
    → is_done x ≡ false → cause_by h moves (Call c call (Some x)) j ≡ None
told-cause h moves c call Done j e = absurd cc
told-cause h moves c call Serial j e = refl
told-cause h moves c call Eperm j e = refl
told-cause h moves c call Einval j e = refl
told-cause h moves c call Ebusy j e = refl
told-cause h moves c call Eagain j e = refl
told-cause h moves c call Edeadlk j e = refl
told-cause h moves c call Etimedout j e = refl
told-cause h moves c call Eownerdead j e = refl
told-cause h moves c call Enotrecoverable j e = refl

-- nor does it make an object or end one
told-kind : (h : History) (c : ℕ) (call : FunctionCall) (x : Outcome) (o : ℕ) → is_done x ≡ false
    → kind_of (h ▷ Call c call (Some x)) o ≡ kind_of h o
told-kind h c call Done o e = absurd cc
told-kind h c call Serial o e = refl
told-kind h c call Eperm o e = refl
told-kind h c call Einval o e = refl
told-kind h c call Ebusy o e = refl
told-kind h c call Eagain o e = refl
told-kind h c call Edeadlk o e = refl
told-kind h c call Etimedout o e = refl
told-kind h c call Eownerdead o e = refl
told-kind h c call Enotrecoverable o e = refl

-- a plain operation moves no wait
plain-cause : (h : History) (moves : ℕ → Option Move) (d : Operation) (j : ℕ) → is_plain d ≡ true
    → cause_by_operation h moves d j ≡ None
plain-cause h moves (Inits n kind) j e = absurd cc
plain-cause h moves (Ends n class) j e = absurd cc
plain-cause h moves (Acquires n lock_kind how) j e = refl
plain-cause h moves (Unlocks n) j e = refl
plain-cause h moves (Restores n) j e = refl
plain-cause h moves (Rwunlocks n) j e = refl
plain-cause h moves (CondWaits n k deadline) j e = refl
plain-cause h moves (Signals n) j e = absurd cc
plain-cause h moves (Broadcasts n) j e = absurd cc
plain-cause h moves (BarrierWaits n) j e = refl

-- nor does it make an object or end one
plain-kind : (h : History) (d : Operation) (before : Option ObjectKind) (o : ℕ) → is_plain d ≡ true
    → kind_by_operation h d before o ≡ before
plain-kind h (Inits n kind) before o e = absurd cc
plain-kind h (Ends n class) before o e = absurd cc
plain-kind h (Acquires n lock_kind how) before o e = refl
plain-kind h (Unlocks n) before o e = refl
plain-kind h (Restores n) before o e = refl
plain-kind h (Rwunlocks n) before o e = refl
plain-kind h (CondWaits n k deadline) before o e = refl
plain-kind h (Signals n) before o e = absurd cc
plain-kind h (Broadcasts n) before o e = absurd cc
plain-kind h (BarrierWaits n) before o e = refl

module _ (h : History) (c : ℕ) (call : FunctionCall) (x : Outcome) (f : Follows h)
    (s : Step h (Call c call (Some x))) where
  -- what it did is what its verdict allows
  pub may-do : Allowed h c (effect h c call (Some x))
  may-do =
      subst (λ (r : Option Outcome). Allowed h c (effect h c call r))
      (sym (called h c call (Some x) s).replies) (allowed h c call)

  -- a call that is answered leaves no call waiting, and takes none away
  pub open-answered : open_calls (h ▷ Call c call (Some x)) ≡ open_calls h
  open-answered =
      open-call h c call (Some x) (Fresh-follows h f) (called h c call (Some x) s).alive may-do
      ∙ (ap (λ ws. open_calls h ++ ws) (sym (stood-call h c call (Some x)))
      ∙ append-nil (open_calls h))

  -- one that moves no wait leaves each queue as it was
  pub queued-answered : (view view' : QueuesView)
      → ((q : ℕ) → view'.queue q ≡ view.queue q) → ((d : ℕ) → view'.admitted d ≡ view.admitted d)
      → ((o : ℕ) → view'.is_queue o ≡ is_some (kind_of (h ▷ Call c call (Some x)) o))
      → ((j : ℕ) → cause_by h (wait_move h) (Call c call (Some x)) j ≡ None)
      → IsQueued h view → IsQueued (h ▷ Call c call (Some x)) view'
  queued-answered view view' queues rooms there still k =
      record {
        members = members-carry h (h ▷ Call c call (Some x)) view.queue view'.queue queues
            open-answered (λ w i. ap (λ u. move_or (place h) u (wait_move h w.place))
            (still w.place))
            k.members;
        admits = λ d. rooms d ∙ k.admits d;
        makes = there;
      }

  -- a call that is answered anything but 0
  pub queued-told : (view : QueuesView) → is_done x ≡ false → IsQueued h view
      → IsQueued (h ▷ Call c call (Some x)) view
  queued-told view other k =
      queued-answered view view (λ q. refl) (λ d. refl)
      (λ o. k.makes o ∙ ap is_some (sym (told-kind h c call x o other)))
      (λ j. told-cause h (wait_move h) c call x j other) k

module _ (h : History) (c : ℕ) (call : FunctionCall) (f : Follows h)
    (s : Step h (Call c call (Some Done))) where
  -- what a call of this operation did is what its verdict allows
  may-do-operation : (d : Operation) → operation call ≡ d → Allowed h c (succeeds h d)
  may-do-operation d e =
      subst (λ (x : Operation). Allowed h c (act h c (clock_of call) x (Some Done))) e
      (may-do h c call Done f s)

  -- a call that makes no object, ends none and wakes no wait
  pub queued-plain : (view : QueuesView) → is_plain (operation call) ≡ true → IsQueued h view
      → IsQueued (h ▷ Call c call (Some Done)) view
  queued-plain view plain k =
      queued-answered h c call Done f s view view (λ q. refl) (λ d. refl)
      (λ o. k.makes o ∙ ap is_some (sym (plain-kind h (operation call) (kind_of h o) o plain)))
      (λ j. plain-cause h (wait_move h) (operation call) j plain) k

  -- an object is made: its number is the place of its call
  pub queued-made : (n : List ℕ) (kind : ObjectKind) → operation call ≡ Inits n kind
      → (view view' : QueuesView)
      → ((q : ℕ) → view'.queue q ≡ view.queue q) → ((d : ℕ) → view'.admitted d ≡ view.admitted d)
      → ((o : ℕ) → view'.is_queue o ≡ ((place h == o) || view.is_queue o))
      → IsQueued h view → IsQueued (h ▷ Call c call (Some Done)) view'
  queued-made n kind e view view' queues rooms there k =
      queued-answered h c call Done f s view view' queues rooms
      (λ o. there o ∙ (ap (λ b. (place h == o) || b) (k.makes o) ∙ (one_more (place h == o)
      (kind_of h o) ∙ ap (λ (d : Operation). is_some (kind_by_operation h d (kind_of h o) o))
      (sym e))))
      (λ j. ap (λ (d : Operation). cause_by_operation h (wait_move h) d j) e) k
    where
      one_more : (b : Bool) (before : Option ObjectKind)
          → (b || is_some before) ≡ is_some (cond b (Some kind) before)
      one_more true before = refl
      one_more false before = refl

  -- a destroy that succeeds ends an object at which no call waits
  pub end-unawaited : (n : List ℕ) (class : ObjectClass) → operation call ≡ Ends n class → (o : ℕ)
      → find_object h n class ≡ Some o → has_waiters h o ≡ false
  end-unawaited n class e o found =
      unused-at h class o
      (subst (λ (x : Option ℕ). Allowed h c (upon x (Removes n class))) found
      (may-do-operation (Ends n class) e)).1

  -- an object is ended, and its queue with it
  pub queued-ended : (n : List ℕ) (class : ObjectClass) → operation call ≡ Ends n class → (q : ℕ)
      → find_object h n class ≡ Some q
      → (view view' : QueuesView)
      → ((o : ℕ) → view'.queue o ≡ view.queue o) → ((d : ℕ) → view'.admitted d ≡ view.admitted d)
      → ((o : ℕ) → view'.is_queue o ≡ (not (q == o) && view.is_queue o))
      → IsQueued h view → IsQueued (h ▷ Call c call (Some Done)) view'
  queued-ended n class e q found view view' queues rooms there k =
      queued-answered h c call Done f s view view' queues rooms
      (λ o. there o ∙ (ap (λ b. not (q == o) && b) (k.makes o) ∙ (one_fewer (q == o) (kind_of h o)
      ∙ (ap (λ x. is_some (cond (is_some_number x o) None (kind_of h o))) (sym found)
      ∙ ap (λ (d : Operation). is_some (kind_by_operation h d (kind_of h o) o)) (sym e)))))
      (λ j. ap (λ (d : Operation). cause_by_operation h (wait_move h) d j) e) k
    where
      one_fewer : (b : Bool) (before : Option ObjectKind)
          → (not b && is_some before) ≡ is_some (cond b None before)
      one_fewer true before = refl
      one_fewer false before = refl

module _ (h : History) (view : QueuesView) (f : Follows h) (k : IsQueued h view) where
  -- no queue has the number of the next place yet
  pub unmade-next : view.is_queue (place h) ≡ false
  unmade-next =
      k.makes (place h)
      ∙ ap is_some ((Fresh-follows h f).kinds (place h) (omega arith))

  -- an object that is found has its queue
  pub made-found : (n : List ℕ) (class : ObjectClass) (o : ℕ) → find_object h n class ≡ Some o
      → view.is_queue o ≡ true
  made-found n class o e = k.makes o ∙ there (kind_of h o) (known_exists h f class o (n, e))
    where
      there : (x : Option ObjectKind) → is_class x class ≡ true → is_some x ≡ true
      there None t = absurd cc
      there (Some kind) t = refl

  -- the queue of an object at which no call waits is empty
  pub unawaited-empty : (o : ℕ) → has_waiters h o ≡ false → view.queue o ≡ []
  unawaited-empty o e = go (view.queue o) refl
    where
      go : (vs : List Waiter) → view.queue o ≡ vs → view.queue o ≡ []
      go [] same = same
      go (v ∷ vs) same =
          let first : In v (v ∷ vs) = inl refl in
          let r = k.members.has_call o v
          (subst (λ (us : List Waiter). In v us) (sym same) first) in
          absurd (false≢true (sym e ∙ any-in (λ (w : WaitingCall). wait_object h w == o)
          (open_calls h) r.0 r.1 (eq-eqb (wait_object h r.0) o r.2)))

-- a queue that was not made is empty
pub unmade-empty : (queue : ℕ → List Waiter) (is_queue : ℕ → Bool)
    → ((c q : ℕ) → is_queued_in c (queue q) ≡ true → is_queue q ≡ true)
    → (o : ℕ) → is_queue o ≡ false → queue o ≡ []
unmade-empty queue is_queue law o e = go (queue o) refl
  where
    go : (vs : List Waiter) → queue o ≡ vs → queue o ≡ []
    go [] same = same
    go (v ∷ vs) same =
        let here : is_queued_in v.client (queue o) ≡ true =
        ap (is_queued_in v.client) same
        ∙ ap (λ b. b || is_queued_in v.client vs) (eq-eqb v.client v.client refl) in
        absurd (false≢true (sym e ∙ law v.client o here))

-- making a queue and removing it again changes nothing
pub made-back : (o : ℕ) (is_queue is_queue' is_queue'' : ℕ → Bool) → is_queue o ≡ false
    → ((q : ℕ) → is_queue' q ≡ ((o == q) || is_queue q))
    → ((q : ℕ) → is_queue'' q ≡ (not (o == q) && is_queue' q)) → (q : ℕ) → is_queue'' q ≡ is_queue q
made-back o is_queue is_queue' is_queue'' new more fewer q =
    fewer q ∙ (ap (λ b. not (o == q) && b) (more q) ∙ go (o == q) refl)
  where
    go : (b : Bool) → (o == q) ≡ b → (not b && (b || is_queue q)) ≡ is_queue q
    go true e =
        let here : o ≡ q = grind (arith, nat_tests) in
        sym (subst (λ (p : ℕ). is_queue p ≡ false) here new)
    go false e = refl
