-- What a signal and a passed deadline move, and the queues after them.
use Rattle.std.proofs.Common.{◌≡◌, ℕ, Bool, true, false, cond, not, ◌||◌, ◌==◌, List, Option, Some}
use Rattle.std.proofs.Common.{None, is_some, option_map, filter, append-nil, refl, sym, ap, ◌∙◌}
use Rattle.std.proofs.Common.{subst, arith}
use Rattle.std.proofs.lemmas.Bool.Decides.{nat_tests}
use Rattle.pt_types.specs.declared.call.Call.{Call as FunctionCall}
use Rattle.pt_types.specs.declared.outcome.Outcome.{Outcome}
use Rattle.pt_types.specs.declared.outcome.Outcome.TheVariants.{Done}
use Rattle.pt_types.specs.Operations.{Operation, Signals, operation, clock_of}
use Rattle.pt_types.specs.declared.operations.ObjectClass.TheVariants.{Cond as CondClass}
use Rattle.pt_waitq.specs.Queues.{QueuesView, other_waiters, insert_in_order}
use Rattle.pt_model.specs.declared.entry.Entry.{Entry}
use Rattle.pt_model.specs.declared.entry.Entry.TheVariants.{Call, Expire}
use Rattle.pt_model.specs.declared.entry.Cause.{Cause}
use Rattle.pt_model.specs.declared.entry.Cause.TheVariants.{Signalled, Expired}
use Rattle.pt_model.specs.Searches.{In, least}
use Rattle.pt_model.specs.Histories.{History, ◌▷◌, place}
use Rattle.pt_model.specs.Objects.{kind_of, find_object}
use Rattle.pt_model.specs.declared.waiting_call.WaitingCall.{WaitingCall}
use Rattle.pt_model.specs.WaitingCall.{is_cond_wait}
use Rattle.pt_model.specs.Answers.{open_calls}
use Rattle.pt_model.specs.Moves.{precedes_by, precedes, cond_waits, cause_by_expiry, move_or}
use Rattle.pt_model.specs.Moves.{wait_move}
use Rattle.pt_model.specs.Moves.{wait_object}
use Rattle.pt_model.specs.Steps.{Step, Follows}
use Rattle.pt_model.proofs.Lists.{In-filter, filter-all}
use Rattle.pt_model.proofs.Leasts.{least-in}
use Rattle.pt_model.proofs.Effects.{Effect, Wakes, act, effect, Allowed}
use Rattle.pt_model.proofs.Allowances.{allowed}
use Rattle.pt_model.proofs.Changes.{kind_effect, cause_effect}
use Rattle.pt_model.proofs.Readings.{kind-call}
use Rattle.pt_model.proofs.Sound.{Fresh-follows}
use Rattle.pt_model.proofs.Opens.{open-call, open-expire}
use Rattle.pt_model.proofs.Moves.{wait_move-call, wait_move-expire}
use Rattle.pt_state.specs.declared.state.State.{State}
use Rattle.pt_records.specs.declared.clients.Open.{Open}
use Rattle.pt_state.specs.Adds.{history_of, Adds}
use Rattle.pt_state.specs.Serving.{call_of_open, waits_at_cond}
use Rattle.pt_state.proofs.CallerWakes.{wakes-first, wakes-none}
use Rattle.pt_state.proofs.ServingFinds.{waits-named}
use Rattle.pt_state.proofs.StepLemmas.{called}
use Rattle.pt_machine.specs.CallQueues.{waiter, IsQueued, CanEnqueue}
use Rattle.pt_machine.specs.Pushes.{CanPush, Pushes}
use Rattle.pt_machine.proofs.QueuedSame.{history_of-adds, queued-same, queued-adds}
use Rattle.pt_machine.proofs.QueuedMoves.{MovesOne, can-stand-wait_move, queued-wait_move}

module _ (h : History) (c : ℕ) (call : FunctionCall) (n : List ℕ) (f : Follows h)
    (s : Step h (Call c call (Some Done))) (d : operation call ≡ Signals n) where
  -- a signal wakes at most one wait, and does nothing else
  wakes : effect h c call (Some Done) ≡ Wakes n false
  wakes = ap (λ (x : Operation). act h c (clock_of call) x (Some Done)) d

  -- its verdict allows this
  may : Allowed h c (effect h c call (Some Done))
  may =
      subst (λ (r : Option Outcome). Allowed h c (effect h c call r))
      (sym (called h c call (Some Done) s).replies) (allowed h c call)

  -- no call comes or goes by it
  same_calls : open_calls (h ▷ Call c call (Some Done)) ≡ open_calls h
  same_calls =
      open-call h c call (Some Done) (Fresh-follows h f)
      (called h c call (Some Done) s).alive may
      ∙ rw (wakes, append-nil (open_calls h)) refl

  -- no object is made or ended by it
  same_kinds : (o : ℕ) → kind_of (h ▷ Call c call (Some Done)) o ≡ kind_of h o
  same_kinds o =
      kind-call h c call (Some Done) (kind_of h o) o
      ∙ ap (λ (E : Effect). kind_effect (place h) E (kind_of h o) o) wakes

  -- what it moves
  moves_by : (j : ℕ) (x : Option Cause) → cause_effect h (wait_move h) (Wakes n false) j ≡ x
      → wait_move (h ▷ Call c call (Some Done)) j ≡ move_or (place h) x (wait_move h j)
  moves_by j x k =
      wait_move-call h c call (Some Done) j
      ∙ ap (λ (y : Option Cause). move_or (place h) y (wait_move h j))
      (ap (λ (E : Effect). cause_effect h (wait_move h) E j) wakes ∙ k)

  -- it moves the first wait at its condition
  pub moves-first : (u : WaitingCall)
      → Some u ≡ least (precedes_by (wait_move h)) (cond_waits h (wait_move h) n)
      → MovesOne h (Call c call (Some Done)) u
  moves-first u k =
      record {
        has_call = (In-filter _ (open_calls h) u
            (least-in (precedes_by (wait_move h)) (cond_waits h (wait_move h) n) u (sym k))).0;
        cause = Signalled;
        here = let same : (u.place == u.place) ≡ true = grind (arith, nat_tests) in
            moves_by u.place (Some Signalled) (wakes-first h n u (sym k) u.place
            ∙ ap (λ b. cond b (Some Signalled) None) same);
        others = λ w i ne. let apart : (u.place == w.place) ≡ false = grind (arith, nat_tests) in
            moves_by w.place None (wakes-first h n u (sym k) w.place
            ∙ ap (λ b. cond b (Some Signalled) None) apart);
        calls = same_calls;
        lives = λ b. refl;
        kinds = same_kinds;
      }

  -- if there is none, the queues are unchanged
  pub queued-unmoved : (view : QueuesView)
      → least (precedes_by (wait_move h)) (cond_waits h (wait_move h) n) ≡ None → IsQueued h view
      → IsQueued (h ▷ Call c call (Some Done)) view
  queued-unmoved view none k =
      queued-same h (Call c call (Some Done)) view same_calls
      (λ w i. moves_by w.place None (wakes-none h n none w.place))
      (λ b. refl) (λ o. ap is_some (same_kinds o)) k

-- the first wait at a condition, as the rows have it, is the one that a signal wakes
pub first-call_of_open : (h : History) (n : List ℕ) (q : ℕ) (first : Option Open)
    → find_object h n CondClass ≡ Some q
    → option_map call_of_open first ≡ least (precedes h) (filter (waits_at_cond h q) (open_calls h))
    → (found : Option Open) → first ≡ found
    → option_map call_of_open found
    ≡ least (precedes_by (wait_move h)) (cond_waits h (wait_move h) n)
first-call_of_open h n q first e k found is =
    ap (option_map call_of_open) (sym is)
    ∙ (k ∙ ap (least (precedes h)) (sym (waits-named h n q e)))

-- an Expire moves its wait
pub moves-late : (h : History) (u : WaitingCall) → Follows h → In u (open_calls h)
    → is_cond_wait u.role ≡ true → MovesOne h (Expire u.place) u
moves-late h u f i t =
    record {
      has_call = i;
      cause = Expired;
      here = let same : (u.place == u.place) ≡ true = grind (arith, nat_tests) in
          by_test u.place true same;
      others = λ w j ne. let apart : (u.place == w.place) ≡ false = grind (arith, nat_tests) in
          by_test w.place false apart;
      calls = open-expire h u f i
          ∙ (ap (λ b. filter (λ w. b || not (w.place == u.place)) (open_calls h)) t
          ∙ filter-all (λ w. true) (open_calls h) (λ w j. refl));
      lives = λ c. refl;
      kinds = λ o. refl;
    }
  where
    by_test : (j : ℕ) (b : Bool) → (u.place == j) ≡ b
        → wait_move (h ▷ Expire u.place) j
        ≡ move_or (place h) (cause_by_expiry b true) (wait_move h j)
    by_test j b e =
        wait_move-expire h u f i j
        ∙ (ap (λ x. move_or (place h) (cause_by_expiry x (is_cond_wait u.role)) (wait_move h j)) e
        ∙ ap (λ x. move_or (place h) (cause_by_expiry b x) (wait_move h j)) t)

module _ {A : Type 0} {old new : State A} {e : Entry} {view view' : QueuesView} (u : WaitingCall)
    (can : CanPush old view e) (a : Adds old e new) (m : MovesOne (history_of old) e u)
    (left : (q : ℕ) → view'.queue q ≡ other_waiters u.client (view.queue q))
    (room : (c : ℕ) → view'.admitted c ≡ view.admitted c)
    (there : (o : ℕ) → view'.is_queue o ≡ view.is_queue o) where
  -- the call that is moved may take its place in the new state
  pub stands-wait_move : CanEnqueue (history_of new) u.client view'
  stands-wait_move =
      subst (λ (h : History). CanEnqueue h u.client view') (sym (history_of-adds old new e a))
      (can-stand-wait_move (history_of old) e u
      (can.ready.read.follows, can.ready.step) m view view' left
      room there can.queued)

  -- and has taken it, so the queues are right
  pub pushes-taken : {view'' : QueuesView}
      → ((w : WaitingCall) → In w (open_calls (history_of new)) → w.client ≡ u.client → (q : ℕ)
      → view''.queue q
      ≡ cond (wait_object (history_of new) w == q) (insert_in_order (waiter (history_of new) w)
      (view'.queue q))
      (view'.queue q))
      → ((c : ℕ) → view''.admitted c ≡ view'.admitted c)
      → ((o : ℕ) → view''.is_queue o ≡ view'.is_queue o) → Pushes old e new view''
  pushes-taken {view''} taken room' there' =
      record {
        adds = a;
        queued = queued-adds old new e view'' a
            (queued-wait_move (history_of old) e u
            (can.ready.read.follows, can.ready.step) m view view' left
            room there can.queued view'' (put (history_of new)
            (history_of-adds old new e a) taken) room'
            there');
      }
    where
      put : (h : History) → h ≡ history_of old ▷ e
          → ((w : WaitingCall) → In w (open_calls h) → w.client ≡ u.client → (q : ℕ)
          → view''.queue q
          ≡ cond (wait_object h w == q) (insert_in_order (waiter h w) (view'.queue q))
          (view'.queue q))
          → (q : ℕ) → view''.queue q
          ≡ cond (wait_object (history_of old ▷ e) u == q)
          (insert_in_order (waiter (history_of old ▷ e) u) (view'.queue q)) (view'.queue q)
      put h same t q =
          subst (λ (h : History). (w : WaitingCall) → In w (open_calls h) → w.client ≡ u.client
          → (q : ℕ) → view''.queue q
          ≡ cond (wait_object h w == q) (insert_in_order (waiter h w) (view'.queue q))
          (view'.queue q))
          same t u (subst (λ (ws : List WaitingCall). In u ws) (sym m.calls) m.has_call) refl q
