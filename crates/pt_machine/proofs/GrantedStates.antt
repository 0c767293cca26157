-- GrantedStates: the tables after a call that is granted as it comes, and after its Grant.
use Rattle.std.proofs.Common.{◌≡◌, ℕ, ◌+◌, Bool, true, false, cond, not, List, Option, Some}
use Rattle.std.proofs.Common.{None, is_none, refl, sym, ap, ◌∙◌, subst, eq-eqb, [], ◌∷◌, ◌++◌}
use Rattle.std.proofs.Common.{◌&&◌}
use Rattle.std.specs.Option.{option_or}
use Rattle.pt_model.specs.Answers.{outcome}
use Rattle.std.proofs.lemmas.Bool.{and_parts}
use Rattle.std.specs.Prelude.{IsSome, option_map, unwrap_or}
use Rattle.pt_types.specs.declared.call.Call.{Call as FunctionCall}
use Rattle.pt_types.specs.declared.time.Clock.{Clock}
use Rattle.pt_types.specs.declared.outcome.Outcome.{Outcome}
use Rattle.pt_types.specs.declared.call.ObjectKind.TheVariants.{Rwlock}
use Rattle.pt_types.specs.Operations.{class_needed, class_of}
use Rattle.pt_types.specs.declared.operations.ObjectClass.TheVariants.{Mutex as MutexClass}
use Rattle.pt_types.specs.declared.operations.ObjectClass.TheVariants.{Rwlock as RwlockClass}
use Rattle.pt_model.specs.Objects.{kind_of}
use Rattle.pt_types.specs.declared.operations.LockKind.{LockKind}
use Rattle.pt_types.specs.declared.operations.LockKind.TheVariants.{MutexLock, ReadLock, WriteLock}
use Rattle.pt_rwlock.specs.RwlockState.{RwlockState, has_readers}
use Rattle.pt_table.specs.ClientRows.{client_value}
use Rattle.pt_waitq.specs.Queues.{QueuesView}
use Rattle.pt_model.specs.declared.entry.Entry.TheVariants.{Call, Grant}
use Rattle.pt_model.specs.declared.entry.Event.TheVariants as event
use Rattle.pt_model.specs.declared.waiting_call.WaitingCall.{WaitingCall}
use Rattle.pt_model.specs.Histories.{History, ◌▷◌, place}
use Rattle.pt_model.specs.declared.entry.Entry.{Entry}
use Rattle.pt_model.specs.Searches.{In}
use Rattle.pt_model.specs.WaitingCall.{call_at_place, is_barrier_wait, final_mutex, waiting_calls}
use Rattle.pt_model.specs.Answers.{client_or_zero, is_open_by, open_calls, entry_replies}
use Rattle.pt_model.specs.Forced.{forced, service}
use Rattle.pt_model.specs.Grants.{grant_outcome}
use Rattle.pt_model.specs.Room.{need, reserved_for}
use Rattle.pt_model.specs.Steps.{Follows, Step}
use Rattle.pt_records.specs.declared.clients.Open.{Open}
use Rattle.pt_records.specs.Callers.{call_of, open_in}
use Rattle.pt_records.specs.Counts.{count_if_passed}
use Rattle.pt_records.specs.Objects.{IsRwlock}
use Rattle.pt_state.specs.declared.state.State.{State}
use Rattle.pt_state.specs.Adds.{Adds, HasRoomFor, history_of}
use Rattle.pt_model.proofs.Found.{found as in_stood}
use Rattle.pt_model.specs.Records.{ReplyView}
use Rattle.pt_model.proofs.Lists.{In-filter}
use Rattle.pt_state.specs.Serving.{call_of_open}
use Rattle.pt_state.proofs.CallerFinds.{call_of-open}
use Rattle.pt_state.proofs.GrantLemmas.{read-same}
use Rattle.pt_next_grant.specs.Touched.{service_object_by}
use Rattle.pt_machine.specs.declared.plans.Plan.{Plan}
use Rattle.pt_machine.specs.GrantedAtOnce.{AnswersOne, IsFree, IsFreeLock}
use Rattle.pt_machine.specs.GrantedAtOnce.{IsGrantedAtOnce}
use Rattle.pt_machine.specs.LastTouched.{IsTouched}
use Rattle.pt_machine.specs.Plans.{IsPlanned}
use Rattle.pt_machine.specs.CallQueues.{IsQueued}
use Rattle.pt_machine.specs.Reserved.{IsReserved, gives_owner}
use Rattle.pt_machine.specs.CallDeadlines.{AreDeadlinesSet}
use Rattle.pt_machine.proofs.AnswersAdded.{answers-two}
use Rattle.pt_machine.proofs.SettledGrants.{rests}
use Rattle.pt_machine.proofs.GrantsAtOnce.{after, comes, comes-open, comes-stays, granted, grants}
use Rattle.pt_machine.proofs.GrantsAtOnce.{queued, serves, timed}
use Rattle.pt_machine.proofs.NeedSteps.{reserved-outer}
use Rattle.pt_machine.proofs.NeedUses.{uses-grant}
use Rattle.pt_machine.proofs.QueuedSame.{history_of-adds}

-- a lock is free if its row says so
pub free-lock : (h : History) (k : LockKind) (r : ℕ) (x : RwlockState) → Follows h
    → IsRwlock h r x → IsFreeLock k x → IsFree h k r
free-lock h MutexLock r x f kept e = absurd e
free-lock h ReadLock r x f kept e = sym kept.writer ∙ e
free-lock h WriteLock r x f kept e =
    let parts = and_parts (is_none x.writer) (not (has_readers x)) e in
    (sym kept.writer ∙ nobody x.writer parts.0, sym (read-same h r x f kept) ∙ no parts.1)
  where
    nobody : (w : Option ℕ) → is_none w ≡ true → w ≡ None
    nobody None e = refl
    nobody (Some c) e = absurd cc

    no : {b : Bool} → not b ≡ true → b ≡ false
    no {b = false} e = refl
    no {b = true} e = absurd cc

-- and its row says so if it is free
pub lock-free : (h : History) (k : LockKind) (r : ℕ) (x : RwlockState) → Follows h
    → IsRwlock h r x → kind_of h r ≡ Some Rwlock
    → option_map class_of (kind_of h r) ≡ Some (class_needed k) → IsFree h k r → IsFreeLock k x
lock-free h MutexLock r x f kept kind class e =
    let no : Some RwlockClass ≡ Some MutexClass = sym (ap (option_map class_of) kind) ∙ class in
    absurd cc
lock-free h ReadLock r x f kept kind class e = kept.writer ∙ e
lock-free h WriteLock r x f kept kind class e =
    ap (λ w. is_none w && not (has_readers x)) (kept.writer ∙ e.0)
    ∙ ap not (read-same h r x f kept ∙ e.1)

-- an option is some if its image is some
there : {X Y : Type 0} (f : X → Y) (x : Option X) (y : Y) → option_map f x ≡ Some y → IsSome x
there f None y e = absurd cc
there f (Some x) y e = refl

module _ {A : Type 0} (old mid : State A) (c : ℕ) (call : FunctionCall)
    (ready : HasRoomFor old (Call c call None)) (acquisition : IsGrantedAtOnce (history_of old) c call)
    (a : Adds old (Call c call None) mid)
  where
    -- the history with the call, and the call as it waits
    abbrev h : History
    h = history_of old

    abbrev g : History
    g = after h ready.read.follows c call acquisition ready.step

    abbrev its : WaitingCall
    its = comes h ready.read.follows c call acquisition ready.step

    same : history_of mid ≡ g
    same = history_of-adds old mid (Call c call None) a

    -- its client's row has it
    in_row : (found : Option Open) → found ≡ open_in (client_value mid.clients c)
        → option_map call_of_open found ≡ Some its
    in_row found e =
        ap (option_map call_of_open) e
        ∙ (a.read.callers.look.calls c
        ∙ (ap (λ x. call_of (open_calls x) c) same
        ∙ call_of-open g (ready.read.follows, ready.step) its
        (comes-open h ready.read.follows c call acquisition ready.step)))

    module _ (o : Open) (found : Some o ≡ open_in (client_value mid.clients c)) where
      is_it : call_of_open o ≡ its
      is_it = ap (λ x. unwrap_or x its) (in_row (Some o) found)

      -- it is not an arrival
      pub no-arrival : is_barrier_wait (call_of_open o).role ≡ false
      no-arrival =
          ap (λ (w : WaitingCall). is_barrier_wait w.role) is_it
          ∙ comes-stays h ready.read.follows c call acquisition ready.step

      -- it is open
      is_open : In (call_of_open o) (open_calls (history_of mid))
      is_open =
          subst (λ (w : WaitingCall). In w (open_calls (history_of mid))) (sym is_it)
          (subst (λ (x : History). In its (open_calls x)) (sym same)
          (comes-open h ready.read.follows c call acquisition ready.step))

      serves_it : service (history_of mid) (call_of_open o) ≡ service g its
      serves_it = ap (λ x. service x (call_of_open o)) same ∙ ap (service g) is_it

      -- it must be granted
      pub must-follow : forced (history_of mid) ≡ Some (service (history_of mid) (call_of_open o))
      must-follow =
          ap forced same
          ∙ (serves h ready.read.follows c call acquisition ready.step ∙ ap Some (sym serves_it))

      -- how many reserved entries its Grant uses
      pub uses : HasRoomFor mid (service (history_of mid) (call_of_open o)) → (used : ℕ)
          → used + count_if_passed (gives_owner (history_of mid) (call_of_open o) (final_mutex
          (call_of_open o).role
          (call_of_open o).object))
          ≡ reserved_for (history_of mid) (call_of_open o)
          → need (history_of mid ▷ service (history_of mid) (call_of_open o)) + used
          ≡ need (history_of mid)
      uses next used e =
          uses-grant (history_of mid) (call_of_open o) a.read.follows is_open no-arrival next.step
          used e

      -- after the call, as many entries are reserved as its plan says
      pub reserves : (plan : Plan) → IsPlanned h (event.Call c call) plan
          → IsReserved (history_of mid) plan.need
      reserves plan planned =
          reserved-outer old mid (Call c call None) a plan.need
          (planned.needs ∙ ap (λ e. need (h ▷ e)) acquisition.waits)

      module _ (new : State A) (next : Adds mid (service (history_of mid)
          (call_of_open o)) new) where
        abbrev x : History
        x =
            granted h ready.read.follows c call acquisition ready.step (grant_outcome g its)

        ends : history_of new ≡ x
        ends =
            history_of-adds mid new (service (history_of mid) (call_of_open o)) next
            ∙ (ap (λ e. history_of mid ▷ e)
            (serves_it ∙ grants h ready.read.follows c call acquisition ready.step)
            ∙ ap (λ y. y ▷ Grant (place h) (grant_outcome g its)) same)

        -- nothing must follow its Grant
        pub rests-granted : HasRoomFor mid (service (history_of mid) (call_of_open o))
            → forced (history_of new) ≡ None
        rests-granted r =
            ap forced ends
            ∙ rests h ready.read.follows c call acquisition ready.step
            (subst (λ e. Step g e)
            (serves_it ∙ grants h ready.read.follows c call acquisition ready.step)
            (subst (λ (y : History). Step y (service (history_of mid)
            (call_of_open o))) same r.step))

        -- the call is answered with the outcome of its Grant
        pub told-granted : (y : Outcome) → y ≡ grant_outcome (history_of mid) (call_of_open o)
            → outcome (history_of new) (place h) ≡ Some y
        told-granted y replies =
            ap (λ (k : History). outcome k (place h)) ends
            ∙ (ap (λ b. option_or (cond b (Some (grant_outcome g its)) None) (outcome g (place h)))
            (eq-eqb (place h) (place h) refl)
            ∙ ap Some (sym (replies
            ∙ (ap (λ k. grant_outcome k (call_of_open o)) same ∙ ap (grant_outcome g) is_it))))

        -- no other call is answered
        pub alone-granted : (y : Outcome) → y ≡ grant_outcome (history_of mid) (call_of_open o)
            → AnswersOne new.stored c (place h) y
        alone-granted y replies =
            answers-two old.stored mid.stored new.stored (Call c call None)
            (service (history_of mid) (call_of_open o)) a.stored next.stored
            ∙ (ap (λ (e : Entry). entry_replies g e ++ []) granting
            ∙ ap (λ (w : Option WaitingCall). answer w ∷ []) its_call)
          where
            answer : Option WaitingCall → ReplyView
            answer w = record { client = client_or_zero w; place = place h; outcome = y }

            granting : service (history_of mid) (call_of_open o) ≡ Grant (place h) y
            granting =
                serves_it ∙ grants h ready.read.follows c call acquisition ready.step
                ∙ ap (Grant (place h)) (sym (replies
                ∙ (ap (λ k. grant_outcome k (call_of_open o)) same ∙ ap (grant_outcome g) is_it)))

            its_call : call_at_place (place h) (waiting_calls g) ≡ Some its
            its_call =
                in_stood g (ready.read.follows, ready.step) its
                (In-filter (is_open_by g (outcome g)) (waiting_calls g) its
                (comes-open h ready.read.follows c call acquisition ready.step)).0

        -- the queues are unchanged
        pub queued-granted : (v : QueuesView) → IsQueued h v → IsQueued (history_of new) v
        queued-granted v k =
            subst (λ (y : History). IsQueued y v) (sym ends)
            (queued h ready.read.follows c call acquisition ready.step (grant_outcome g its) v k)

        -- the deadlines that are set are unchanged
        pub timed-granted : (timers : List (ℕ × (Clock × ℕ))) → AreDeadlinesSet h timers
            → AreDeadlinesSet (history_of new) timers
        timed-granted timers t =
            subst (λ (y : History). AreDeadlinesSet y timers) (sym ends)
            (λ p. t p
            ∙ sym (timed h ready.read.follows c call acquisition ready.step (grant_outcome g its) p))

        -- the object touched is the one that the call touched
        pub touched-granted : (plan : Plan) → IsPlanned h (event.Call c call) plan
            → IsTouched (history_of new) plan.touched (Some c)
        touched-granted plan planned =
            subst (λ (y : History). IsTouched y plan.touched (Some c)) (sym ends)
            (record {
              touches = planned.touches ∙ ap (service_object_by h) acquisition.waits;
              enters = refl;
            })
