-- SettledCallLemmas: nothing must follow a call that gives nothing back, or one for a lock that is held.
use Rattle.std.proofs.Common.{◌≡◌, ℕ, Bool, true, false, cond, not, ◌||◌, ◌&&◌, ◌==◌, List, []}
use Rattle.std.proofs.Common.{◌∷◌, ◌++◌, Option, Some, None, is_some, is_none, refl, sym, ap}
use Rattle.std.proofs.Common.{◌∙◌, subst, append-nil, inl, inr, ◌⊎◌, length}
use Rattle.std.proofs.lemmas.Bool.{false≢true}
use Rattle.std.proofs.lemmas.List.Elements.{filter-append}
use Rattle.std.specs.Prelude.{option_map, unwrap_or}
use Rattle.pt_types.specs.declared.call.Call.{Call as FunctionCall}
use Rattle.pt_types.specs.declared.call.How.{How}
use Rattle.pt_types.specs.declared.call.How.TheVariants.{Plain, Timed, Try}
use Rattle.pt_types.specs.declared.call.ObjectKind.{ObjectKind}
use Rattle.pt_types.specs.declared.call.ObjectKind.TheVariants as kind_is
use Rattle.pt_types.specs.declared.operations.LockKind.{LockKind}
use Rattle.pt_types.specs.declared.operations.LockKind.TheVariants.{MutexLock, ReadLock, WriteLock}
use Rattle.pt_types.specs.declared.outcome.Outcome.{Outcome}
use Rattle.pt_types.specs.MutexTable.{is_not_recoverable}
use Rattle.pt_types.specs.Operations.{Operation, class_needed, class_of, clock_of, operation}
use Rattle.pt_types.specs.Operations.{Acquires, BarrierWaits, CondWaits, Broadcasts, Ends, Inits, Restores}
use Rattle.pt_types.specs.Operations.{Rwunlocks, Signals, Unlocks}
use Rattle.pt_types.specs.Tables.{reply}
use Rattle.pt_model.specs.declared.entry.Entry.TheVariants.{Call}
use Rattle.pt_model.specs.declared.entry.Event.{Event}
use Rattle.pt_model.specs.declared.entry.Event.TheVariants as event
use Rattle.pt_model.specs.declared.waiting_call.WaitingCall.{WaitingCall}
use Rattle.pt_model.specs.Answers.{at_barrier, open_calls}
use Rattle.pt_model.specs.Forced.{forced}
use Rattle.pt_model.specs.Forced.{can_be_served}
use Rattle.pt_model.specs.Grants.{is_at_full_barrier, is_grantable_as}
use Rattle.pt_model.specs.Histories.{History, ◌▷◌, place}
use Rattle.pt_model.specs.Moves.{wait_object, is_least, wait_move, precedes}
use Rattle.pt_model.specs.Moves.{waiting_at}
use Rattle.pt_model.specs.Mutexes.{consistency, consistency_by_operation, mutex_count, frees, owner}
use Rattle.pt_model.specs.Objects.{barrier_count, find_object, kind_of}
use Rattle.pt_model.specs.Rwlocks.{first_reader, read_count, write_holder, is_writer}
use Rattle.pt_model.specs.Room.{entry_for}
use Rattle.pt_model.specs.Searches.{In}
use Rattle.pt_model.specs.Steps.{Follows, Step}
use Rattle.pt_model.specs.Verdicts.{lock_kind_verdict, verdict_on, operation_verdict, verdict}
use Rattle.pt_model.specs.WaitingCall.{new_waiting_call, is_barrier_wait, object_or_zero}
use Rattle.pt_model.specs.WaitingCall.{role_of_lock}
use Rattle.pt_model.proofs.Changes.{awaited, cause_effect, consistency_effect}
use Rattle.pt_model.proofs.Changes.{gives_up, kind_effect}
use Rattle.pt_model.proofs.Changes.{left_by, resolved, returns_it}
use Rattle.pt_model.proofs.Effects.{Effect, Idle}
use Rattle.pt_model.proofs.Effects.{Waits, act, effect, stays}
use Rattle.pt_model.proofs.Holders.{owner-call}
use Rattle.pt_model.proofs.Leasts.{least-none}
use Rattle.pt_model.proofs.Lists.{false_by, filter-in, In-append_cases, In-append_left}
use Rattle.pt_model.proofs.Opens.{stands_at_barrier}
use Rattle.pt_model.proofs.Readings.{consistency-call, reads-call, is_writer-call}
use Rattle.pt_model.proofs.Services.{none-served}
use Rattle.pt_records.proofs.LockViews.{class-found}
use Rattle.pt_state.specs.Requests.{object_meant}
use Rattle.pt_next_grant.specs.Candidates.{candidate, candidate_by, is_back_at_mutex, latest_caller}
use Rattle.pt_next_grant.specs.Candidates.{first_at}
use Rattle.pt_next_grant.specs.Candidates.{if_passes, is_write_if, open_call_if, is_read_relock_at}
use Rattle.pt_next_grant.proofs.Candidates.{candidates}
use Rattle.pt_next_grant.proofs.ServedFirsts.{none_serves}
use Rattle.pt_next_grant.proofs.Unchanged.{Quiet, Stays, first_reader-same, served-before, write_holder-same}
use Rattle.pt_machine.specs.declared.plans.Plan.{Plan}
use Rattle.pt_machine.specs.SettledCalls.{IsUnopposed, NoneWaits, is_settled_after, is_settled_by}
use Rattle.pt_machine.specs.GrantedAtOnce.{IsFree}
use Rattle.pt_machine.specs.Plans.{IsPlanned}
use Rattle.pt_machine.proofs.LockClasses.{has_lock}
use Rattle.pt_machine.proofs.CalmCalls.{Calm, answered, calm-rests, due, idle, kind-at, has_call}
use Rattle.pt_machine.proofs.CalmCalls.{none-forced, opens, orphan, stays_put}

-- a lock is held so that a call of this kind has to wait for it
abbrev pub Held : History → LockKind → ℕ → Type 0
Held h MutexLock o = (is_not_recoverable (consistency h o) || is_none (owner h o)) ≡ false
Held h ReadLock o = ⊥
Held h WriteLock o = (not (is_some (write_holder h o)) && not (is_some (first_reader h o))) ≡ false

module _ (h : History) (f : Follows h) (c : ℕ) (call : FunctionCall)
    (s : Step h (Call c call (reply (verdict h c call)))) where
  abbrev g : History
  g = h ▷ Call c call (reply (verdict h c call))

  abbrev E : Effect
  E = effect h c call (reply (verdict h c call))

  module _ (n : List ℕ) (k : LockKind) (has_request : operation call ≡ Acquires n k Plain)
      (left : reply (verdict h c call) ≡ None) where
    -- the lock, and the call as it waits for it
    abbrev o : ℕ
    o = object_or_zero h n (class_needed k)

    abbrev u : WaitingCall
    u = new_waiting_call h c (object_or_zero h n (class_needed k)) (role_of_lock k)
        (clock_of call) None

    waits : effect h c call (reply (verdict h c call)) ≡ Waits u
    waits = ap (effect h c call) left ∙ ap (stays h c (clock_of call)) has_request

    unmoved : (j : ℕ) → cause_effect h (wait_move h) E j ≡ None
    unmoved j = ap (λ x. cause_effect h (wait_move h) x j) waits

    joined : open_calls g ≡ open_calls h ++ u ∷ []
    joined = opens h f c call s ∙ ap (λ x. open_calls h ++ left_by x) waits

    no_wait : (m : ℕ) → awaited (role_of_lock k) m ≡ false
    no_wait m = go k
      where
        go : (x : LockKind) → awaited (role_of_lock x) m ≡ false
        go MutexLock = refl
        go ReadLock = refl
        go WriteLock = refl

    no_arrival : is_barrier_wait (role_of_lock k) ≡ false
    no_arrival = go k
      where
        go : (x : LockKind) → is_barrier_wait (role_of_lock x) ≡ false
        go MutexLock = refl
        go ReadLock = refl
        go WriteLock = refl

    -- the locks have not changed
    quiet : (m d : ℕ) → Quiet h g m d
    quiet m d =
        record {
          owners =
              owner-call h c call f s m
              ∙ (ap (λ x. cond (gives_up x m && (mutex_count h m c == 1)) None (owner h m)) waits
              ∙ ap (λ b. cond (b && (mutex_count h m c == 1)) None (owner h m)) (no_wait m));
          losses =
              ap is_not_recoverable
              (consistency-call h c call (reply (verdict h c call)) (resolved h c call) m
              (consistency h m)
              ∙ (ap (λ x. consistency_effect h c x m (consistency h m)) waits
              ∙ ap (λ b. consistency_by_operation false (frees h m c b) (consistency h m))
              (no_wait m)));
          kinds = kind-at h f c call s m ∙ ap (λ x. kind_effect (place h) x (kind_of h m) m) waits;
          writers = write_holder-same h (Call c call (reply (verdict h c call))) m f wrote;
          readers = first_reader-same h (Call c call (reply (verdict h c call))) m f read;
          counts = read d;
        }
      where
        back : returns_it (effect h c call (reply (verdict h c call))) m ≡ false
        back = ap (λ x. returns_it x m) waits

        wrote : (e : ℕ) → is_writer g m e ≡ is_writer h m e
        wrote e =
            is_writer-call h c call (reply (verdict h c call)) m e (is_writer h m e) ∙ rw back refl

        read : (e : ℕ) → read_count g m e ≡ read_count h m e
        read e = reads-call h c call (reply (verdict h c call)) m e (read_count h m e)
            ∙ rw back refl

    -- nor have the calls that wait for them
    beside : (m : ℕ) → Stays h g m
    beside m =
        record {
          stays =
              λ v i at. (
                subst (λ (ws : List WaitingCall). In v ws) (sym joined)
                    (In-append_left v (open_calls h) (u ∷ []) i),
                stays_put h f c call s unmoved v.place,
              );
          arrivals =
              ap (at_barrier m) joined
              ∙ (filter-append (stands_at_barrier m) (open_calls h) (u ∷ [])
              ∙ (ap (λ b. at_barrier m (open_calls h) ++ cond (b && (u.object == m)) (u ∷ []) [])
              no_arrival ∙ append-nil (at_barrier m (open_calls h))));
        }

    -- the call is not granted if its lock is held
    kept : Held h k (object_or_zero h n (class_needed k)) → can_be_served g u ≡ false
    kept has_capacity =
        ap (λ b. b || is_at_full_barrier g u) (go k has_capacity (quiet o c))
        ∙ ap (λ b. b && (length (at_barrier u.object (open_calls g))
        == barrier_count (kind_of g u.object))) no_arrival
      where
        neither : (a b t : Bool) → (a || b) ≡ false → (a || (b && t)) ≡ false
        neither true b t e = absurd cc
        neither false true t e = absurd cc
        neither false false t e = refl

        go : (x : LockKind) → Held h x o → Quiet h g o c
            → is_grantable_as g u (role_of_lock x) ≡ false
        go MutexLock e q =
            ap (λ a. a || (is_none (owner g o) && is_least g u)) q.losses
            ∙ (ap (λ y. is_not_recoverable (consistency h o) || (is_none y
            && is_least g u)) q.owners
            ∙ neither (is_not_recoverable (consistency h o)) (is_none (owner h o)) (is_least g u) e)
        go ReadLock e q = absurd e
        go WriteLock e q =
            ap (λ y. (not (is_some y) && not (is_some (first_reader g o)))
            && is_least g u) q.writers
            ∙ (ap (λ y. (not (is_some (write_holder h o)) && not (is_some y))
            && is_least g u) q.readers
            ∙ ap (λ b. b && is_least g u) e)

    -- so nothing must follow
    held-rests : Held h k (object_or_zero h n (class_needed k)) → forced g ≡ None
    held-rests has_capacity = none-forced g served (orphan h f c call s) (due h f c call s unmoved untimed)
      where
        served : (w : WaitingCall) → In w (open_calls g) → can_be_served g w ≡ false
        served w i =
            go (In-append_cases w (open_calls h) (u ∷ [])
            (subst (λ (ws : List WaitingCall). In w ws) joined i))
          where
            go : In w (open_calls h) ⊎ In w (u ∷ []) → can_be_served g w ≡ false
            go (inl j) =
                false_by (can_be_served g w)
                (λ t. false≢true (sym (none-served h (has_call h f c call s).quiet w j)
                ∙ (served-before h g w j (quiet (wait_object h w) w.client)
                (beside (wait_object h w)) t).0))
            go (inr (inl same)) = ap (can_be_served g) same ∙ kept has_capacity
            go (inr (inr none)) = absurd none

        untimed : (w : WaitingCall) → In w (left_by E) → w.deadline ≡ None
        untimed w i = go (subst (λ (x : Effect). In w (left_by x)) waits i)
          where
            go : In w (u ∷ []) → w.deadline ≡ None
            go (inl same) = ap (λ (v : WaitingCall). v.deadline) same
            go (inr none) = absurd none

    -- its name means the lock
    found : find_object h n (class_needed k) ≡ Some (object_or_zero h n (class_needed k))
    found =
        go (find_object h n (class_needed k)) refl
        (ap (λ d. reply (operation_verdict h c d)) (sym has_request) ∙ left)
      where
        go : (x : Option ℕ) → find_object h n (class_needed k) ≡ x
            → reply (verdict_on x (λ m. lock_kind_verdict h c m k Plain)) ≡ None
            → find_object h n (class_needed k) ≡ Some (object_or_zero h n (class_needed k))
        go None e t = absurd cc
        go (Some m) e t = e ∙ ap (λ x. Some (unwrap_or x 0)) (sym e)

    -- no call is served at the lock before, so if it is free, none waits for it
    unserved : candidate h (object_or_zero h n (class_needed k)) ≡ None
    unserved =
        sym (candidates h f (object_or_zero h n (class_needed k)))
        ∙ none_serves h f (object_or_zero h n (class_needed k))
        (λ v i at e. false≢true (sym (none-served h (has_call h f c call s).quiet v i) ∙ e))

    class : option_map class_of (kind_of h (object_or_zero h n (class_needed k)))
        ≡ Some (class_needed k)
    class = class-found h f n (class_needed k) (object_or_zero h n (class_needed k)) found

    none_first : (b : Bool) → is_settled_by (Acquires n k Plain) b ≡ true
        → IsFree h k (object_or_zero h n (class_needed k))
        → first_at h (object_or_zero h n (class_needed k)) ≡ None
    none_first b rests free = go k (kind_of h o) refl class rests free
      where
        again : Option WaitingCall
        again = if_passes (is_read_relock_at h o) (open_call_if h (latest_caller h))

        go : (x : LockKind) (q : Option ObjectKind) → kind_of h o ≡ q
            → option_map class_of q ≡ Some (class_needed x)
            → is_settled_by (Acquires n x Plain) b ≡ true → IsFree h x o → first_at h o ≡ None
        go MutexLock (Some (kind_is.Mutex q a)) e m l t =
            sym (ap (λ b. cond b (first_at h o) (if_passes (is_back_at_mutex h o)
            (open_call_if h (owner h o)))) t)
            ∙ (sym (ap (candidate_by h o) e) ∙ unserved)
        go WriteLock (Some kind_is.Rwlock) e m l t =
            sym (ap (λ w. cond (is_some w) None (cond (is_some (first_reader h o)
            && is_write_if (first_at h o)) again (first_at h o))) t.0
            ∙ ap (λ b. cond (b && is_write_if (first_at h o)) again (first_at h o)) t.1)
            ∙ (sym (ap (candidate_by h o) e) ∙ unserved)
        go ReadLock q e m l t = absurd (false≢true l)
        go MutexLock None e m l t = absurd (has_lock MutexLock None m)
        go WriteLock None e m l t = absurd (has_lock WriteLock None m)
        go MutexLock (Some kind_is.Rwlock) e m l t =
            absurd (has_lock MutexLock (Some kind_is.Rwlock) m)
        go MutexLock (Some kind_is.Cond) e m l t = absurd (has_lock MutexLock (Some kind_is.Cond) m)
        go MutexLock (Some (kind_is.Barrier z)) e m l t =
            absurd (has_lock MutexLock (Some (kind_is.Barrier z)) m)
        go WriteLock (Some (kind_is.Mutex q a)) e m l t =
            absurd (has_lock WriteLock (Some (kind_is.Mutex q a)) m)
        go WriteLock (Some kind_is.Cond) e m l t = absurd (has_lock WriteLock (Some kind_is.Cond) m)
        go WriteLock (Some (kind_is.Barrier z)) e m l t =
            absurd (has_lock WriteLock (Some (kind_is.Barrier z)) m)

    -- so it is held if the call is not granted as it comes
    has_capacity : (b : Bool) → is_settled_by (Acquires n k Plain) b ≡ true
        → (IsUnopposed h c call → b ≡ true) → Held h k (object_or_zero h n (class_needed k))
    has_capacity b rests call_outcome =
        go k rests
        (λ free. call_outcome (record {
          name = n;
          kind = k;
          object = o;
          has_request = has_request;
          waits = ap (Call c call) left;
          found = found;
          free = free;
          no_other_waits = nobody (none_first b rests free);
        }))
      where
        nobody : first_at h o ≡ None → NoneWaits h o
        nobody none w i t =
            least-none (precedes h) (waiting_at h o) none w
            (filter-in (λ (v : WaitingCall). wait_object h v == o) (open_calls h) w i t)

        not_both : not b ≡ true → b ≡ true → ⊥
        not_both e t = false≢true (ap not (sym t) ∙ e)

        mutex : (t : Bool) → (is_not_recoverable (consistency h o) || is_none (owner h o)) ≡ t
            → not b ≡ true
            → ((is_not_recoverable (consistency h o) || is_none (owner h o)) ≡ true → b ≡ true)
            → (is_not_recoverable (consistency h o) || is_none (owner h o)) ≡ false
        mutex true e wants free = absurd (not_both wants (free e))
        mutex false e wants free = e

        lock : (w : Option ℕ) (y : Bool) → write_holder h o ≡ w → is_some (first_reader h o) ≡ y
            → not b ≡ true → (IsFree h WriteLock o → b ≡ true)
            → (not (is_some (write_holder h o)) && not (is_some (first_reader h o))) ≡ false
        lock (Some d) y ew ey wants free =
            ap (λ v. not (is_some v) && not (is_some (first_reader h o))) ew
        lock None true ew ey wants free =
            ap (λ v. not (is_some v) && not (is_some (first_reader h o))) ew ∙ ap not ey
        lock None false ew ey wants free = absurd (not_both wants (free (ew, ey)))

        go : (x : LockKind) → is_settled_by (Acquires n x Plain) b ≡ true
            → (IsFree h x o → b ≡ true) → Held h x o
        go MutexLock e free = mutex (is_not_recoverable (consistency h o)
            || is_none (owner h o)) refl e free
        go ReadLock e free = absurd cc
        go WriteLock e free = lock (write_holder h o) (is_some (first_reader h o)) refl refl e free

  -- nothing must follow a call of which this is known from its operation
  pub at-rest : (b : Bool) → is_settled_by (operation call) b ≡ true
      → (IsUnopposed h c call → b ≡ true) → forced g ≡ None
  at-rest b e call_outcome = go (operation call) refl (reply (verdict h c call)) refl e
    where
      idles : (d : Operation) → operation call ≡ d → reply (verdict h c call) ≡ None
          → stays h c (clock_of call) d ≡ Idle → forced g ≡ None
      idles d has_request left e =
          calm-rests h f c call s
          (subst (Calm h)
          (sym (ap (effect h c call) left ∙ (ap (stays h c (clock_of call)) has_request ∙ e))) (idle h))

      go : (d : Operation) → operation call ≡ d → (x : Option Outcome)
          → reply (verdict h c call) ≡ x → is_settled_by d b ≡ true → forced g ≡ None
      go d has_request (Some x) replies e =
          calm-rests h f c call s
          (subst (Calm h)
          (sym (ap (effect h c call) replies ∙ ap (λ y. act h c (clock_of call) y (Some x)) has_request))
          (answered h c (clock_of call) d b e x))
      go (Acquires n k Plain) has_request None replies e =
          held-rests n k has_request replies (has_capacity n k has_request replies b e call_outcome)
      go (Inits n kind) has_request None replies e = idles (Inits n kind) has_request replies refl
      go (Ends n class) has_request None replies e = idles (Ends n class) has_request replies refl
      go (Restores n) has_request None replies e = idles (Restores n) has_request replies refl
      go (Acquires n MutexLock Try) has_request None replies e = absurd cc
      go (Acquires n ReadLock Try) has_request None replies e = absurd cc
      go (Acquires n WriteLock Try) has_request None replies e = absurd cc
      go (Acquires n MutexLock (Timed d)) has_request None replies e = absurd cc
      go (Acquires n ReadLock (Timed d)) has_request None replies e = absurd cc
      go (Acquires n WriteLock (Timed d)) has_request None replies e = absurd cc
      go (Unlocks n) has_request None replies e = absurd cc
      go (Rwunlocks n) has_request None replies e = absurd cc
      go (CondWaits n m d) has_request None replies e = absurd cc
      go (Signals n) has_request None replies e = absurd cc
      go (Broadcasts n) has_request None replies e = absurd cc
      go (BarrierWaits n) has_request None replies e = absurd cc

-- the lock of an unopposed call is free
pub unopposed-free : (h : History) (c : ℕ) (call : FunctionCall) (n : List ℕ) (k : LockKind) (how : How)
    (o : ℕ) → Follows h → operation call ≡ Acquires n k how
    → object_meant h (operation call) ≡ Some o → IsUnopposed h c call
    → (option_map class_of (kind_of h o) ≡ Some (class_needed k)) × IsFree h k o
unopposed-free h c call n k how o f has_request found has_call =
    let same : Acquires has_call.name has_call.kind Plain ≡ Acquires n k how =
    sym has_call.has_request ∙ has_request in
    let kind : has_call.kind ≡ k = cc in
    let there : Some has_call.object ≡ Some o =
    sym has_call.found ∙ (ap (object_meant h) (sym has_call.has_request) ∙ found) in
    let at : has_call.object ≡ o = cc in (
      subst (λ x. option_map class_of (kind_of h x) ≡ Some (class_needed k)) at
          (subst (λ (x : LockKind). option_map class_of (kind_of h has_call.object)
          ≡ Some (class_needed x)) kind
          (class-found h f has_call.name (class_needed has_call.kind) has_call.object has_call.found)),
      subst (IsFree h k) at (subst (λ (x : LockKind). IsFree h x has_call.object) kind has_call.free),
    )

-- so nothing must follow an event if its plan says so
pub rests-planned : (h : History) (v : Event) (p : Plan) → Follows h → Step h (entry_for h v)
    → IsPlanned h v p → is_settled_after v p.at_once ≡ true → forced (h ▷ entry_for h v) ≡ None
rests-planned h (event.Call c call) p f s planned e =
    at-rest h f c call s p.at_once e planned.unopposed
rests-planned h (event.Join n) p f s planned e = absurd cc
rests-planned h (event.Death c) p f s planned e = absurd cc
rests-planned h (event.Moment k t) p f s planned e = absurd cc
