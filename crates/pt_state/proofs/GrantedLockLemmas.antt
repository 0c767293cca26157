-- A call for a mutex, a read lock or a write lock that is granted as it comes: what its lock says.
use Rattle.std.proofs.Common.{◌≡◌, ℕ, ◌+◌, Bool, true, false, List, Some, None, IsSome, refl, sym}
use Rattle.std.proofs.Common.{ap, ◌∙◌, subst}
use Rattle.pt_types.specs.declared.call.Call.{Call as FunctionCall}
use Rattle.pt_types.specs.declared.outcome.Outcome.{Outcome}
use Rattle.pt_types.specs.declared.outcome.Outcome.TheVariants.{Done}
use Rattle.pt_types.specs.MutexTable.{is_acquired}
use Rattle.pt_mutex.specs.MutexState.{MutexState, mutex_after_acquire, can_acquire}
use Rattle.pt_rwlock.specs.RwlockState.{ChangesRow, RwlockState, can_acquire_read, nobody_holds}
use Rattle.pt_rwlock.specs.RwlockState.{reads_of, with_reads, with_row}
use Rattle.pt_table.specs.declared.clients.ClientRow.{ClientRow}
use Rattle.pt_table.specs.declared.objects.ObjectRow.{ObjectRow}
use Rattle.pt_table.specs.ObjectRows.{object_value}
use Rattle.pt_model.specs.declared.entry.Entry.TheVariants.{Call, Grant}
use Rattle.pt_model.specs.Histories.{◌▷◌}
use Rattle.pt_model.specs.Grants.{grant_outcome_as}
use Rattle.pt_model.specs.WaitingCall.{final_mutex}
use Rattle.pt_model.specs.declared.waiting_call.Role.TheVariants.{ForMutex, ForRead, ForWrite}
use Rattle.pt_records.specs.declared.clients.Caller.{Caller}
use Rattle.pt_records.specs.declared.clients.Open.{Open}
use Rattle.pt_records.specs.declared.objects.Object.{Object}
use Rattle.pt_records.specs.declared.objects.Object.TheVariants.{Mutex, Rwlock}
use Rattle.pt_records.specs.Callers.{opens_of}
use Rattle.pt_records.specs.Chained.{AreChained, KeepsChains, rows_without_owned}
use Rattle.pt_records.specs.LocksInRows.{mutex_in, rwlock_in}
use Rattle.pt_records.specs.Objects.{AreObjectRows}
use Rattle.pt_records.specs.Writes.{WritesObject}
use Rattle.pt_records.proofs.Chaining.{chained-written}
use Rattle.pt_state.specs.declared.state.State.{State}
use Rattle.pt_state.specs.Adds.{HasRoomFor, history_of, AddsNothing}
use Rattle.pt_state.specs.Granting.{outcome_as, mutex_grant_outcome}
use Rattle.pt_state.specs.Acquisitions.{AddsCallAndGrant, IsGrantedCall, NotesCallAndGrant}
use Rattle.pt_state.specs.NewWaitingCalls.{changes_no_object}
use Rattle.pt_state.proofs.ForceGrants.{mutex-can, mutex-there, read-can, read-there, write-can}
use Rattle.pt_state.proofs.ForceGrants.{write-there}
use Rattle.pt_state.proofs.ForceObjects.{object_rows-behind-lost, object_rows-behind-mutex}
use Rattle.pt_state.proofs.ForceObjects.{object_rows-behind-read, object_rows-behind-write}
use Rattle.pt_state.proofs.ForceObjects.{read-lock, write-lock}
use Rattle.pt_state.proofs.GrantLemmas.{outcome-by_role}
use Rattle.pt_state.proofs.GrantedCallLemmas.{answer, has_call, mid, next, open_now, second}
use Rattle.pt_state.proofs.ServingFinds.{are-open}
use Rattle.pt_state.proofs.WaitingObjects.{lock-there, object_rows-reading, object_rows-waiting}
use Rattle.pt_state.proofs.WaitingObjects.{stayed-again}

-- a mutex
module _ {A : Type 0} (s : State A) (c : ℕ) (call : FunctionCall) (m : ℕ)
    (ready : HasRoomFor s (Call c call None)) (o : Open)
    (acquisition : IsGrantedCall s c call ForMutex m o) where
  -- the objects stay the same while the call waits
  pub mutex-looks : AreObjectRows (history_of s ▷ Call c call None) s.objects
  mutex-looks = object_rows-waiting s c call ready o acquisition.new_waiting (ap changes_no_object acquisition.role)

  abbrev waiting : State A
  waiting = mid s c call ready ForMutex m o acquisition s.objects mutex-looks ready.read.chained

  abbrev to_grant : HasRoomFor waiting (Grant o.call.place (answer s c call ready ForMutex m o acquisition
      s.objects mutex-looks ready.read.chained))
  to_grant = next s c call ready ForMutex m o acquisition s.objects mutex-looks ready.read.chained

  its_mutex : final_mutex o.call.role o.call.object ≡ Some m
  its_mutex = ap (λ r. final_mutex r o.call.object) acquisition.role ∙ ap Some acquisition.object

  pub mutex-stored : IsSome (mutex_in (object_value s.objects m))
  mutex-stored =
      mutex-there waiting o to_grant (has_call s c call ready ForMutex m o acquisition) m m refl its_mutex

  module _ (x : Outcome) (says : x ≡ mutex_grant_outcome s.objects m None) where
    -- it is answered what its mutex says
    answers_it : x ≡ answer s c call ready ForMutex m o acquisition s.objects mutex-looks ready.read.chained
    answers_it =
        outcome-by_role (history_of waiting) s.objects to_grant.read.object_rows.look
        to_grant.read.follows (opens_of waiting.clients)
        (are-open (history_of waiting) waiting.clients to_grant.read.follows to_grant.read.callers)
        o (has_call s c call ready ForMutex m o acquisition) x
        (says
        ∙ (ap (λ n. mutex_grant_outcome s.objects n None) (sym acquisition.object)
        ∙ (ap (λ v. mutex_grant_outcome s.objects o.call.object v) (sym acquisition.new_waiting.unmoved)
        ∙ ap (outcome_as s.objects o) (sym acquisition.role))))

    pub mutex-may : is_acquired x ≡ true → (v : MutexState)
        → object_value s.objects m ≡ Some (Mutex v) → can_acquire v.view c ≡ true
    mutex-may replies v at =
        subst (λ n. can_acquire v.view n ≡ true) acquisition.client
        (mutex-can waiting o to_grant (has_call s c call ready ForMutex m o acquisition) m m refl its_mutex x
        answers_it replies v at)

    -- once it is granted
    module _ (new : List (ObjectRow (Object A)))
        (taken : is_acquired x ≡ true → (v : MutexState) → object_value s.objects m ≡ Some (Mutex v)
        → WritesObject s.objects new m (Mutex (record v { view = mutex_after_acquire v.view c })))
        (lost : is_acquired x ≡ false → new ≡ s.objects)
        (clients : List (ClientRow Caller)) (owned : rows_without_owned clients
        ≡ rows_without_owned s.clients)
        (chained : AreChained clients new s.orphans) (end : State A)
        (notes : NotesCallAndGrant (record s { clients = clients; objects = new }) c call x end)
      where
        abbrev call_outcome : Outcome
        call_outcome = answer s c call ready ForMutex m o acquisition s.objects mutex-looks ready.read.chained

        objects_then : AreObjectRows (history_of waiting ▷ Grant o.call.place call_outcome) new
        objects_then = go (is_acquired x) refl
          where
            go : (b : Bool) → is_acquired x ≡ b
                → AreObjectRows (history_of waiting ▷ Grant o.call.place call_outcome) new
            go true is =
                object_rows-behind-mutex (history_of waiting) to_grant.read.follows s.objects
                to_grant.read.object_rows o.call
                (open_now s c call ready ForMutex m o acquisition s.objects mutex-looks ready.read.chained)
                to_grant.step new m its_mutex (ap is_acquired (sym answers_it) ∙ is)
                (subst (λ n. (v : MutexState) → object_value s.objects m ≡ Some (Mutex v)
                → WritesObject s.objects new m (Mutex
                (record v { view = mutex_after_acquire v.view n })))
                (sym acquisition.client) (taken is))
            go false is =
                subst (AreObjectRows (history_of waiting ▷ Grant o.call.place call_outcome)) (sym (lost is))
                (object_rows-behind-lost (history_of waiting) to_grant.read.follows s.objects
                to_grant.read.object_rows o.call
                (open_now s c call ready ForMutex m o acquisition s.objects mutex-looks ready.read.chained)
                to_grant.step m its_mutex (ap is_acquired (sym answers_it) ∙ is))

        pub mutex-acquisition : AddsCallAndGrant s c call o x end
        mutex-acquisition =
            second s c call ready ForMutex m o acquisition s.objects mutex-looks ready.read.chained x
            answers_it new objects_then clients owned chained end notes

-- a write lock
module _ {A : Type 0} (s : State A) (c : ℕ) (call : FunctionCall) (r : ℕ)
    (ready : HasRoomFor s (Call c call None)) (o : Open)
    (acquisition : IsGrantedCall s c call ForWrite r o) where
  pub write-looks : AreObjectRows (history_of s ▷ Call c call None) s.objects
  write-looks = object_rows-waiting s c call ready o acquisition.new_waiting (ap changes_no_object acquisition.role)

  abbrev asking : State A
  asking = mid s c call ready ForWrite r o acquisition s.objects write-looks ready.read.chained

  abbrev to_write : HasRoomFor asking (Grant o.call.place (answer s c call ready ForWrite r o acquisition
      s.objects write-looks ready.read.chained))
  to_write = next s c call ready ForWrite r o acquisition s.objects write-looks ready.read.chained

  pub write-stored : IsSome (rwlock_in (object_value s.objects r))
  write-stored =
      subst (λ n. IsSome (rwlock_in (object_value s.objects n))) acquisition.object
      (write-there asking o to_write (has_call s c call ready ForWrite r o acquisition) acquisition.role)

  pub write-may : (v : RwlockState) → object_value s.objects r ≡ Some (Rwlock v)
      → nobody_holds v ≡ true
  write-may v at =
      write-can asking o to_write (has_call s c call ready ForWrite r o acquisition) acquisition.role v
      (ap (object_value s.objects) acquisition.object ∙ at)

  -- once it is granted
  pub write-acquisition : (new : List (ObjectRow (Object A)))
      → ((v : RwlockState) → object_value s.objects r ≡ Some (Rwlock v)
      → WritesObject s.objects new r (Rwlock (record v { writer = Some c })))
      → ((v : RwlockState) → object_value s.objects r ≡ Some (Rwlock v)
      → KeepsChains s.objects new)
      → (end : State A) → NotesCallAndGrant (record s { objects = new }) c call Done end
      → AddsCallAndGrant s c call o Done end
  write-acquisition new w k end notes =
      second s c call ready ForWrite r o acquisition s.objects write-looks ready.read.chained Done
      (ap (grant_outcome_as (history_of asking) o.call) (sym acquisition.role)) new
      (object_rows-behind-write (history_of asking) to_write.read.follows s.objects
      to_write.read.object_rows o.call
      (open_now s c call ready ForWrite r o acquisition s.objects write-looks ready.read.chained)
      to_write.step new acquisition.role written)
      s.clients refl
      (chained-written s.clients s.objects new s.orphans ready.read.chained r (Rwlock lock.0)
      (Rwlock (record lock.0 { writer = Some c })) lock.1 (w lock.0 lock.1) refl
      (k lock.0 lock.1))
      end notes
    where
      lock : (v : RwlockState) × (object_value s.objects r ≡ Some (Rwlock v))
      lock =
          subst (λ n. (v : RwlockState) × (object_value s.objects n ≡ Some (Rwlock v))) acquisition.object
          (write-lock (history_of asking) to_write.read.follows s.objects to_write.read.object_rows
          o.call
          (open_now s c call ready ForWrite r o acquisition s.objects write-looks ready.read.chained)
          to_write.step acquisition.role)

      written : (v : RwlockState) → object_value s.objects o.call.object ≡ Some (Rwlock v)
          → WritesObject s.objects new o.call.object
          (Rwlock (record v { writer = Some o.call.client }))
      written =
          subst (λ n. (v : RwlockState) → object_value s.objects o.call.object ≡ Some (Rwlock v)
          → WritesObject s.objects new o.call.object (Rwlock (record v { writer = Some n })))
          (sym acquisition.client)
          (subst (λ n. (v : RwlockState) → object_value s.objects n ≡ Some (Rwlock v)
          → WritesObject s.objects new n (Rwlock (record v { writer = Some c })))
          (sym acquisition.object) w)

-- a read lock
module _ {A : Type 0} (s : State A) (c : ℕ) (call : FunctionCall) (r : ℕ)
    (ready : HasRoomFor s (Call c call None)) (o : Open)
    (acquisition : IsGrantedCall s c call ForRead r o) where
  -- the object of a call for a read lock is a read-write lock
  pub read-lock-stored : (v : RwlockState) × (object_value s.objects r ≡ Some (Rwlock v))
  read-lock-stored =
      subst (λ n. (v : RwlockState) × (object_value s.objects n ≡ Some (Rwlock v))) acquisition.object
      (lock-there s c call ready o acquisition.new_waiting acquisition.role)

  pub read-stored : IsSome (rwlock_in (object_value s.objects r))
  read-stored = rw read-lock-stored.1 refl

  -- if there is no memory for its row, nothing has changed
  pub read-stays : (new : List (ObjectRow (Object A)))
      → ((v : RwlockState) → object_value s.objects r ≡ Some (Rwlock v)
      → WritesObject s.objects new r (Rwlock v))
      → ((v : RwlockState) → object_value s.objects r ≡ Some (Rwlock v)
      → KeepsChains s.objects new)
      → AddsNothing s (record s { objects = new })
  read-stays new w k =
      stayed-again s new r (Rwlock read-lock-stored.0) ready.read read-lock-stored.1
      (w read-lock-stored.0 read-lock-stored.1) (k read-lock-stored.0 read-lock-stored.1)

  -- once its row exists
  module _ (rowed : List (ObjectRow (Object A)))
      (makes : (v : RwlockState) → object_value s.objects r ≡ Some (Rwlock v)
      → WritesObject s.objects rowed r (Rwlock (with_row v c)))
      (its : (v : RwlockState) → object_value s.objects r ≡ Some (Rwlock v)
      → ChangesRow v (with_row v c) c (Some (reads_of v c)))
      (keeps : (v : RwlockState) → object_value s.objects r ≡ Some (Rwlock v)
      → KeepsChains s.objects rowed) where
    abbrev lock : RwlockState
    lock = read-lock-stored.0

    pub read-looks : AreObjectRows (history_of s ▷ Call c call None) rowed
    read-looks =
        object_rows-reading s c call ready o acquisition.new_waiting rowed lock acquisition.role
        (ap (object_value s.objects) acquisition.object ∙ read-lock-stored.1)
        (subst (λ n. WritesObject s.objects rowed n (Rwlock (with_row lock c))) (sym acquisition.object)
        (makes lock read-lock-stored.1))
        (its lock read-lock-stored.1)

    pub read-linked : AreChained s.clients rowed s.orphans
    read-linked =
        chained-written s.clients s.objects rowed s.orphans ready.read.chained r (Rwlock lock)
        (Rwlock (with_row lock c)) read-lock-stored.1 (makes lock read-lock-stored.1) refl
        (keeps lock read-lock-stored.1)

    abbrev reading_it : State A
    reading_it = mid s c call ready ForRead r o acquisition rowed read-looks read-linked

    abbrev to_read : HasRoomFor reading_it (Grant o.call.place (answer s c call ready ForRead r o
        acquisition rowed read-looks read-linked))
    to_read = next s c call ready ForRead r o acquisition rowed read-looks read-linked

    pub read-again : IsSome (rwlock_in (object_value rowed r))
    read-again =
        subst (λ n. IsSome (rwlock_in (object_value rowed n))) acquisition.object
        (read-there reading_it o to_read (has_call s c call ready ForRead r o acquisition) acquisition.role)

    pub read-may : (v : RwlockState) → object_value rowed r ≡ Some (Rwlock v)
        → can_acquire_read v c ≡ true
    read-may v at =
        subst (λ n. can_acquire_read v n ≡ true) acquisition.client
        (read-can reading_it o to_read (has_call s c call ready ForRead r o acquisition) acquisition.role v
        (ap (object_value rowed) acquisition.object ∙ at))

    -- once it is granted
    pub read-acquisition : (new : List (ObjectRow (Object A)))
        → ((v : RwlockState) → object_value rowed r ≡ Some (Rwlock v)
        → WritesObject rowed new r (Rwlock (with_reads v c (reads_of v c + 1))))
        → ((v : RwlockState) → object_value rowed r ≡ Some (Rwlock v)
        → ChangesRow v (with_reads v c (reads_of v c + 1)) c (Some (reads_of v c + 1)))
        → ((v : RwlockState) → object_value rowed r ≡ Some (Rwlock v)
        → KeepsChains rowed new)
        → (end : State A) → NotesCallAndGrant (record s { objects = new }) c call Done end
        → AddsCallAndGrant s c call o Done end
    read-acquisition new w row k end notes =
        second s c call ready ForRead r o acquisition rowed read-looks read-linked Done
        (ap (grant_outcome_as (history_of reading_it) o.call) (sym acquisition.role)) new
        (object_rows-behind-read (history_of reading_it) to_read.read.follows rowed
        to_read.read.object_rows o.call
        (open_now s c call ready ForRead r o acquisition rowed read-looks read-linked)
        to_read.step new acquisition.role written rewritten)
        s.clients refl
        (chained-written s.clients rowed new s.orphans read-linked r (Rwlock lock_now.0)
        (Rwlock (with_reads lock_now.0 c (reads_of lock_now.0 c + 1))) lock_now.1
        (w lock_now.0 lock_now.1) refl (k lock_now.0 lock_now.1))
        end notes
      where
        lock_now : (v : RwlockState) × (object_value rowed r ≡ Some (Rwlock v))
        lock_now =
            subst (λ n. (v : RwlockState) × (object_value rowed n ≡ Some (Rwlock v))) acquisition.object
            (read-lock (history_of reading_it) to_read.read.follows rowed to_read.read.object_rows
            o.call
            (open_now s c call ready ForRead r o acquisition rowed read-looks read-linked)
            to_read.step acquisition.role)

        written : (v : RwlockState) → object_value rowed o.call.object ≡ Some (Rwlock v)
            → WritesObject rowed new o.call.object
            (Rwlock (with_reads v o.call.client (reads_of v o.call.client + 1)))
        written =
            subst (λ n. (v : RwlockState) → object_value rowed o.call.object ≡ Some (Rwlock v)
            → WritesObject rowed new o.call.object (Rwlock (with_reads v n (reads_of v n + 1))))
            (sym acquisition.client)
            (subst (λ n. (v : RwlockState) → object_value rowed n ≡ Some (Rwlock v)
            → WritesObject rowed new n (Rwlock (with_reads v c (reads_of v c + 1))))
            (sym acquisition.object) w)

        rewritten : (v : RwlockState) → object_value rowed o.call.object ≡ Some (Rwlock v)
            → ChangesRow v (with_reads v o.call.client (reads_of v o.call.client + 1))
            o.call.client (Some (reads_of v o.call.client + 1))
        rewritten =
            subst (λ n. (v : RwlockState) → object_value rowed o.call.object ≡ Some (Rwlock v)
            → ChangesRow v (with_reads v n (reads_of v n + 1)) n (Some (reads_of v n + 1)))
            (sym acquisition.client)
            (subst (λ n. (v : RwlockState) → object_value rowed n ≡ Some (Rwlock v)
            → ChangesRow v (with_reads v c (reads_of v c + 1)) c (Some (reads_of v c + 1)))
            (sym acquisition.object) row)
