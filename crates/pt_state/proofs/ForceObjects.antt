-- The rows of objects after a forced entry, and what the writes of its object require.
use Rattle.std.proofs.Common.{◌≡◌, ℕ, ◌+◌, true, false, List, Option, Some, None, IsSome}
use Rattle.std.proofs.Common.{option_map, refl, sym, ap, ◌∙◌, subst}
use Rattle.std.proofs.lemmas.Bool.{and_parts, false≢true}
use Rattle.pt_types.specs.declared.operations.ObjectClass.TheVariants.{Mutex as MutexClass}
use Rattle.pt_types.specs.declared.operations.ObjectClass.TheVariants.{Rwlock as RwlockClass}
use Rattle.pt_types.specs.MutexTable.{is_acquired}
use Rattle.pt_types.specs.declared.call.ObjectKind.{ObjectKind}
use Rattle.pt_types.specs.declared.call.ObjectKind.TheVariants as kind
use Rattle.pt_mutex.specs.MutexState.{MutexState, can_acquire, mutex_after_acquire}
use Rattle.pt_mutex.specs.MutexState.{mutex_after_yield}
use Rattle.pt_rwlock.specs.RwlockState.{RwlockState, reads_of, with_reads, can_acquire_read}
use Rattle.pt_rwlock.specs.RwlockState.{nobody_holds, ChangesRow}
use Rattle.pt_table.specs.declared.objects.ObjectRow.{ObjectRow}
use Rattle.pt_table.specs.ObjectRows.{object_value}
use Rattle.pt_model.specs.declared.entry.Entry.{Entry}
use Rattle.pt_model.specs.declared.entry.Entry.TheVariants.{Grant, Yield, Expire}
use Rattle.pt_model.specs.Searches.{In}
use Rattle.pt_model.specs.Histories.{History, ◌▷◌}
use Rattle.pt_model.specs.Objects.{is_class, kind_of, is_robust}
use Rattle.pt_model.specs.declared.waiting_call.WaitingCall.{WaitingCall}
use Rattle.pt_model.specs.declared.waiting_call.Move.{Move}
use Rattle.pt_model.specs.declared.waiting_call.Role.{Role}
use Rattle.pt_model.specs.declared.waiting_call.Role.TheVariants.{ForMutex, ForRead, ForWrite}
use Rattle.pt_model.specs.declared.waiting_call.Role.TheVariants.{ForBarrier, ForCond}
use Rattle.pt_model.specs.Answers.{open_calls}
use Rattle.pt_model.specs.WaitingCall.{final_mutex}
use Rattle.pt_model.specs.Moves.{wait_move}
use Rattle.pt_model.specs.Grants.{grant_outcome}
use Rattle.pt_model.specs.Forced.{is_dead_if, is_orphan}
use Rattle.pt_model.specs.Mutexes.{owner}
use Rattle.pt_model.specs.Steps.{Step, joins, calls, dies, ticks, grants, trips, yields, expires}
use Rattle.pt_model.specs.Steps.{Follows}
use Rattle.pt_model.proofs.Seats.{exists_as, HousedBy, housed}
use Rattle.pt_records.specs.declared.objects.Object.{Object}
use Rattle.pt_records.specs.declared.objects.Object.TheVariants.{Mutex, Rwlock, Cond, Barrier}
use Rattle.pt_records.specs.LocksInRows.{mutex_in, rwlock_in}
use Rattle.pt_records.specs.Objects.{kind_in_row, ObjectsLook, AreObjectRows}
use Rattle.pt_records.specs.Writes.{WritesObject}
use Rattle.pt_state.proofs.BoundCounts.{grant-can}
use Rattle.pt_state.proofs.Locking.{no_number, same_number}
use Rattle.pt_records.proofs.BoundReads.{read-acquire, write-acquire}
use Rattle.pt_state.proofs.TableLemmas.{object_rows-kept, object_rows-written}
use Rattle.pt_state.proofs.ObjectEntries.{object_rows-expire, object_rows-yield}
use Rattle.pt_state.proofs.ObjectGrants.{after_grant, granted-may, object_rows-grant-mutex}
use Rattle.pt_state.proofs.ObjectGrants.{object_rows-grant-lost, object_rows-grant-read}
use Rattle.pt_state.proofs.ObjectGrants.{object_rows-grant-write}

-- what an entry says of the mutex that it takes from its owner
abbrev Takes : History → Entry → Type 0
Takes h (Yield m) = is_orphan h m ≡ true
Takes h _ = Unit {0}

takes_all : (h : History) (e : Entry) → Step h e → Takes h e
takes_all h _ (yields m t o) = o
takes_all h _ (joins p n lt) = tt
takes_all h _ (calls c call n a o) = tt
takes_all h _ (dies c n a) = tt
takes_all h _ (ticks k t n) = tt
takes_all h _ (grants w t i g) = tt
takes_all h _ (trips w t i c) = tt
takes_all h _ (expires w t i o) = tt

-- a mutex that is taken from its owner is a robust one with a dead owner
pub mutex_after_yield-orphan : (h : History) (m : ℕ) → Step h (Yield m) → is_orphan h m ≡ true
mutex_after_yield-orphan h m s = takes_all h (Yield m) s

-- a robust mutex is a mutex
robust-class : (k : Option ObjectKind) → is_robust k ≡ true → is_class k MutexClass ≡ true
robust-class None e = absurd (false≢true e)
robust-class (Some (kind.Mutex k robust)) e = refl
robust-class (Some kind.Rwlock) e = absurd (false≢true e)
robust-class (Some kind.Cond) e = absurd (false≢true e)
robust-class (Some (kind.Barrier n)) e = absurd (false≢true e)

-- the mutex that a call is for exists
housed-mutex : (h : History) (m q : ℕ) (role : Role) (move : Option Move) → HousedBy h role move q
    → final_mutex role q ≡ Some m → exists_as h MutexClass m ≡ true
housed-mutex h m q ForMutex move s e =
    ap (exists_as h MutexClass) (sym (same_number q m e)) ∙ s.0
housed-mutex h m q (ForCond k) move s e =
    ap (exists_as h MutexClass) (sym (same_number k m e)) ∙ s.1
housed-mutex h m q ForRead move s e = absurd (no_number m e)
housed-mutex h m q ForWrite move s e = absurd (no_number m e)
housed-mutex h m q ForBarrier move s e = absurd (no_number m e)

-- and so is the lock of a call for one
housed-rwlock : (h : History) (q : ℕ) (role : Role) (move : Option Move) → HousedBy h role move q
    → (role ≡ ForRead → exists_as h RwlockClass q ≡ true)
    × (role ≡ ForWrite → exists_as h RwlockClass q ≡ true)
housed-rwlock h q role move s = (
  λ e. (subst (λ (r : Role). HousedBy h r move q) e s).0,
  λ e. (subst (λ (r : Role). HousedBy h r move q) e s).0,
)

module _ {A : Type 0} (h : History) (look : ℕ → Option (Object A)) (t : ObjectsLook h look) where
  -- what exists as a mutex is stored as one
  pub kept-mutex : (m : ℕ) → exists_as h MutexClass m ≡ true
      → (x : MutexState) × (look m ≡ Some (Mutex x))
  kept-mutex m e = go (look m) refl (ap (λ k. is_class k MutexClass) (t.kinds m) ∙ e)
    where
      go : (o : Option (Object A)) → look m ≡ o
          → is_class (option_map kind_in_row o) MutexClass ≡ true
          → (x : MutexState) × (look m ≡ Some (Mutex x))
      go None eo s = absurd (false≢true s)
      go (Some (Mutex x)) eo s = (x, eo)
      go (Some (Rwlock r)) eo s = absurd (false≢true s)
      go (Some (Cond q)) eo s = absurd (false≢true s)
      go (Some (Barrier n)) eo s = absurd (false≢true s)

  -- what exists as a read-write lock is stored as one
  pub kept-rwlock : (o : ℕ) → exists_as h RwlockClass o ≡ true
      → (r : RwlockState) × (look o ≡ Some (Rwlock r))
  kept-rwlock o e = go (look o) refl (ap (λ k. is_class k RwlockClass) (t.kinds o) ∙ e)
    where
      go : (x : Option (Object A)) → look o ≡ x
          → is_class (option_map kind_in_row x) RwlockClass ≡ true
          → (r : RwlockState) × (look o ≡ Some (Rwlock r))
      go None ex s = absurd (false≢true s)
      go (Some (Mutex m)) ex s = absurd (false≢true s)
      go (Some (Rwlock r)) ex s = (r, ex)
      go (Some (Cond q)) ex s = absurd (false≢true s)
      go (Some (Barrier n)) ex s = absurd (false≢true s)

module _ {A : Type 0} (h : History) (f : Follows h) (old : List (ObjectRow (Object A)))
    (t : AreObjectRows h old) where
  -- an Expire changes no object
  pub object_rows-behind-expire : (j : ℕ) → Step h (Expire j) → AreObjectRows (h ▷ Expire j) old
  object_rows-behind-expire j s =
      object_rows-kept h (Expire j) old t (object_rows-expire h (object_value old) j f s t.look)
      (λ n. refl)
      refl

  -- the mutex of a Yield has its row
  mutex_after_yield-kept : (m : ℕ) → Step h (Yield m) → (x : MutexState)
      × (object_value old m ≡ Some (Mutex x))
  mutex_after_yield-kept m s =
      let class = robust-class (kind_of h m) (and_parts (is_robust (kind_of h m))
      (is_dead_if h (owner h m)) (mutex_after_yield-orphan h m s)).0 in
      kept-mutex h (object_value old) t.look m class

  pub mutex_after_yield-there : (m : ℕ) → Step h (Yield m) → IsSome (mutex_in (object_value old m))
  mutex_after_yield-there m s = rw (mutex_after_yield-kept m s).1 refl

  -- a Yield takes the mutex from its owner
  pub object_rows-behind-yield : (new : List (ObjectRow (Object A))) (m : ℕ) → Step h (Yield m)
      → ((x : MutexState) → object_value old m ≡ Some (Mutex x)
      → WritesObject old new m (Mutex (record x { view = mutex_after_yield x.view })))
      → AreObjectRows (h ▷ Yield m) new
  object_rows-behind-yield new m s w =
      let x = mutex_after_yield-kept m s in
      let here = w x.0 x.1 in
      object_rows-written h (Yield m) old new m
      (Mutex (record x.0 { view = mutex_after_yield x.0.view })) t here
      (object_rows-yield h (object_value old) (object_value new) m x.0 f s t.look x.1 here.look)
      (λ n. refl) refl

  module _ (w : WaitingCall) (i : In w (open_calls h))
      (s : Step h (Grant w.place (grant_outcome h w))) where
    -- the mutex of a granted call has its row
    granted-mutex : (m : ℕ) → final_mutex w.role w.object ≡ Some m
        → (x : MutexState) × (object_value old m ≡ Some (Mutex x))
    granted-mutex m e =
        kept-mutex h (object_value old) t.look m
        (housed-mutex h m w.object w.role (wait_move h w.place) (housed h f w i) e)

    pub granted-mutex-there : (m : ℕ) → final_mutex w.role w.object ≡ Some m
        → IsSome (mutex_in (object_value old m))
    granted-mutex-there m e = rw (granted-mutex m e).1 refl

    -- and so has its read-write lock
    pub read-lock : w.role ≡ ForRead
        → (r : RwlockState) × (object_value old w.object ≡ Some (Rwlock r))
    read-lock role =
        kept-rwlock h (object_value old) t.look w.object
        ((housed-rwlock h w.object w.role (wait_move h w.place) (housed h f w i)).0 role)

    pub read-lock-there : w.role ≡ ForRead → IsSome (rwlock_in (object_value old w.object))
    read-lock-there role = rw (read-lock role).1 refl

    pub write-lock : w.role ≡ ForWrite
        → (r : RwlockState) × (object_value old w.object ≡ Some (Rwlock r))
    write-lock role =
        kept-rwlock h (object_value old) t.look w.object
        ((housed-rwlock h w.object w.role (wait_move h w.place) (housed h f w i)).1 role)

    pub write-lock-there : w.role ≡ ForWrite → IsSome (rwlock_in (object_value old w.object))
    write-lock-there role = rw (write-lock role).1 refl

    -- the client can be given the mutex
    pub acquires : (m : ℕ) → final_mutex w.role w.object ≡ Some m
        → is_acquired (grant_outcome h w) ≡ true → (x : MutexState)
        → object_value old m ≡ Some (Mutex x) → can_acquire x.view w.client ≡ true
    acquires m e replies x k =
        ap (λ v. can_acquire v w.client) (t.look.mutexes m x k).0
        ∙ grant-can h f w m i (granted-may h w f i s) e replies

    -- and holds it once more
    pub object_rows-behind-mutex : (new : List (ObjectRow (Object A))) (m : ℕ)
        → final_mutex w.role w.object ≡ Some m → is_acquired (grant_outcome h w) ≡ true
        → ((x : MutexState) → object_value old m ≡ Some (Mutex x)
        → WritesObject old new m (Mutex (record x { view = mutex_after_acquire x.view w.client })))
        → AreObjectRows (after_grant h w) new
    object_rows-behind-mutex new m e replies wr =
        let x = granted-mutex m e in
        let here = wr x.0 x.1 in
        object_rows-written h (Grant w.place (grant_outcome h w)) old new m
        (Mutex (record x.0 { view = mutex_after_acquire x.0.view w.client })) t here
        (object_rows-grant-mutex h (object_value old) w f i s t.look
        (object_value new) m x.0 e x.1 replies
        here.look) (λ n. refl) refl

    -- a mutex that is lost stays as it is
    pub object_rows-behind-lost : (m : ℕ) → final_mutex w.role w.object ≡ Some m
        → is_acquired (grant_outcome h w) ≡ false → AreObjectRows (after_grant h w) old
    object_rows-behind-lost m e replies =
        object_rows-kept h (Grant w.place (grant_outcome h w)) old t
        (object_rows-grant-lost h (object_value old) w f i s t.look m e replies) (λ n. refl) refl

    -- the client can be given the lock for reading
    pub acquires-read : w.role ≡ ForRead → (r : RwlockState)
        → object_value old w.object ≡ Some (Rwlock r) → can_acquire_read r w.client ≡ true
    acquires-read role r k =
        read-acquire h f w r i (granted-may h w f i s) role (t.look.rwlocks w.object r k)

    -- and holds it once more
    pub object_rows-behind-read : (new : List (ObjectRow (Object A))) → w.role ≡ ForRead
        → ((r : RwlockState) → object_value old w.object ≡ Some (Rwlock r)
        → WritesObject old new w.object (Rwlock (with_reads r w.client (reads_of r w.client + 1))))
        → ((r : RwlockState) → object_value old w.object ≡ Some (Rwlock r)
        → ChangesRow r (with_reads r w.client (reads_of r w.client + 1)) w.client
        (Some (reads_of r w.client + 1)))
        → AreObjectRows (after_grant h w) new
    object_rows-behind-read new role wr row =
        let r = read-lock role in
        let here = wr r.0 r.1 in
        let r' = with_reads r.0 w.client (reads_of r.0 w.client + 1) in
        object_rows-written h (Grant w.place (grant_outcome h w)) old new w.object
        (Rwlock r') t here
        (object_rows-grant-read h (object_value old) w f i s t.look
        (object_value new) r.0 r' role r.1
        refl (row r.0 r.1) here.look) (λ n. refl) refl

    -- the client can be given the lock for writing
    pub acquires-write : w.role ≡ ForWrite → (r : RwlockState)
        → object_value old w.object ≡ Some (Rwlock r) → nobody_holds r ≡ true
    acquires-write role r k =
        write-acquire h f w r (granted-may h w f i s) role (t.look.rwlocks w.object r k)

    -- and holds it
    pub object_rows-behind-write : (new : List (ObjectRow (Object A))) → w.role ≡ ForWrite
        → ((r : RwlockState) → object_value old w.object ≡ Some (Rwlock r)
        → WritesObject old new w.object (Rwlock (record r { writer = Some w.client })))
        → AreObjectRows (after_grant h w) new
    object_rows-behind-write new role wr =
        let r = write-lock role in
        let here = wr r.0 r.1 in
        object_rows-written h (Grant w.place (grant_outcome h w)) old new w.object
        (Rwlock (record r.0 { writer = Some w.client })) t here
        (object_rows-grant-write h (object_value old) w f i s t.look (object_value new) r.0 role r.1
        here.look) (λ n. refl) refl
