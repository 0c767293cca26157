-- CandidateRows: the candidate of an object, as the rows of objects and of clients give it.
use Rattle.std.proofs.Common.{◌≡◌, ℕ, Bool, true, false, cond, not, ◌&&◌, ◌||◌, ◌==◌, nat_lt, List}
use Rattle.std.proofs.Common.{nat_le, subst}
use Rattle.std.proofs.Common.{Option, Some, None, is_some, is_none, refl, sym, ap, ◌∙◌, arith}
use Rattle.std.proofs.lemmas.Bool.Decides.{nat_tests}
use Rattle.pt_types.specs.MutexTable.{is_not_recoverable, is_recursive, can_grant_mutex}
use Rattle.pt_types.specs.declared.views.MutexView.{MutexView}
use Rattle.pt_types.specs.declared.call.How.{How}
use Rattle.pt_types.specs.declared.call.How.TheVariants.{Plain}
use Rattle.pt_types.specs.declared.outcome.Outcome.TheVariants.{Eagain}
use Rattle.pt_types.specs.declared.outcome.Verdict.TheVariants.{Reply, Stands}
use Rattle.pt_types.specs.declared.views.RwlockView.{RwlockView}
use Rattle.pt_types.specs.Limits.{max_read_locks}
use Rattle.pt_types.specs.RwlockTable.{can_grant_read, read_verdict, relock_outcome}
use Rattle.pt_mutex.specs.MutexState.{MutexState}
use Rattle.pt_rwlock.specs.RwlockState.{RwlockState, has_readers, nobody_holds, reads_of}
use Rattle.pt_rwlock.specs.RwlockState.{view_for}
use Rattle.pt_table.specs.declared.clients.ClientRow.{ClientRow}
use Rattle.pt_table.specs.ClientRows.{client_value}
use Rattle.pt_table.specs.declared.objects.ObjectRow.{ObjectRow}
use Rattle.pt_table.specs.ObjectRows.{object_value}
use Rattle.pt_model.specs.Searches.{In}
use Rattle.pt_model.specs.Histories.{History}
use Rattle.pt_model.specs.Objects.{kind_of, mutex_kind}
use Rattle.pt_model.specs.declared.waiting_call.WaitingCall.{WaitingCall}
use Rattle.pt_model.specs.declared.waiting_call.Move.{Move}
use Rattle.pt_model.specs.declared.waiting_call.Role.{Role}
use Rattle.pt_model.specs.declared.waiting_call.Role.TheVariants.{ForMutex, ForRead, ForWrite}
use Rattle.pt_model.specs.declared.waiting_call.Role.TheVariants.{ForBarrier, ForCond}
use Rattle.pt_model.specs.WaitingCall.{is_cond_wait, is_write_lock}
use Rattle.pt_model.specs.Moves.{wait_move, is_moved, wait_object_by, wait_object}
use Rattle.pt_model.specs.Mutexes.{owner, consistency, mutex_view}
use Rattle.pt_model.specs.Rwlocks.{read_count, write_holder, first_reader}
use Rattle.pt_model.specs.Steps.{Follows}
use Rattle.pt_next_grant.specs.Candidates.{is_back_at_mutex, latest_caller, first_at, if_passes}
use Rattle.pt_next_grant.specs.Candidates.{is_read_lock}
use Rattle.pt_next_grant.specs.Candidates.{is_write_if, mutex_candidate, open_call_if}
use Rattle.pt_next_grant.specs.Candidates.{is_read_relock_at}
use Rattle.pt_next_grant.specs.Candidates.{rwlock_candidate}
use Rattle.pt_next_grant.specs.Touched.{open_call_of}
use Rattle.pt_records.specs.declared.clients.Caller.{Caller}
use Rattle.pt_records.specs.declared.clients.Open.{Open}
use Rattle.pt_records.specs.declared.objects.Object.{Object}
use Rattle.pt_records.specs.declared.objects.Object.TheVariants as row
use Rattle.pt_records.specs.Callers.{AreCallers, open_in, opens_of}
use Rattle.pt_records.specs.Objects.{IsRwlock, ObjectsLook}
use Rattle.pt_records.specs.OpenRows.{object_of}
use Rattle.pt_state.specs.Serving.{call_of_open, move_of}
use Rattle.pt_state.proofs.GrantLemmas.{read-same}
use Rattle.pt_state.proofs.ServingFinds.{are-open}
use Rattle.pt_machine.proofs.OpenRowCalls.{row-call, row-object}
use Rattle.pt_machine.proofs.QueueFirsts.{found-known}

and_true : (b : Bool) → (b && true) ≡ b
and_true true = refl
and_true false = refl

-- a call that passes is found, and one that does not is not
pub if_taken : (b : Bool) (w : WaitingCall) (x : Option WaitingCall) → b ≡ true
    → cond b (Some w) None ≡ x → Some w ≡ x
if_taken b w x e t = ap (λ (y : Bool). cond y (Some w) None) (sym e) ∙ t

pub if_left : (b : Bool) (w : WaitingCall) (x : Option WaitingCall) → b ≡ false
    → cond b (Some w) None ≡ x → None ≡ x
if_left b w x e t = ap (λ (y : Bool). cond y (Some w) None) (sym e) ∙ t

-- a writer may go on if nobody holds the lock
pub may-go : (writes free : Bool) → free ≡ true → (writes && not free) ≡ false
may-go true free e = ap not e
may-go false free e = refl

-- the verdict on a plain call for a read lock is the same, whoever waits before it
pub plain-stands : (v : RwlockView) (how : How) (blocked : Bool) → how ≡ Plain
    → read_verdict v false how ≡ read_verdict v blocked how
plain-stands v how blocked is =
    subst (λ (h : How). read_verdict v false h ≡ read_verdict v blocked h) (sym is)
    (either v.writes (nat_le max_read_locks v.reads) (nat_lt 0 v.reads) (not v.is_written && true)
    (not v.is_written && not blocked))
  where
    either : (a b c d e : Bool)
        → cond a (Reply (relock_outcome false)) (cond b (Reply Eagain)
        (cond c Stands (cond d Stands Stands)))
        ≡ cond a (Reply (relock_outcome false)) (cond b (Reply Eagain)
        (cond c Stands (cond e Stands Stands)))
    either true b c d e = refl
    either false true c d e = refl
    either false false true d e = refl
    either false false false true true = refl
    either false false false true false = refl
    either false false false false true = refl
    either false false false false false = refl

-- an option that is not some is none
pub empty : (x : Option ℕ) → is_some x ≡ false → x ≡ None
empty None e = refl
empty (Some c) e = absurd cc

module _ {A : Type 0} (h : History) (clients : List (ClientRow Caller))
    (objects : List (ObjectRow (Object A))) (f : Follows h) (a : AreCallers h clients)
    (t : ObjectsLook h (object_value objects)) where
  module _ (m : ℕ) (x : MutexState) (stored : object_value objects m ≡ Some (row.Mutex x)) where
    seen : x.view ≡ mutex_view h m
    seen = (t.mutexes m x stored).0

    -- whether the mutex is free or not recoverable, by its row
    free : can_grant_mutex x.view true ≡ (is_not_recoverable (consistency h m)
        || is_none (owner h m))
    free =
        ap (λ b. is_not_recoverable x.view.consistency || b) (and_true (is_none x.view.owner))
        ∙ ap (λ (v : MutexView). is_not_recoverable v.consistency || is_none v.owner) seen

    -- a mutex that has an owner serves the owner's call if that has come back to it
    owned : (c : ℕ) → can_grant_mutex x.view true ≡ false → x.view.owner ≡ Some c
        → if_passes (is_back_at_mutex h m) (open_call_of h c) ≡ mutex_candidate h m
    owned c n e =
        ap (λ o. if_passes (is_back_at_mutex h m) (open_call_if h o))
        (sym e ∙ ap (λ (v : MutexView). v.owner) seen)
        ∙ ap (λ b. cond b (first_at h m) (if_passes (is_back_at_mutex h m) (open_call_if h
        (owner h m))))
        (sym n ∙ free)

    -- whether a call has come back to it, by its row
    back : (o : Open) → In o (opens_of clients)
        → ((object_of o == m)
        && (is_recursive x.view.kind && (is_cond_wait (call_of_open o).role
        && is_some (move_of o))))
        ≡ is_back_at_mutex h m (call_of_open o)
    back o i =
        ap (λ n. (n == m)
        && (is_recursive x.view.kind && (is_cond_wait (call_of_open o).role
        && is_some (move_of o))))
        (row-object h clients f a o i)
        ∙ (ap (λ (v : MutexView). (wait_object h (call_of_open o) == m)
        && (is_recursive v.kind && (is_cond_wait (call_of_open o).role
        && is_some (move_of o)))) seen
        ∙ ap (λ (v : Option Move). (wait_object h (call_of_open o) == m)
        && (is_recursive (mutex_kind (kind_of h m)) && (is_cond_wait (call_of_open o).role
        && is_some v)))
        ((are-open h clients f a).has_call o i).1)

    -- the first call is served if the mutex may be locked
    pub mutex-free : can_grant_mutex x.view true ≡ true → first_at h m ≡ mutex_candidate h m
    mutex-free may =
        ap (λ b. cond b (first_at h m) (if_passes (is_back_at_mutex h m) (open_call_if h
        (owner h m))))
        (sym may ∙ free)

    -- no call is served if the mutex may not be locked and is not RECURSIVE
    pub mutex-plain : can_grant_mutex x.view true ≡ false → is_recursive x.view.kind ≡ false
        → None ≡ mutex_candidate h m
    mutex-plain n plain =
        none (open_call_if h (owner h m))
        ∙ ap (λ b. cond b (first_at h m) (if_passes (is_back_at_mutex h m) (open_call_if h
        (owner h m))))
        (sym n ∙ free)
      where
        no : (a b : Bool) (w : WaitingCall) → b ≡ false
            → None ≡ cond (a && (b && (is_cond_wait w.role && is_moved h w))) (Some w) None
        no true false w e = refl
        no false false w e = refl
        no a true w e = absurd cc

        none : (o : Option WaitingCall) → None ≡ if_passes (is_back_at_mutex h m) o
        none None = refl
        none (Some w) =
            no (wait_object h w == m) (is_recursive (mutex_kind (kind_of h m))) w
            (sym (ap (λ (v : MutexView). is_recursive v.kind) seen) ∙ plain)

    -- the call that is served if the owner has an open call
    pub mutex-served : (c : ℕ) → can_grant_mutex x.view true ≡ false → is_recursive x.view.kind
        ≡ true
        → x.view.owner ≡ Some c → (o : Open) → Some o ≡ open_in (client_value clients c)
        → (b : Bool)
        → b ≡ ((object_of o == m) && (is_cond_wait (call_of_open o).role && is_some (move_of o)))
        → cond b (Some (call_of_open o)) None ≡ mutex_candidate h m
    mutex-served c n counts own o e b test =
        ap (λ y. cond y (Some (call_of_open o)) None)
        (test
        ∙ (ap (λ r. (object_of o == m)
        && (r && (is_cond_wait (call_of_open o).role && is_some (move_of o)))) (sym counts)
        ∙ back o (found-known clients c (Some o) e)))
        ∙ (ap (if_passes (is_back_at_mutex h m)) (row-call h clients f a c (Some o) e)
        ∙ owned c n own)

    -- no call is served if the owner has none
    pub mutex-idle : (c : ℕ) → can_grant_mutex x.view true ≡ false → x.view.owner ≡ Some c
        → None ≡ open_in (client_value clients c) → None ≡ mutex_candidate h m
    mutex-idle c n own e =
        ap (if_passes (is_back_at_mutex h m)) (row-call h clients f a c None e) ∙ owned c n own

  module _ (r : ℕ) (x : RwlockState) (stored : object_value objects r ≡ Some (row.Rwlock x))
      (unwritten : x.writer ≡ None) where
    kept : IsRwlock h r x
    kept = t.rwlocks r x stored

    -- whether its client reads there already, by its row
    more : (o : Open) → In o (opens_of clients)
        → ((object_of o == r)
        && (is_read_lock (call_of_open o).role && can_grant_read (view_for x o.call.client) true))
        ≡ is_read_relock_at h r (call_of_open o)
    more o i =
        ap (λ n. (n == r) && (is_read_lock (call_of_open o).role
        && can_grant_read (view_for x o.call.client) true))
        (row-object h clients f a o i)
        ∙ by_role (call_of_open o).role (wait_object h (call_of_open o)) refl
      where
        counts : o.call.object ≡ r → can_grant_read (view_for x o.call.client) true
            ≡ nat_lt 0 (read_count h o.call.object o.call.client)
        counts e =
            ap (λ (w : Option ℕ). not (is_some w) && nat_lt 0 (reads_of x o.call.client)) unwritten
            ∙ ap (nat_lt 0) (kept.reads o.call.client
            ∙ ap (λ q. read_count h q o.call.client) (sym e))

        by_role : (role : Role) (n : ℕ)
            → n ≡ wait_object_by role (wait_move h o.call.place) o.call.object
            → ((n == r) && (is_read_lock role && can_grant_read (view_for x o.call.client) true))
            ≡ ((n == r) && (is_read_lock role
            && nat_lt 0 (read_count h o.call.object o.call.client)))
        by_role ForRead n e = go (n == r) refl
          where
            go : (b : Bool) → (n == r) ≡ b
                → (b && can_grant_read (view_for x o.call.client) true)
                ≡ (b && nat_lt 0 (read_count h o.call.object o.call.client))
            go true q = let at : n ≡ r = grind (arith, nat_tests) in counts (sym e ∙ at)
            go false q = refl
        by_role ForMutex n e = refl
        by_role ForWrite n e = refl
        by_role ForBarrier n e = refl
        by_role (ForCond k) n e = refl

    -- the call that is served for the client whose call came last
    pub again-served : (c : ℕ) → Some c ≡ latest_caller h → (o : Open)
        → Some o ≡ open_in (client_value clients c)
        → (b : Bool) → b ≡ ((object_of o == r)
        && (is_read_lock (call_of_open o).role && can_grant_read (view_for x o.call.client) true))
        → cond b (Some (call_of_open o)) None
        ≡ if_passes (is_read_relock_at h r) (open_call_if h (latest_caller h))
    again-served c come o e b test =
        ap (λ y. cond y (Some (call_of_open o)) None)
        (test ∙ more o (found-known clients c (Some o) e))
        ∙ (ap (if_passes (is_read_relock_at h r)) (row-call h clients f a c (Some o) e)
        ∙ ap (λ y. if_passes (is_read_relock_at h r) (open_call_if h y)) come)

    -- no call is, if that client has no open call
    pub again-idle : (c : ℕ) → Some c ≡ latest_caller h → None ≡ open_in (client_value clients c)
        → None ≡ if_passes (is_read_relock_at h r) (open_call_if h (latest_caller h))
    again-idle c come e =
        ap (if_passes (is_read_relock_at h r)) (row-call h clients f a c None e)
        ∙ ap (λ y. if_passes (is_read_relock_at h r) (open_call_if h y)) come

    nobody_writes : is_some (write_holder h r) ≡ false
    nobody_writes = ap is_some (sym kept.writer ∙ unwritten)

    -- whether any client reads, by the row of the lock
    read : (b : Bool) → nobody_holds x ≡ b → is_some (first_reader h r) ≡ not b
    read b e =
        sym (read-same h r x f kept)
        ∙ turned (has_readers x) b
        (ap (λ (w : Option ℕ). not (is_some w) && not (has_readers x)) (sym unwritten) ∙ e)
      where
        turned : (y z : Bool) → not y ≡ z → y ≡ not z
        turned true false e = refl
        turned false true e = refl
        turned true true e = absurd cc
        turned false false e = absurd cc

    -- if others read and a writer is first, only the call that came last can be served
    pub lock-again : nobody_holds x ≡ false → (w : WaitingCall) → Some w ≡ first_at h r
        → is_write_lock w.role ≡ true
        → if_passes (is_read_relock_at h r) (open_call_if h (latest_caller h))
        ≡ rwlock_candidate h r
    lock-again n w e writes =
        sym
        (ap (λ b. cond b None (cond (is_some (first_reader h r) && is_write_if (first_at h r))
        (if_passes (is_read_relock_at h r) (open_call_if h (latest_caller h))) (first_at h r)))
        nobody_writes
        ∙ (ap (λ b. cond (b && is_write_if (first_at h r))
        (if_passes (is_read_relock_at h r) (open_call_if h (latest_caller h))) (first_at h r))
        (read false n)
        ∙ ap (λ b. cond b (if_passes (is_read_relock_at h r) (open_call_if h (latest_caller h)))
        (first_at h r)) (ap is_write_if (sym e) ∙ writes)))

    -- otherwise the first is served
    pub lock-first : (w : WaitingCall) → Some w ≡ first_at h r
        → (is_write_lock w.role && not (nobody_holds x)) ≡ false → Some w ≡ rwlock_candidate h r
    lock-first w e may =
        e
        ∙ sym
        (ap (λ b. cond b None (cond (is_some (first_reader h r) && is_write_if (first_at h r))
        (if_passes (is_read_relock_at h r) (open_call_if h (latest_caller h))) (first_at h r)))
        nobody_writes
        ∙ (ap (λ b. cond (b && is_write_if (first_at h r))
        (if_passes (is_read_relock_at h r) (open_call_if h (latest_caller h))) (first_at h r))
        (read (nobody_holds x) refl)
        ∙ (ap (λ (v : Option WaitingCall). cond (not (nobody_holds x) && is_write_if v)
        (if_passes (is_read_relock_at h r) (open_call_if h (latest_caller h))) (first_at h r))
        (sym e)
        ∙ ap (λ b. cond b (if_passes (is_read_relock_at h r) (open_call_if h (latest_caller h)))
        (first_at h r)) (turned_round (is_write_lock w.role) (not (nobody_holds x)) may))))
      where
        turned_round : (a b : Bool) → (a && b) ≡ false → (b && a) ≡ false
        turned_round true true e = e
        turned_round true false e = refl
        turned_round false true e = refl
        turned_round false false e = refl

    -- and no call is, if none waits
    pub lock-unasked : None ≡ first_at h r → None ≡ rwlock_candidate h r
    lock-unasked e =
        sym
        (ap (λ b. cond b None (cond (is_some (first_reader h r) && is_write_if (first_at h r))
        (if_passes (is_read_relock_at h r) (open_call_if h (latest_caller h))) (first_at h r)))
        nobody_writes
        ∙ (ap (λ (v : Option WaitingCall). cond (is_some (first_reader h r) && is_write_if v)
        (if_passes (is_read_relock_at h r) (open_call_if h (latest_caller h))) v) (sym e)
        ∙ none (is_some (first_reader h r))))
      where
        none : (b : Bool) → cond (b && false)
            (if_passes (is_read_relock_at h r) (open_call_if h (latest_caller h))) None ≡ None
        none true = refl
        none false = refl
