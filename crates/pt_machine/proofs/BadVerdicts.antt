-- Calls that are left waiting with a deadline that is not a time: those for a lock that is free.
use Rattle.std.proofs.Common.{◌≡◌, ℕ, inl, inr, nat_lt, nat_le, Bool, true, false, cond, not, ◌&&◌}
use Rattle.std.proofs.Common.{◌||◌, Option, Some, None, is_none, is_some, unwrap_or, refl, sym, ◌∙◌}
use Rattle.std.proofs.Common.{subst}
use Rattle.std.proofs.lemmas.Bool.{false≢true}
use Rattle.pt_types.specs.declared.call.Call.{Call as FunctionCall}
use Rattle.pt_types.specs.declared.call.How.{How}
use Rattle.pt_types.specs.declared.outcome.Outcome.{Outcome}
use Rattle.pt_types.specs.declared.outcome.Outcome.TheVariants.{Done, Eperm, Einval, Ebusy, Eagain}
use Rattle.pt_types.specs.declared.outcome.Outcome.TheVariants.{Edeadlk}
use Rattle.pt_types.specs.declared.outcome.Verdict.TheVariants.{Reply, Stands}
use Rattle.pt_types.specs.Times.{Timespec, has_invalid_deadline}
use Rattle.pt_types.specs.declared.time.Clock.{Clock}
use Rattle.pt_types.specs.Operations.{Operation, Inits, Ends, Acquires, Unlocks, Restores}
use Rattle.pt_types.specs.Operations.{Rwunlocks, CondWaits, Signals, Broadcasts, BarrierWaits, operation}
use Rattle.pt_types.specs.Operations.{is_try, deadline_of, clock_of}
use Rattle.pt_types.specs.declared.operations.ObjectClass.TheVariants.{Mutex as MutexClass}
use Rattle.pt_types.specs.declared.operations.ObjectClass.TheVariants.{Rwlock as RwlockClass}
use Rattle.pt_types.specs.declared.operations.ObjectClass.TheVariants.{Cond as CondClass}
use Rattle.pt_types.specs.declared.operations.LockKind.TheVariants.{MutexLock, ReadLock, WriteLock}
use Rattle.pt_types.specs.Limits.{max_locks, max_read_locks}
use Rattle.pt_types.specs.MutexTable.{owns, is_recursive, is_errorcheck, is_not_recoverable}
use Rattle.pt_types.specs.MutexTable.{can_grant_mutex}
use Rattle.pt_types.specs.declared.views.MutexView.{MutexView}
use Rattle.pt_types.specs.RwlockTable.{has_lock, is_free, relock_outcome, can_grant_read}
use Rattle.pt_types.specs.declared.views.RwlockView.{RwlockView}
use Rattle.pt_types.specs.CondTable.{is_bound_elsewhere}
use Rattle.pt_types.specs.Tables.{reply}
use Rattle.pt_model.specs.declared.entry.Entry.TheVariants.{Call}
use Rattle.pt_model.specs.Searches.{In}
use Rattle.pt_model.specs.Histories.{History, place}
use Rattle.pt_model.specs.Clients.{client_priority}
use Rattle.pt_model.specs.Objects.{find_object}
use Rattle.pt_model.specs.declared.waiting_call.WaitingCall.{WaitingCall}
use Rattle.pt_model.specs.declared.waiting_call.Role.{Role}
use Rattle.pt_model.specs.declared.waiting_call.Role.TheVariants.{ForMutex, ForRead, ForWrite}
use Rattle.pt_model.specs.declared.waiting_call.Role.TheVariants.{ForBarrier, ForCond}
use Rattle.pt_model.specs.WaitingCall.{waiting_calls_by_operation, waiting_calls_by}
use Rattle.pt_model.specs.WaitingCall.{is_barrier_wait}
use Rattle.pt_model.specs.Moves.{waiting_at}
use Rattle.pt_model.specs.Mutexes.{owner, consistency, mutex_view}
use Rattle.pt_model.specs.Rwlocks.{is_writer, read_count, write_holder, rwlock_view}
use Rattle.pt_model.specs.Grants.{is_blocked, may_go_on}
use Rattle.pt_model.specs.Verdicts.{verdict_on, bound_mutex, lock_kind_verdict, awaits_verdict}
use Rattle.pt_model.specs.Verdicts.{operation_verdict, verdict}
use Rattle.pt_model.specs.Steps.{Follows}
use Rattle.pt_model.proofs.Leasts.{first_below-passes}
use Rattle.pt_model.proofs.Changes.{awaited}
use Rattle.pt_model.proofs.Rwlocks.{alone}
use Rattle.pt_machine.specs.CallDeadlines.{operation_deadline}

-- whether a role is for a lock
abbrev pub is_for_lock : Role → Bool
is_for_lock ForMutex = true
is_for_lock ForRead = true
is_for_lock ForWrite = true
is_for_lock _ = false

-- such a role gives back no mutex, and is not for a barrier
pub lock_role : (role : Role) → is_for_lock role ≡ true → (is_barrier_wait role ≡ false)
    × ((m : ℕ) → awaited role m ≡ false)
lock_role ForMutex e = (refl, λ m. refl)
lock_role ForRead e = (refl, λ m. refl)
lock_role ForWrite e = (refl, λ m. refl)
lock_role ForBarrier e = absurd cc
lock_role (ForCond m) e = absurd cc

-- if a call for a mutex is left waiting with such a deadline, the mutex may be had, apart from the
-- order of calls
lock_bad : (h : History) (c : ℕ) (how : How) (o : Option ℕ)
    → reply (verdict_on o (λ m. lock_kind_verdict h c m MutexLock how)) ≡ None
    → has_invalid_deadline (deadline_of how) ≡ true
    → can_grant_mutex (mutex_view h (unwrap_or o 0)) true ≡ true
lock_bad h c how None e bad = absurd cc
lock_bad h c how (Some m) e bad =
    go (is_not_recoverable (consistency h m)) (is_none (owner h m))
    (owns v c && (is_recursive v.kind && nat_lt v.count max_locks))
    (owns v c && is_recursive v.kind) (is_try how) (owns v c && is_errorcheck v.kind)
    (has_invalid_deadline (deadline_of how)) bad e
  where
    v : MutexView
    v = mutex_view h m

    go : (l f s t u x y : Bool) → y ≡ true → reply (cond l Stands (cond f Stands
        (cond s (Reply Done) (cond t (Reply Eagain)
        (cond u (Reply Ebusy) (cond x (Reply Edeadlk) (cond y (Reply Einval) Stands)))))))
        ≡ None → (l || (f && true)) ≡ true
    go true f s t u x y k e = refl
    go false true s t u x y k e = refl
    go false false true t u x y k e = absurd cc
    go false false false true u x y k e = absurd cc
    go false false false false true x y k e = absurd cc
    go false false false false false true y k e = absurd cc
    go false false false false false false true k e = absurd cc
    go false false false false false false false k e = absurd cc

-- no writer holds a lock on which a client has read locks
unwritten : (h : History) → Follows h → (r c : ℕ) → nat_lt 0 (read_count h r c) ≡ true
    → not (is_some (write_holder h r)) ≡ true
unwritten h f r c t = go (write_holder h r) refl
  where
    go : (o : Option ℕ) → write_holder h r ≡ o → not (is_some o) ≡ true
    go None e = refl
    go (Some d) e =
        let own = first_below-passes (place h) (λ k. is_writer h r k) d e in
        absurd (false≢true (sym (alone h f r d c own).1 ∙ t))

-- the same for a read lock
read_bad : (h : History) → Follows h → (c : ℕ) (how : How) (o : Option ℕ)
    → reply (verdict_on o (λ r. lock_kind_verdict h c r ReadLock how)) ≡ None
    → has_invalid_deadline (deadline_of how) ≡ true
    → can_grant_read (rwlock_view h (unwrap_or o 0) c)
    (is_blocked h (unwrap_or o 0) (unwrap_or (client_priority h c) 0)) ≡ true
read_bad h f c how None e bad = absurd cc
read_bad h f c how (Some r) e bad =
    go (relock_outcome (is_try how)) (is_try how) (is_writer h r c) (nat_le max_read_locks
    (read_count h r c))
    (nat_lt 0 (read_count h r c)) (not (is_some (write_holder h r)))
    (not (is_blocked h r (unwrap_or (client_priority h c) 0)))
    (has_invalid_deadline (deadline_of how)) bad (unwritten h f r c) e
  where
    go : (x : Outcome) (u w l p a b y : Bool) → y ≡ true → (p ≡ true → a ≡ true)
        → reply (cond w (Reply x) (cond l (Reply Eagain)
        (cond p Stands (cond (a && b) Stands
        (cond u (Reply Ebusy) (cond y (Reply Einval) Stands)))))) ≡ None
        → (a && (b || p)) ≡ true
    go x u true l p a b y k free e = absurd cc
    go x u false true p a b y k free e = absurd cc
    go x u false false true a true y k free e = rw (free refl) refl
    go x u false false true a false y k free e = rw (free refl) refl
    go x u false false false true true y k free e = refl
    go x true false false false true false y k free e = absurd cc
    go x false false false false true false true k free e = absurd cc
    go x false false false false true false false k free e = absurd cc
    go x true false false false false b y k free e = absurd cc
    go x false false false false false b true k free e = absurd cc
    go x false false false false false b false k free e = absurd cc

-- the same for a write lock
write_bad : (h : History) (c : ℕ) (how : How) (o : Option ℕ)
    → reply (verdict_on o (λ r. lock_kind_verdict h c r WriteLock how)) ≡ None
    → has_invalid_deadline (deadline_of how) ≡ true
    → is_free (rwlock_view h (unwrap_or o 0) c) ≡ true
write_bad h c how None e bad = absurd cc
write_bad h c how (Some r) e bad =
    go (relock_outcome (is_try how)) (is_try how) (has_lock v) (is_free v)
    (has_invalid_deadline (deadline_of how)) bad e
  where
    v : RwlockView
    v = rwlock_view h r c

    go : (x : Outcome) (u w f y : Bool) → y ≡ true → reply (cond w (Reply x) (cond f Stands
        (cond u (Reply Ebusy) (cond y (Reply Einval) Stands)))) ≡ None → f ≡ true
    go x u true f y k e = absurd cc
    go x u false true y k e = refl
    go x true false false y k e = absurd cc
    go x false false false true k e = absurd cc
    go x false false false false k e = absurd cc

-- a wait is never left waiting with such a deadline
wait_bad : (h : History) (c : ℕ) (d : Option Timespec) (o p : Option ℕ)
    → reply (verdict_on o (λ q. verdict_on p (λ m. awaits_verdict h c q m d))) ≡ None
    → has_invalid_deadline d ≡ true → ⊥
wait_bad h c d None p e bad = absurd cc
wait_bad h c d (Some q) None e bad = absurd cc
wait_bad h c d (Some q) (Some m) e bad =
    go (has_invalid_deadline d) (is_bound_elsewhere (bound_mutex (waiting_at h q)) m)
    (owns (mutex_view h m) c) bad e
  where
    go : (a b x : Bool) → a ≡ true → reply (cond a (Reply Einval)
        (cond b (Reply Einval) (cond (not x) (Reply Eperm) Stands))) ≡ None → ⊥
    go true b x k e = cc
    go false b x k e = absurd cc

-- a call for a lock that may be had at once, apart from the order of calls
abbrev pub Ready : History → WaitingCall → Type 0
Ready h w = (is_for_lock w.role ≡ true) × (may_go_on h w ≡ true)

-- an operation with such a deadline leaves only such a call waiting
operation_bad : (h : History) → Follows h → (c : ℕ) (z : Clock) (d : Operation)
    → reply (operation_verdict h c d) ≡ None → has_invalid_deadline (operation_deadline d) ≡ true
    → (w : WaitingCall)
    → In w (waiting_calls_by_operation h c z d) → Ready h w
operation_bad h f c z (Acquires n MutexLock how) e bad w (inl i) =
    subst (Ready h) (sym i) (refl, lock_bad h c how (find_object h n MutexClass) e bad)
operation_bad h f c z (Acquires n MutexLock how) e bad w (inr i) = absurd i
operation_bad h f c z (Acquires n ReadLock how) e bad w (inl i) =
    subst (Ready h) (sym i) (refl, read_bad h f c how (find_object h n RwlockClass) e bad)
operation_bad h f c z (Acquires n ReadLock how) e bad w (inr i) = absurd i
operation_bad h f c z (Acquires n WriteLock how) e bad w (inl i) =
    subst (Ready h) (sym i) (refl, write_bad h c how (find_object h n RwlockClass) e bad)
operation_bad h f c z (Acquires n WriteLock how) e bad w (inr i) = absurd i
operation_bad h f c z (CondWaits n m d) e bad w i =
    absurd (wait_bad h c d (find_object h n CondClass) (find_object h m MutexClass) e bad)
operation_bad h f c z (BarrierWaits n) e bad w i = absurd cc
operation_bad h f c z (Inits n kind) e bad w i = absurd i
operation_bad h f c z (Ends n class) e bad w i = absurd i
operation_bad h f c z (Unlocks n) e bad w i = absurd i
operation_bad h f c z (Restores n) e bad w i = absurd i
operation_bad h f c z (Rwunlocks n) e bad w i = absurd i
operation_bad h f c z (Signals n) e bad w i = absurd i
operation_bad h f c z (Broadcasts n) e bad w i = absurd i

-- and so does a call
pub call_bad : (h : History) → Follows h → (c : ℕ) (call : FunctionCall) (x : Option Outcome)
    → reply (verdict h c call) ≡ x → has_invalid_deadline (operation_deadline (operation call))
    ≡ true
    → (w : WaitingCall)
    → In w (waiting_calls_by h (Call c call x)) → Ready h w
call_bad h f c call None e bad w i = operation_bad h f c (clock_of call) (operation call) e bad w i
call_bad h f c call (Some x) e bad w i = absurd i
