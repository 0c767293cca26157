-- CallRules: the line of all verdict tables that applies to a call, as it is read off the history.
use Rattle.std.specs.Prelude.{◌≡◌, ℕ, Bool, true, false, List, Option, Some, None}
use Rattle.std.specs.Prelude.{is_some, if◌then◌else◌}
use Rattle.pt_types.specs.declared.call.Call.{Call}
use Rattle.pt_types.specs.declared.call.How.{How}
use Rattle.pt_types.specs.declared.call.How.TheVariants.{Plain}
use Rattle.pt_types.specs.declared.operations.LockKind.{LockKind}
use Rattle.pt_types.specs.declared.operations.LockKind.TheVariants.{MutexLock, ReadLock, WriteLock}
use Rattle.pt_types.specs.declared.operations.ObjectClass.TheVariants as class
use Rattle.pt_types.specs.declared.outcome.Outcome.TheVariants.{Einval}
use Rattle.pt_types.specs.declared.outcome.Verdict.{Verdict}
use Rattle.pt_types.specs.declared.outcome.Verdict.TheVariants.{Reply, Stands}
use Rattle.pt_types.specs.Operations.{Operation, Inits, Ends, Acquires, Unlocks, Restores}
use Rattle.pt_types.specs.Operations.{Rwunlocks, CondWaits, Signals, Broadcasts, BarrierWaits}
use Rattle.pt_types.specs.Operations.{operation}
use Rattle.pt_types.specs.Times.{Timespec}
use Rattle.pt_model.specs.Histories.{History}
use Rattle.pt_model.specs.Objects.{find_object, object_named, object_count}
use Rattle.pt_model.specs.Mutexes.{mutex_view}
use Rattle.pt_model.specs.Verdicts.{verdict}
use Rattle.pt_readable.specs.Reading.{blocked_at, bound_at, busy_at, mutex_named, rwlock_named}
use Rattle.pt_rules.specs.declared.call.CallRule.{CallRule}
use Rattle.pt_rules.specs.declared.call.CallRule.TheVariants as call
use Rattle.pt_rules.specs.CondRules.{outcome_by_wait_rule, outcome_by_wake_rule, wait_rule}
use Rattle.pt_rules.specs.CondRules.{wake_rule}
use Rattle.pt_rules.specs.MutexRules.{consistent_rule, lock_rule, unlock_rule}
use Rattle.pt_rules.specs.MutexRules.{outcome_by_consistent_rule, outcome_by_lock_rule}
use Rattle.pt_rules.specs.MutexRules.{outcome_by_unlock_rule}
use Rattle.pt_rules.specs.ObjectRules.{destroy_rule, init_rule, outcome_by_destroy_rule}
use Rattle.pt_rules.specs.ObjectRules.{outcome_by_init_rule}
use Rattle.pt_rules.specs.RwlockRules.{read_rule, rwunlock_rule, outcome_by_read_rule}
use Rattle.pt_rules.specs.RwlockRules.{outcome_by_rwunlock_rule, outcome_by_write_rule, write_rule}

-- the rule for a name that means no object of the class that the call needs  [profile]
abbrev pub missing_rule : History → List ℕ → CallRule
missing_rule h n = if is_some (object_named h n) then call.OtherClass else call.NoObject

-- the rule for what a name means, if it means an object of the class that the call needs
abbrev pub rule_on : {A : Type 0} → History → List ℕ → Option A → (A → CallRule) → CallRule
rule_on h n None rule = missing_rule h n
rule_on h n (Some x) rule = rule x

-- the rule for a call for a read lock, of which it is known whether writers come first
abbrev pub read_rule_on : History → List ℕ → ℕ → How → Bool → CallRule
read_rule_on h n c how blocked =
    rule_on h n (rwlock_named h n c) (λ r. call.Read (read_rule r blocked how))

-- the rule for a call for a lock  [XSH pthread_mutex_lock, pthread_rwlock_rdlock]
abbrev pub acquire_rule : History → ℕ → List ℕ → LockKind → How → CallRule
acquire_rule h c n MutexLock how =
    rule_on h n (mutex_named h n) (λ m. call.Lock (lock_rule m c how))
acquire_rule h c n ReadLock how = rule_on h n (blocked_at h n c) (read_rule_on h n c how)
acquire_rule h c n WriteLock how =
    rule_on h n (rwlock_named h n c) (λ r. call.Write (write_rule r how))

-- the rule for a wait at a condition that is bound as this, with the mutex of this number
abbrev pub wait_rule_on : History → ℕ → List ℕ → Option Timespec → Option ℕ → ℕ → CallRule
wait_rule_on h c k due bound number =
    rule_on h k (mutex_named h k)
    (λ m. call.Wait (wait_rule (record { bound = bound }) number m c due))

-- the rule for a wait at a condition that is bound as this  [XSH pthread_cond_timedwait]
abbrev pub await_rule : History → ℕ → List ℕ → Option Timespec → Option ℕ → CallRule
await_rule h c k due bound =
    rule_on h k (find_object h k class.Mutex) (wait_rule_on h c k due bound)

-- the rule for a call that wakes the first wait at a condition, or all of them
-- [XSH pthread_cond_broadcast]
abbrev pub wake_rule_on : History → List ℕ → (all : Bool) → CallRule
wake_rule_on h n all =
    rule_on h n (bound_at h n) (λ bound. call.Wake (wake_rule (record { bound = bound }) all))

-- the rule for a client's operation: the line of its table that applies  [XSH, the call's page]
abbrev pub operation_rule : History → ℕ → Operation → CallRule
operation_rule h c (Inits n kind) =
    call.Init (init_rule kind (is_some (object_named h n)) (object_count h))
operation_rule h c (Ends n class) =
    rule_on h n (busy_at h n class) (λ busy. call.Destroy (destroy_rule busy))
operation_rule h c (Acquires n lock_kind how) = acquire_rule h c n lock_kind how
operation_rule h c (Unlocks n) =
    rule_on h n (mutex_named h n) (λ m. call.Unlock (unlock_rule m c))
operation_rule h c (Restores n) =
    rule_on h n (mutex_named h n) (λ m. call.Consistent (consistent_rule m c))
operation_rule h c (Rwunlocks n) =
    rule_on h n (rwlock_named h n c) (λ r. call.Rwunlock (rwunlock_rule r))
operation_rule h c (CondWaits n k due) = rule_on h n (bound_at h n) (await_rule h c k due)
operation_rule h c (Signals n) = wake_rule_on h n false
operation_rule h c (Broadcasts n) = wake_rule_on h n true
operation_rule h c (BarrierWaits n) = rule_on h n (find_object h n class.Barrier)
    (λ b. call.BarrierWaits)

-- the rule for a client's call  [XSH, the call's page]
abbrev pub call_rule : History → ℕ → Call → CallRule
call_rule h c call = operation_rule h c (operation call)

-- how a call for a lock is made; other calls count as plain ones
abbrev pub how_of : Operation → How
how_of (Acquires n lock_kind how) = how
how_of _ = Plain

-- what a rule says becomes of a call, which is made in this way if it is for a lock
abbrev pub outcome_by_rule : How → CallRule → Verdict
outcome_by_rule how call.NoObject = Reply Einval
outcome_by_rule how call.OtherClass = Reply Einval
outcome_by_rule how (call.Init rule) = outcome_by_init_rule rule
outcome_by_rule how (call.Destroy rule) = outcome_by_destroy_rule rule
outcome_by_rule how (call.Lock rule) = outcome_by_lock_rule rule
outcome_by_rule how (call.Unlock rule) = outcome_by_unlock_rule rule
outcome_by_rule how (call.Consistent rule) = outcome_by_consistent_rule rule
outcome_by_rule how (call.Read rule) = outcome_by_read_rule how rule
outcome_by_rule how (call.Write rule) = outcome_by_write_rule how rule
outcome_by_rule how (call.Rwunlock rule) = outcome_by_rwunlock_rule rule
outcome_by_rule how (call.Wait rule) = outcome_by_wait_rule rule
outcome_by_rule how (call.Wake rule) = outcome_by_wake_rule rule
outcome_by_rule how call.BarrierWaits = Stands

-- Call rules: the verdict of a client's call is what its rule says.
abbrev pub CallRules : Type 0
CallRules =
    (h : History) (c : ℕ) (call : Call)
    → verdict h c call ≡ outcome_by_rule (how_of (operation call)) (call_rule h c call)
