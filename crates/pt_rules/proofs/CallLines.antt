-- The verdict of a call is what its rule says.
use Rattle.std.proofs.Common.{◌≡◌, ℕ, List, Option, Some, None, Bool, true, false, not, ◌&&◌, ◌||◌}
use Rattle.std.proofs.Common.{is_some, nat_lt, option_map, unwrap_or, refl, ap, ◌∙◌}
use Rattle.std.specs.Prelude.{if◌then◌else◌}
use Rattle.pt_types.specs.declared.call.How.{How}
use Rattle.pt_types.specs.declared.call.How.TheVariants.{Plain}
use Rattle.pt_types.specs.declared.operations.LockKind.TheVariants.{MutexLock, ReadLock, WriteLock}
use Rattle.pt_types.specs.declared.operations.ObjectClass.TheVariants as class
use Rattle.pt_types.specs.declared.outcome.Outcome.TheVariants.{Einval}
use Rattle.pt_types.specs.declared.outcome.Verdict.{Verdict}
use Rattle.pt_types.specs.declared.outcome.Verdict.TheVariants.{Reply, Stands}
use Rattle.pt_types.specs.declared.views.RwlockView.{RwlockView}
use Rattle.pt_types.specs.Operations.{Operation, Inits, Ends, Acquires, Unlocks, Restores}
use Rattle.pt_types.specs.Operations.{Rwunlocks, CondWaits, Signals, Broadcasts, BarrierWaits, operation}
use Rattle.pt_types.specs.RwlockTable.{read_verdict}
use Rattle.pt_types.specs.Times.{Timespec}
use Rattle.pt_model.specs.Histories.{History}
use Rattle.pt_model.specs.Clients.{client_priority}
use Rattle.pt_model.specs.Grants.{is_blocked}
use Rattle.pt_model.specs.Moves.{waiting_at}
use Rattle.pt_model.specs.Mutexes.{mutex_view}
use Rattle.pt_model.specs.Objects.{find_object, object_named, object_count}
use Rattle.pt_model.specs.Rwlocks.{rwlock_view}
use Rattle.pt_model.specs.Verdicts.{awaits_verdict, bound_mutex, is_busy, verdict_on}
use Rattle.pt_model.specs.Verdicts.{operation_verdict}
use Rattle.pt_readable.specs.Reading.{reported}
use Rattle.pt_rules.specs.declared.call.CallRule.{CallRule}
use Rattle.pt_rules.specs.declared.call.CallRule.TheVariants as call
use Rattle.pt_rules.specs.CallRules.{CallRules, await_rule, how_of, missing_rule, operation_rule}
use Rattle.pt_rules.specs.CallRules.{rule_on, outcome_by_rule}
use Rattle.pt_rules.specs.CondRules.{wait_rule, wake_rule}
use Rattle.pt_rules.specs.MutexRules.{consistent_rule, lock_rule, unlock_rule}
use Rattle.pt_rules.specs.ObjectRules.{destroy_rule}
use Rattle.pt_rules.specs.RwlockRules.{read_rule, rwunlock_rule, outcome_by_read_rule}
use Rattle.pt_rules.specs.RwlockRules.{outcome_by_rwunlock_rule, outcome_by_write_rule, write_rule}
use Rattle.pt_rules.proofs.Lines.{consistent_rules, destroy_rules, init_rules, lock_rules}
use Rattle.pt_rules.proofs.Lines.{read_rules, rwunlock_rules, unlock_rules, wait_rules}
use Rattle.pt_rules.proofs.Lines.{write_rules}

-- a name that means no object of the class is answered EINVAL
missing-says : (h : History) (n : List ℕ) (how : How)
    → Reply Einval ≡ outcome_by_rule how (missing_rule h n)
missing-says h n how = go (is_some (object_named h n))
  where
    go : (known : Bool)
        → Reply Einval ≡ outcome_by_rule how (if known then call.OtherClass else call.NoObject)
    go true = refl
    go false = refl

-- what is said of an object that a name means, if the rule for it says that
verdict_on-rule : {A : Type 0} (h : History) (n : List ℕ) (how : How) (said : ℕ → Verdict) (view : ℕ
    → A)
    (rule : A → CallRule) → ((o : ℕ) → said o ≡ outcome_by_rule how (rule (view o)))
    → (found : Option ℕ)
    → verdict_on found said ≡ outcome_by_rule how (rule_on h n (option_map view found) rule)
verdict_on-rule h n how said view rule each None = missing-says h n how
verdict_on-rule h n how said view rule each (Some o) = each o

-- the rules of a lock are those of the lock as it is reported
read-same : (r : RwlockView) (blocked : Bool) (how : How)
    → read_rule r blocked how ≡ read_rule (reported r) blocked how
read-same r blocked how = go r.writes
  where
    go : (writes : Bool)
        → read_rule (record r { writes = writes }) blocked how
        ≡ read_rule (reported (record r { writes = writes })) blocked how
    go true = refl
    go false = refl

write-same : (r : RwlockView) (how : How) → write_rule r how ≡ write_rule (reported r) how
write-same r how = go r.writes r.is_written
  where
    go : (writes written : Bool)
        → write_rule (record r { writes = writes; is_written = written }) how
        ≡ write_rule (reported (record r { writes = writes; is_written = written })) how
    go true written = refl
    go false true = refl
    go false false = refl

rwunlock-same : (r : RwlockView) → rwunlock_rule r ≡ rwunlock_rule (reported r)
rwunlock-same r = go r.writes
  where
    go : (writes : Bool)
        → rwunlock_rule (record r { writes = writes })
        ≡ rwunlock_rule (reported (record r { writes = writes }))
    go true = refl
    go false = refl

-- a call for a read lock
read-verdict_on : (h : History) (c : ℕ) (n : List ℕ) (how : How) (found : Option ℕ)
    → verdict_on found (λ r. read_verdict (rwlock_view h r c)
    (is_blocked h r (unwrap_or (client_priority h c) 0)) how)
    ≡ outcome_by_rule how (rule_on h n
    (option_map (λ r. is_blocked h r (unwrap_or (client_priority h c) 0)) found)
    (λ blocked. rule_on h n (option_map (λ r. reported (rwlock_view h r c)) found)
    (λ r. call.Read (read_rule r blocked how))))
read-verdict_on h c n how None = missing-says h n how
read-verdict_on h c n how (Some r) =
    let blocked = is_blocked h r (unwrap_or (client_priority h c) 0) in
    read_rules (rwlock_view h r c) blocked how
    ∙ ap (outcome_by_read_rule how) (read-same (rwlock_view h r c) blocked how)

-- a wait at a condition, with the mutex that a name means
await-verdict_on : (h : History) (c q : ℕ) (k : List ℕ) (due : Option Timespec) (found : Option ℕ)
    → verdict_on found (λ m. awaits_verdict h c q m due)
    ≡ outcome_by_rule Plain (rule_on h k found
    (λ number. rule_on h k (option_map (mutex_view h) found)
    (λ m. call.Wait (wait_rule (record { bound = bound_mutex (waiting_at h q) }) number m c due))))
await-verdict_on h c q k due None = missing-says h k Plain
await-verdict_on h c q k due (Some m) =
    wait_rules (record { bound = bound_mutex (waiting_at h q) }) m (mutex_view h m) c due

-- a call that waits at a barrier
arrive-verdict_on : (h : History) (n : List ℕ) (found : Option ℕ)
    → verdict_on found (λ b. Stands)
    ≡ outcome_by_rule Plain (rule_on h n found (λ b. call.BarrierWaits))
arrive-verdict_on h n None = missing-says h n Plain
arrive-verdict_on h n (Some b) = refl

operation-rules : (h : History) (c : ℕ) (op : Operation)
    → operation_verdict h c op ≡ outcome_by_rule (how_of op) (operation_rule h c op)
operation-rules h c (Inits n kind) = init_rules kind (is_some (object_named h n)) (object_count h)
operation-rules h c (Ends n class) =
    verdict_on-rule h n Plain _ (is_busy h class) (λ busy. call.Destroy (destroy_rule busy))
    (λ o. destroy_rules (is_busy h class o)) (find_object h n class)
operation-rules h c (Acquires n MutexLock how) =
    verdict_on-rule h n how _ (mutex_view h) (λ m. call.Lock (lock_rule m c how))
    (λ m. lock_rules (mutex_view h m) c how) (find_object h n class.Mutex)
operation-rules h c (Acquires n ReadLock how) = read-verdict_on h c n how
    (find_object h n class.Rwlock)
operation-rules h c (Acquires n WriteLock how) =
    verdict_on-rule h n how _ (λ r. reported (rwlock_view h r c)) (λ r. call.Write
    (write_rule r how))
    (λ r. write_rules (rwlock_view h r c) how
    ∙ ap (outcome_by_write_rule how) (write-same (rwlock_view h r c) how))
    (find_object h n class.Rwlock)
operation-rules h c (Unlocks n) =
    verdict_on-rule h n Plain _ (mutex_view h) (λ m. call.Unlock (unlock_rule m c))
    (λ m. unlock_rules (mutex_view h m) c) (find_object h n class.Mutex)
operation-rules h c (Restores n) =
    verdict_on-rule h n Plain _ (mutex_view h) (λ m. call.Consistent (consistent_rule m c))
    (λ m. consistent_rules (mutex_view h m) c) (find_object h n class.Mutex)
operation-rules h c (Rwunlocks n) =
    verdict_on-rule h n Plain _ (λ r. reported (rwlock_view h r c)) (λ r. call.Rwunlock
    (rwunlock_rule r))
    (λ r. rwunlock_rules (rwlock_view h r c)
    ∙ ap outcome_by_rwunlock_rule (rwunlock-same (rwlock_view h r c)))
    (find_object h n class.Rwlock)
operation-rules h c (CondWaits n k due) =
    verdict_on-rule h n Plain _ (λ q. bound_mutex (waiting_at h q)) (await_rule h c k due)
    (λ q. await-verdict_on h c q k due (find_object h k class.Mutex)) (find_object h n class.Cond)
operation-rules h c (Signals n) =
    verdict_on-rule h n Plain _ (λ q. bound_mutex (waiting_at h q))
    (λ bound. call.Wake (wake_rule (record { bound = bound }) false)) (λ q. refl)
    (find_object h n class.Cond)
operation-rules h c (Broadcasts n) =
    verdict_on-rule h n Plain _ (λ q. bound_mutex (waiting_at h q))
    (λ bound. call.Wake (wake_rule (record { bound = bound }) true)) (λ q. refl)
    (find_object h n class.Cond)
operation-rules h c (BarrierWaits n) = arrive-verdict_on h n (find_object h n class.Barrier)

pub call_rules : CallRules
call_rules h c call = operation-rules h c (operation call)
