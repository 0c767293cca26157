-- A table decides as the first of its lines that applies says.
use Rattle.std.proofs.Common.{◌≡◌, ℕ, ◌==◌, List, [], ◌∷◌, Bool, true, false, not, ◌&&◌, ◌||◌}
use Rattle.std.proofs.Common.{is_none, nat_le, nat_lt, refl, ◌∙◌}
use Rattle.pt_types.specs.Limits.{max_barrier_count, max_locks, max_objects, max_read_locks}
use Rattle.pt_types.specs.Times.{has_invalid_deadline}
use Rattle.pt_types.specs.Operations.{deadline_of, is_try}
use Rattle.pt_types.specs.MutexTable.{is_errorcheck, is_inconsistent, is_not_recoverable}
use Rattle.pt_types.specs.MutexTable.{is_recursive, owns}
use Rattle.pt_types.specs.RwlockTable.{relock_outcome}
use Rattle.pt_types.specs.ObjectTable.{is_invalid_kind}
use Rattle.pt_types.specs.CondTable.{is_bound_elsewhere}
use Rattle.pt_types.specs.declared.call.ObjectKind.{ObjectKind}
use Rattle.pt_types.specs.declared.call.ObjectKind.TheVariants.{Mutex, Rwlock, Cond, Barrier}
use Rattle.pt_types.specs.declared.outcome.Outcome.TheVariants.{Done, Eagain, Ebusy, Edeadlk}
use Rattle.pt_types.specs.declared.outcome.Outcome.TheVariants.{Einval, Eperm}
use Rattle.pt_types.specs.declared.outcome.Verdict.TheVariants.{Reply, Stands}
use Rattle.pt_types.specs.declared.outcome.Verdict.{Verdict}
use Rattle.pt_types.specs.Tables.{decide}
use Rattle.pt_rules.specs.Tables.{first_that_applies, with_verdicts}
use Rattle.pt_rules.specs.declared.mutex.LockRule.TheVariants as lock
use Rattle.pt_rules.specs.declared.mutex.UnlockRule.TheVariants as unlock
use Rattle.pt_rules.specs.declared.mutex.ConsistentRule.TheVariants as consistent
use Rattle.pt_rules.specs.declared.rwlock.ReadRule.TheVariants as read
use Rattle.pt_rules.specs.declared.rwlock.WriteRule.TheVariants as write
use Rattle.pt_rules.specs.declared.rwlock.RwunlockRule.TheVariants as rwunlock
use Rattle.pt_rules.specs.declared.cond.WaitRule.TheVariants as wait
use Rattle.pt_rules.specs.declared.object.InitRule.TheVariants as init
use Rattle.pt_rules.specs.declared.object.DestroyRule.TheVariants as destroy
use Rattle.pt_rules.specs.MutexRules.{ConsistentRules, outcome_by_consistent_rule}
use Rattle.pt_rules.specs.MutexRules.{LockRules, is_open, outcome_by_lock_rule}
use Rattle.pt_rules.specs.MutexRules.{UnlockRules, outcome_by_unlock_rule}
use Rattle.pt_rules.specs.RwlockRules.{ReadRules, read_lines, outcome_by_read_rule}
use Rattle.pt_rules.specs.RwlockRules.{WriteRules, outcome_by_write_rule, write_lines}
use Rattle.pt_rules.specs.RwlockRules.{RwunlockRules, rwunlock_lines, outcome_by_rwunlock_rule}
use Rattle.pt_rules.specs.CondRules.{WaitRules, stays_open, outcome_by_wait_rule}
use Rattle.pt_rules.specs.ObjectRules.{InitRules, init_lines, is_empty_barrier}
use Rattle.pt_rules.specs.ObjectRules.{outcome_by_init_rule}
use Rattle.pt_rules.specs.ObjectRules.{DestroyRules, destroy_lines, outcome_by_destroy_rule}

-- a table with the verdicts of its lines decides as the first line that applies says
decides :
    {R : Type 0} (said : R → Verdict) (lines : List (Bool × R)) (last : R)
    → decide (with_verdicts said lines) (said last) ≡ said (first_that_applies lines last)
decides said [] last = refl
decides said ((true, r) ∷ lines) last = refl
decides said ((false, r) ∷ lines) last = decides said lines last

pub lock_rules : LockRules
lock_rules m c how =
    go (is_not_recoverable m.consistency) (is_none m.owner)
    (owns m c && (is_recursive m.kind && nat_lt m.count max_locks))
    (owns m c && is_recursive m.kind) (is_try how) (owns m c && is_errorcheck m.kind)
    (has_invalid_deadline (deadline_of how)) (owns m c)
  where
    go : (lost free less full try check bad own : Bool)
        → decide ((lost, Stands) ∷ (free, Stands) ∷ (less, Reply Done) ∷ (full, Reply Eagain)
        ∷ (try, Reply Ebusy) ∷ (check, Reply Edeadlk) ∷ (bad, Reply Einval) ∷ []) Stands
        ≡ outcome_by_lock_rule (first_that_applies ((lost, lock.Unrecoverable) ∷ (free, lock.Free)
        ∷ (less, lock.Relocked) ∷ (full, lock.TooOften) ∷ (try, lock.Tried)
        ∷ (check, lock.Deadlocks) ∷ (bad, lock.BadTime) ∷ (own, lock.Relocks) ∷ []) lock.Waits)
    go true free less full try check bad own = refl
    go false true less full try check bad own = refl
    go false false true full try check bad own = refl
    go false false false true try check bad own = refl
    go false false false false true check bad own = refl
    go false false false false false true bad own = refl
    go false false false false false false true own = refl
    go false false false false false false false true = refl
    go false false false false false false false false = refl

-- a table with a line that is split in two decides as before
split : (both one : Bool) (v : Verdict) (lines : List (Bool × Verdict)) (last : Verdict)
    → decide ((both, v) ∷ lines) last ≡ decide ((both && one, v) ∷ (both, v) ∷ lines) last
split true true v lines last = refl
split true false v lines last = refl
split false one v lines last = refl

pub unlock_rules : UnlockRules
unlock_rules m c = go (owns m c) (is_open m) (nat_lt 1 m.count) (is_inconsistent m.consistency)
  where
    go : (own left more lost : Bool)
        → decide ((not own, Reply Eperm) ∷ []) (Reply Done)
        ≡ outcome_by_unlock_rule (first_that_applies ((not own && left, unlock.Undefined)
        ∷ (not own, unlock.NotOwner) ∷ (more, unlock.Counts) ∷ (lost, unlock.Loses) ∷ [])
        unlock.GivesBack)
    go false true more lost = refl
    go false false more lost = refl
    go true left true lost = refl
    go true left false true = refl
    go true left false false = refl

pub consistent_rules : ConsistentRules
consistent_rules m c = go m.robust (is_inconsistent m.consistency) (owns m c)
  where
    go : (robust lost own : Bool)
        → decide ((not (robust && lost), Reply Einval) ∷ (not own, Reply Eperm) ∷ []) (Reply Done)
        ≡ outcome_by_consistent_rule (first_that_applies ((not robust, consistent.NotRobust)
        ∷ (not lost, consistent.NotInconsistent) ∷ (not own, consistent.NotOwner) ∷ [])
        consistent.Restores)
    go false lost own = refl
    go true false own = refl
    go true true false = refl
    go true true true = refl

pub read_rules : ReadRules
read_rules r blocked how =
    go r.writes (nat_le max_read_locks r.reads)
    ∙ decides (outcome_by_read_rule how) (read_lines r blocked how) read.Waits
  where
    rest : List (Bool × Verdict)
    rest =
        (not r.is_written && not blocked, Stands)
        ∷ (is_try how, Reply Ebusy)
        ∷ (has_invalid_deadline (deadline_of how), Reply Einval)
        ∷ []

    go : (writes full : Bool)
        → decide ((writes, Reply (relock_outcome (is_try how))) ∷ (full, Reply Eagain)
        ∷ (nat_lt 0 r.reads, Stands) ∷ rest) Stands
        ≡ decide ((writes, Reply (relock_outcome (is_try how))) ∷ (full, Reply Eagain)
        ∷ (nat_lt 0 r.reads && blocked, Stands) ∷ (nat_lt 0 r.reads, Stands) ∷ rest) Stands
    go true full = refl
    go false true = refl
    go false false = split (nat_lt 0 r.reads) blocked Stands rest Stands

pub write_rules : WriteRules
write_rules r how = decides (outcome_by_write_rule how) (write_lines r how) write.Waits

pub rwunlock_rules : RwunlockRules
rwunlock_rules r = decides outcome_by_rwunlock_rule (rwunlock_lines r) rwunlock.GivesBack

pub wait_rules : WaitRules
wait_rules q n m c due =
    go (has_invalid_deadline due) (is_bound_elsewhere q.bound n) (owns m c) (stays_open m)
    (nat_lt 1 m.count) (is_inconsistent m.consistency)
  where
    go : (bad other own left more lost : Bool)
        → decide ((bad, Reply Einval) ∷ (other, Reply Einval) ∷ (not own, Reply Eperm) ∷ []) Stands
        ≡ outcome_by_wait_rule (first_that_applies ((bad, wait.BadTime) ∷ (other, wait.OtherMutex)
        ∷ (not own && left, wait.Undefined) ∷ (not own, wait.NotOwner) ∷ (more, wait.Counts)
        ∷ (lost, wait.Loses) ∷ []) wait.Waits)
    go true other own left more lost = refl
    go false true own left more lost = refl
    go false false false true more lost = refl
    go false false false false more lost = refl
    go false false true left true lost = refl
    go false false true left false true = refl
    go false false true left false false = refl

pub init_rules : InitRules
init_rules kind in_use objects =
    first kind
    ∙ decides outcome_by_init_rule (init_lines kind in_use objects) init.Inits
  where
    rest : List (Bool × Verdict)
    rest = (in_use, Reply Ebusy) ∷ (nat_le max_objects objects, Reply Eagain) ∷ []

    early : (none bad : Bool)
        → decide ((none || bad, Reply Einval) ∷ rest) (Reply Done)
        ≡ decide ((none, Reply Einval) ∷ (none || bad, Reply Einval) ∷ rest) (Reply Done)
    early true bad = refl
    early false bad = refl

    first : (k : ObjectKind)
        → decide ((is_invalid_kind k, Reply Einval) ∷ rest) (Reply Done)
        ≡ decide ((is_empty_barrier k, Reply Einval) ∷ (is_invalid_kind k, Reply Einval) ∷ rest)
        (Reply Done)
    first (Barrier count) = early (count == 0) (nat_lt max_barrier_count count)
    first (Mutex kind robust) = refl
    first Rwlock = refl
    first Cond = refl

pub destroy_rules : DestroyRules
destroy_rules busy = decides outcome_by_destroy_rule (destroy_lines busy) destroy.Ends
