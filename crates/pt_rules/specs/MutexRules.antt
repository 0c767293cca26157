-- MutexRules: the lines of the tables of mutexes, in the order of docs/RULES.md.
use Rattle.std.specs.Prelude.{◌≡◌, ℕ, not, ◌&&◌, List, [], ◌∷◌, Bool, true, false, is_none}
use Rattle.std.specs.Prelude.{nat_lt}
use Rattle.pt_types.specs.Limits.{max_locks}
use Rattle.pt_types.specs.Times.{has_invalid_deadline}
use Rattle.pt_types.specs.Operations.{is_try, deadline_of}
use Rattle.pt_types.specs.MutexTable.{is_not_recoverable, owns, is_recursive, is_errorcheck}
use Rattle.pt_types.specs.MutexTable.{is_inconsistent}
use Rattle.pt_types.specs.MutexTable.{consistent_verdict, lock_verdict, unlock_verdict}
use Rattle.pt_types.specs.declared.call.How.{How}
use Rattle.pt_types.specs.declared.call.MutexKind.{MutexKind}
use Rattle.pt_types.specs.declared.call.MutexKind.TheVariants.{Normal}
use Rattle.pt_types.specs.declared.views.MutexView.{MutexView}
use Rattle.pt_types.specs.declared.outcome.Outcome.TheVariants.{Done, Eagain, Ebusy, Edeadlk}
use Rattle.pt_types.specs.declared.outcome.Outcome.TheVariants.{Einval, Eperm}
use Rattle.pt_types.specs.declared.outcome.Verdict.{Verdict}
use Rattle.pt_types.specs.declared.outcome.Verdict.TheVariants.{Reply, Stands}
use Rattle.pt_rules.specs.Tables.{first_that_applies}
use Rattle.pt_rules.specs.declared.mutex.LockRule.{LockRule}
use Rattle.pt_rules.specs.declared.mutex.LockRule.TheVariants.{Unrecoverable, Free, Relocked}
use Rattle.pt_rules.specs.declared.mutex.LockRule.TheVariants.{TooOften, Tried, Deadlocks, BadTime}
use Rattle.pt_rules.specs.declared.mutex.LockRule.TheVariants.{Relocks, Waits}
use Rattle.pt_rules.specs.declared.mutex.UnlockRule.{UnlockRule}
use Rattle.pt_rules.specs.declared.mutex.UnlockRule.TheVariants as unlock
use Rattle.pt_rules.specs.declared.mutex.ConsistentRule.{ConsistentRule}
use Rattle.pt_rules.specs.declared.mutex.ConsistentRule.TheVariants as consistent

-- the table of `lock`, `trylock`, `timedlock` and `clocklock`, without its last line
-- [XSH pthread_mutex_lock, pthread_mutex_timedlock]
abbrev pub lock_lines : MutexView → (caller : ℕ) → How → List (Bool × LockRule)
lock_lines m c how =
    (is_not_recoverable m.consistency, Unrecoverable)
    ∷ (is_none m.owner, Free)
    ∷ (owns m c && (is_recursive m.kind && nat_lt m.count max_locks), Relocked)
    ∷ (owns m c && is_recursive m.kind, TooOften)
    ∷ (is_try how, Tried)
    ∷ (owns m c && is_errorcheck m.kind, Deadlocks)
    ∷ (has_invalid_deadline (deadline_of how), BadTime)
    ∷ (owns m c, Relocks)
    ∷ []

-- the line that applies to a call for a mutex  [XSH pthread_mutex_lock]
abbrev pub lock_rule : MutexView → (caller : ℕ) → How → LockRule
lock_rule m c how = first_that_applies (lock_lines m c how) Waits

-- what that line says becomes of the call
abbrev pub outcome_by_lock_rule : LockRule → Verdict
outcome_by_lock_rule Unrecoverable = Stands
outcome_by_lock_rule Free = Stands
outcome_by_lock_rule Relocked = Reply Done
outcome_by_lock_rule TooOften = Reply Eagain
outcome_by_lock_rule Tried = Reply Ebusy
outcome_by_lock_rule Deadlocks = Reply Edeadlk
outcome_by_lock_rule BadTime = Reply Einval
outcome_by_lock_rule Relocks = Stands
outcome_by_lock_rule Waits = Stands

-- Lock rules: the verdict of a call for a mutex is what the first line that applies says.
abbrev pub LockRules : Type 0
LockRules =
    (m : MutexView) (c : ℕ) (how : How)
    → lock_verdict m c how ≡ outcome_by_lock_rule (lock_rule m c how)

-- whether a kind is NORMAL
abbrev pub is_normal : MutexKind → Bool
is_normal Normal = true
is_normal _ = false

-- whether the page leaves open what an unlock by another client than the owner does
-- [XSH pthread_mutex_unlock]
abbrev pub is_open : MutexView → Bool
is_open m = is_normal m.kind && not m.robust

-- the table of `unlock`, without its last line; the first is profile  [XSH pthread_mutex_unlock]
abbrev pub unlock_lines : MutexView → (caller : ℕ) → List (Bool × UnlockRule)
unlock_lines m c =
    (not (owns m c) && is_open m, unlock.Undefined)
    ∷ (not (owns m c), unlock.NotOwner)
    ∷ (nat_lt 1 m.count, unlock.Counts)
    ∷ (is_inconsistent m.consistency, unlock.Loses)
    ∷ []

-- the line that applies to `unlock`  [XSH pthread_mutex_unlock]
abbrev pub unlock_rule : MutexView → (caller : ℕ) → UnlockRule
unlock_rule m c = first_that_applies (unlock_lines m c) unlock.GivesBack

-- what that line says becomes of the call
abbrev pub outcome_by_unlock_rule : UnlockRule → Verdict
outcome_by_unlock_rule unlock.Undefined = Reply Eperm
outcome_by_unlock_rule unlock.NotOwner = Reply Eperm
outcome_by_unlock_rule unlock.Counts = Reply Done
outcome_by_unlock_rule unlock.Loses = Reply Done
outcome_by_unlock_rule unlock.GivesBack = Reply Done

-- Unlock rules: the verdict of `unlock` is what the first line that applies says.
abbrev pub UnlockRules : Type 0
UnlockRules =
    (m : MutexView) (c : ℕ) → unlock_verdict m c ≡ outcome_by_unlock_rule (unlock_rule m c)

-- the table of `consistent`, without its last line  [XSH pthread_mutex_consistent]
abbrev pub consistent_lines : MutexView → (caller : ℕ) → List (Bool × ConsistentRule)
consistent_lines m c =
    (not m.robust, consistent.NotRobust)
    ∷ (not (is_inconsistent m.consistency), consistent.NotInconsistent)
    ∷ (not (owns m c), consistent.NotOwner)
    ∷ []

-- the line that applies to `consistent`  [XSH pthread_mutex_consistent]
abbrev pub consistent_rule : MutexView → (caller : ℕ) → ConsistentRule
consistent_rule m c = first_that_applies (consistent_lines m c) consistent.Restores

-- what that line says becomes of the call
abbrev pub outcome_by_consistent_rule : ConsistentRule → Verdict
outcome_by_consistent_rule consistent.NotRobust = Reply Einval
outcome_by_consistent_rule consistent.NotInconsistent = Reply Einval
outcome_by_consistent_rule consistent.NotOwner = Reply Eperm
outcome_by_consistent_rule consistent.Restores = Reply Done

-- Consistent rules: the verdict of `consistent` is what the first line that applies says.
abbrev pub ConsistentRules : Type 0
ConsistentRules =
    (m : MutexView) (c : ℕ)
    → consistent_verdict m c ≡ outcome_by_consistent_rule (consistent_rule m c)
