-- RwlockRules: the lines of the tables of read-write locks, in the order of docs/RULES.md.
use Rattle.std.specs.Prelude.{◌≡◌, ℕ, not, ◌&&◌, List, [], ◌∷◌, Bool, nat_le, nat_lt}
use Rattle.pt_types.specs.Limits.{max_read_locks}
use Rattle.pt_types.specs.Times.{has_invalid_deadline}
use Rattle.pt_types.specs.Operations.{is_try, deadline_of}
use Rattle.pt_types.specs.RwlockTable.{has_lock, is_free, read_verdict, relock_outcome}
use Rattle.pt_types.specs.RwlockTable.{rwunlock_verdict, write_verdict}
use Rattle.pt_types.specs.declared.call.How.{How}
use Rattle.pt_types.specs.declared.views.RwlockView.{RwlockView}
use Rattle.pt_types.specs.declared.outcome.Outcome.TheVariants.{Done, Eperm, Eagain, Ebusy, Einval}
use Rattle.pt_types.specs.declared.outcome.Verdict.{Verdict}
use Rattle.pt_types.specs.declared.outcome.Verdict.TheVariants.{Reply, Stands}
use Rattle.pt_rules.specs.Tables.{first_that_applies}
use Rattle.pt_rules.specs.declared.rwlock.ReadRule.{ReadRule}
use Rattle.pt_rules.specs.declared.rwlock.ReadRule.TheVariants.{Writes, TooOften, Passes, Rereads}
use Rattle.pt_rules.specs.declared.rwlock.ReadRule.TheVariants.{Admitted, Tried, BadTime, Waits}
use Rattle.pt_rules.specs.declared.rwlock.WriteRule.{WriteRule}
use Rattle.pt_rules.specs.declared.rwlock.WriteRule.TheVariants as write
use Rattle.pt_rules.specs.declared.rwlock.RwunlockRule.{RwunlockRule}
use Rattle.pt_rules.specs.declared.rwlock.RwunlockRule.TheVariants as rwunlock

-- the table of the `rdlock` calls, without its last line; the line Passes is the deviation
-- [XSH pthread_rwlock_rdlock]
abbrev pub read_lines : RwlockView → (blocked : Bool) → How → List (Bool × ReadRule)
read_lines r blocked how =
    (r.writes, Writes)
    ∷ (nat_le max_read_locks r.reads, TooOften)
    ∷ (nat_lt 0 r.reads && blocked, Passes)
    ∷ (nat_lt 0 r.reads, Rereads)
    ∷ (not r.is_written && not blocked, Admitted)
    ∷ (is_try how, Tried)
    ∷ (has_invalid_deadline (deadline_of how), BadTime)
    ∷ []

-- the line that applies to a call for a read lock  [XSH pthread_rwlock_rdlock]
abbrev pub read_rule : RwlockView → (blocked : Bool) → How → ReadRule
read_rule r blocked how = first_that_applies (read_lines r blocked how) Waits

-- what that line says becomes of the call
abbrev pub outcome_by_read_rule : How → ReadRule → Verdict
outcome_by_read_rule how Writes = Reply (relock_outcome (is_try how))
outcome_by_read_rule how TooOften = Reply Eagain
outcome_by_read_rule how Passes = Stands
outcome_by_read_rule how Rereads = Stands
outcome_by_read_rule how Admitted = Stands
outcome_by_read_rule how Tried = Reply Ebusy
outcome_by_read_rule how BadTime = Reply Einval
outcome_by_read_rule how Waits = Stands

-- Read rules: the verdict of a call for a read lock is what the first line that applies says.
abbrev pub ReadRules : Type 0
ReadRules =
    (r : RwlockView) (blocked : Bool) (how : How)
    → read_verdict r blocked how ≡ outcome_by_read_rule how (read_rule r blocked how)

-- the table of the `wrlock` calls, without its last line  [XSH pthread_rwlock_wrlock]
abbrev pub write_lines : RwlockView → How → List (Bool × WriteRule)
write_lines r how =
    (has_lock r, write.Holds)
    ∷ (is_free r, write.Free)
    ∷ (is_try how, write.Tried)
    ∷ (has_invalid_deadline (deadline_of how), write.BadTime)
    ∷ []

-- the line that applies to a call for a write lock  [XSH pthread_rwlock_wrlock]
abbrev pub write_rule : RwlockView → How → WriteRule
write_rule r how = first_that_applies (write_lines r how) write.Waits

-- what that line says becomes of the call
abbrev pub outcome_by_write_rule : How → WriteRule → Verdict
outcome_by_write_rule how write.Holds = Reply (relock_outcome (is_try how))
outcome_by_write_rule how write.Free = Stands
outcome_by_write_rule how write.Tried = Reply Ebusy
outcome_by_write_rule how write.BadTime = Reply Einval
outcome_by_write_rule how write.Waits = Stands

-- Write rules: the verdict of a call for a write lock is what the first line that applies says.
abbrev pub WriteRules : Type 0
WriteRules =
    (r : RwlockView) (how : How)
    → write_verdict r how ≡ outcome_by_write_rule how (write_rule r how)

-- the table of `rwunlock`, without its last line  [XSH pthread_rwlock_unlock]
abbrev pub rwunlock_lines : RwlockView → List (Bool × RwunlockRule)
rwunlock_lines r = (not (has_lock r), rwunlock.NotHolder) ∷ []

-- the line that applies to `rwunlock`  [XSH pthread_rwlock_unlock]
abbrev pub rwunlock_rule : RwlockView → RwunlockRule
rwunlock_rule r = first_that_applies (rwunlock_lines r) rwunlock.GivesBack

-- what that line says becomes of the call
abbrev pub outcome_by_rwunlock_rule : RwunlockRule → Verdict
outcome_by_rwunlock_rule rwunlock.NotHolder = Reply Eperm
outcome_by_rwunlock_rule rwunlock.GivesBack = Reply Done

-- Rwunlock rules: the verdict of `rwunlock` is what the first line that applies says.
abbrev pub RwunlockRules : Type 0
RwunlockRules =
    (r : RwlockView) → rwunlock_verdict r ≡ outcome_by_rwunlock_rule (rwunlock_rule r)
