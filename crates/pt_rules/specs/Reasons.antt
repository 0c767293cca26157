-- Reasons: the words of each rule, and its source. A source is the page of the call, if no other
-- is given.
use Rattle.std.specs.Prelude.{ℕ, List, codes}
use Rattle.pt_rules.specs.declared.mutex.LockRule.{LockRule}
use Rattle.pt_rules.specs.declared.mutex.LockRule.TheVariants as lock
use Rattle.pt_rules.specs.declared.mutex.UnlockRule.{UnlockRule}
use Rattle.pt_rules.specs.declared.mutex.UnlockRule.TheVariants as unlock
use Rattle.pt_rules.specs.declared.mutex.ConsistentRule.{ConsistentRule}
use Rattle.pt_rules.specs.declared.mutex.ConsistentRule.TheVariants as consistent
use Rattle.pt_rules.specs.declared.object.InitRule.{InitRule}
use Rattle.pt_rules.specs.declared.object.InitRule.TheVariants as init
use Rattle.pt_rules.specs.declared.object.DestroyRule.{DestroyRule}
use Rattle.pt_rules.specs.declared.object.DestroyRule.TheVariants as destroy
use Rattle.pt_rules.specs.declared.rwlock.ReadRule.{ReadRule}
use Rattle.pt_rules.specs.declared.rwlock.ReadRule.TheVariants as read
use Rattle.pt_rules.specs.declared.rwlock.WriteRule.{WriteRule}
use Rattle.pt_rules.specs.declared.rwlock.WriteRule.TheVariants as write
use Rattle.pt_rules.specs.declared.rwlock.RwunlockRule.{RwunlockRule}
use Rattle.pt_rules.specs.declared.rwlock.RwunlockRule.TheVariants as rwunlock
use Rattle.pt_rules.specs.declared.cond.WaitRule.{WaitRule}
use Rattle.pt_rules.specs.declared.cond.WaitRule.TheVariants as wait
use Rattle.pt_rules.specs.declared.cond.WakeRule.{WakeRule}
use Rattle.pt_rules.specs.declared.cond.WakeRule.TheVariants as wake
use Rattle.pt_rules.specs.declared.call.CallRule.{CallRule}
use Rattle.pt_rules.specs.declared.call.CallRule.TheVariants as call

-- the words and the source of a rule of the table `Lock`
abbrev pub lock_reason : (page : List ℕ) → LockRule → List ℕ × List ℕ
lock_reason page lock.Unrecoverable =
    (codes "the mutex is not recoverable", codes "XSH mutex_consistent")
lock_reason page lock.Free = (codes "the mutex has no owner", page)
lock_reason page lock.Relocked = (codes "a RECURSIVE mutex: one lock more", page)
lock_reason page lock.TooOften = (codes "255 locks already, the most", page)
lock_reason page lock.Tried = (codes "the mutex has an owner", page)
lock_reason page lock.Deadlocks = (codes "the caller owns this ERRORCHECK mutex", page)
lock_reason page lock.BadTime = (codes "nanoseconds of 1,000,000,000 or more", page)
lock_reason page lock.Relocks = (codes "waits for itself: it owns the mutex", page)
lock_reason page lock.Waits = (codes "waits: the mutex has an owner", page)

-- the words and the source of a rule of the table `Unlock`
abbrev pub unlock_reason : (page : List ℕ) → UnlockRule → List ℕ × List ℕ
unlock_reason page unlock.Undefined = (codes "the caller does not own the mutex", codes "profile")
unlock_reason page unlock.NotOwner = (codes "the caller does not own the mutex", page)
unlock_reason page unlock.Counts = (codes "one lock less: it owns the mutex still", page)
unlock_reason page unlock.Loses =
    (codes "inconsistent: not recoverable now", codes "XSH mutex_consistent")
unlock_reason page unlock.GivesBack = (codes "gives the mutex back", page)

-- the words and the source of a rule of the table `Consistent`
abbrev pub consistent_reason : (page : List ℕ) → ConsistentRule → List ℕ × List ℕ
consistent_reason page consistent.NotRobust = (codes "the mutex is not robust", page)
consistent_reason page consistent.NotInconsistent = (codes "the mutex is not inconsistent", page)
consistent_reason page consistent.NotOwner =
    (codes "the caller does not own the mutex", codes "profile")
consistent_reason page consistent.Restores = (codes "the mutex is consistent again", page)

-- the words and the source of a rule of the table `Init`
abbrev pub init_reason : (page : List ℕ) → InitRule → List ℕ × List ℕ
init_reason page init.NoCount = (codes "a barrier's count is 1 to 1,024", page)
init_reason page init.BadCount = (codes "a barrier's count is 1 to 1,024", codes "profile")
init_reason page init.NameInUse = (codes "the name is in use", codes "profile")
init_reason page init.TooMany = (codes "4,096 objects exist", page)
init_reason page init.Inits = (codes "it is made", page)

-- the words and the source of a rule of the table `Destroy`
abbrev pub destroy_reason : (page : List ℕ) → DestroyRule → List ℕ × List ℕ
destroy_reason page destroy.Busy = (codes "it is in use", codes "profile")
destroy_reason page destroy.Ends = (codes "nobody alive uses it: it is gone", page)

-- the words and the source of a rule of the table `Read`
abbrev pub read_reason : (page : List ℕ) → ReadRule → List ℕ × List ℕ
read_reason page read.Writes = (codes "the caller holds the write lock", codes "profile")
read_reason page read.TooOften = (codes "255 read locks already, the most", page)
read_reason page read.Passes = (codes "a reader already: passes the writers", codes "deviation")
read_reason page read.Rereads = (codes "a reader already", page)
read_reason page read.Admitted = (codes "no writer holds it or comes first", page)
read_reason page read.Tried = (codes "a writer holds it or comes first", page)
read_reason page read.BadTime = (codes "nanoseconds of 1,000,000,000 or more", page)
read_reason page read.Waits = (codes "waits: a writer holds it or comes first", page)

-- the words and the source of a rule of the table `Write`
abbrev pub write_reason : (page : List ℕ) → WriteRule → List ℕ × List ℕ
write_reason page write.Holds = (codes "the caller holds the lock itself", codes "profile")
write_reason page write.Free = (codes "nobody holds the lock", page)
write_reason page write.Tried = (codes "the lock is held", page)
write_reason page write.BadTime = (codes "nanoseconds of 1,000,000,000 or more", page)
write_reason page write.Waits = (codes "waits: the lock is held", page)

-- the words and the source of a rule of the table `Rwunlock`
abbrev pub rwunlock_reason : (page : List ℕ) → RwunlockRule → List ℕ × List ℕ
rwunlock_reason page rwunlock.NotHolder = (codes "the caller holds nothing there", codes "profile")
rwunlock_reason page rwunlock.GivesBack = (codes "gives the lock back", page)

-- the words and the source of a rule of the table `Wait`
abbrev pub wait_reason : (page : List ℕ) → WaitRule → List ℕ × List ℕ
wait_reason page wait.BadTime = (codes "nanoseconds of 1,000,000,000 or more", page)
wait_reason page wait.OtherMutex = (codes "calls wait there with another mutex", codes "profile")
wait_reason page wait.Undefined = (codes "the caller does not own the mutex", codes "profile")
wait_reason page wait.NotOwner = (codes "the caller does not own the mutex", page)
wait_reason page wait.Counts = (codes "waits: one lock less on the mutex", page)
wait_reason page wait.Loses = (codes "waits; the mutex is not recoverable now", codes "profile")
wait_reason page wait.Waits = (codes "waits: gives the mutex back", page)

-- the words and the source of a rule of the table `Wake`
abbrev pub wake_reason : (page : List ℕ) → WakeRule → List ℕ × List ℕ
wake_reason page wake.Nobody = (codes "nobody waits there", page)
wake_reason page wake.MovesFirst = (codes "the first wait moves to its mutex", page)
wake_reason page wake.MovesAll = (codes "all waits move to their mutex", page)

-- the words and the source of a rule, for a call on this page; the source of a name that means no
-- object of the class is profile
abbrev pub rule_reason : (page : List ℕ) → CallRule → List ℕ × List ℕ
rule_reason page call.NoObject = (codes "no object has the name", codes "profile")
rule_reason page call.OtherClass = (codes "the object is of another class", codes "profile")
rule_reason page (call.Init rule) = init_reason page rule
rule_reason page (call.Destroy rule) = destroy_reason page rule
rule_reason page (call.Lock rule) = lock_reason page rule
rule_reason page (call.Unlock rule) = unlock_reason page rule
rule_reason page (call.Consistent rule) = consistent_reason page rule
rule_reason page (call.Read rule) = read_reason page rule
rule_reason page (call.Write rule) = write_reason page rule
rule_reason page (call.Rwunlock rule) = rwunlock_reason page rule
rule_reason page (call.Wait rule) = wait_reason page rule
rule_reason page (call.Wake rule) = wake_reason page rule
rule_reason page call.BarrierWaits = (codes "waits at the barrier", page)
