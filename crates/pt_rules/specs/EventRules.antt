-- EventRules: why an event's own entry is added, why it is refused, and why an entry must follow.
use Rattle.std.specs.Prelude.{ℕ, Bool, true, false, List, Option, Some, None, is_some, codes}
use Rattle.std.specs.Prelude.{nat_le}
use Rattle.pt_types.specs.declared.call.Call.{Call}
use Rattle.pt_types.specs.declared.operations.LockKind.TheVariants.{MutexLock, ReadLock, WriteLock}
use Rattle.pt_types.specs.declared.outcome.Outcome.{Outcome}
use Rattle.pt_types.specs.declared.outcome.Outcome.TheVariants.{Enotrecoverable, Eownerdead}
use Rattle.pt_types.specs.declared.outcome.Outcome.TheVariants.{Etimedout}
use Rattle.pt_types.specs.declared.outcome.Refusal.{Refusal}
use Rattle.pt_types.specs.declared.outcome.Refusal.TheVariants as refusal
use Rattle.pt_types.specs.Operations.{Operation, Acquires, CondWaits, operation}
use Rattle.pt_model.specs.declared.entry.Entry.{Entry}
use Rattle.pt_model.specs.declared.entry.Entry.TheVariants as entry
use Rattle.pt_model.specs.declared.entry.Event.{Event}
use Rattle.pt_model.specs.declared.entry.Event.TheVariants as event
use Rattle.pt_model.specs.Answers.{open_place}
use Rattle.pt_model.specs.Clients.{clock}
use Rattle.pt_model.specs.Histories.{History}
use Rattle.pt_rules.specs.CallRules.{call_rule}
use Rattle.pt_rules.specs.Pages.{page_of}
use Rattle.pt_rules.specs.Reasons.{rule_reason}
use Rattle.pt_rules.specs.declared.forced.GrantRule.{GrantRule}
use Rattle.pt_rules.specs.declared.forced.GrantRule.TheVariants as grant
use Rattle.pt_rules.specs.declared.forced.ExpireRule.{ExpireRule}
use Rattle.pt_rules.specs.declared.forced.ExpireRule.TheVariants as expire

-- why a line is refused  [profile]
abbrev pub refusal_reason : Refusal → List ℕ × List ℕ
refusal_reason refusal.Syntax = (codes "the line is not in the grammar", codes "profile")
refusal_reason refusal.Long = (codes "the line has more than 128 bytes", codes "profile")
refusal_reason refusal.Dead = (codes "the client has died", codes "profile")
refusal_reason refusal.Nohello = (codes "hello comes first and once", codes "profile")
refusal_reason refusal.Blocked = (codes "the client's last call is open", codes "profile")
refusal_reason refusal.Limit = (codes "1,024 clients live", codes "profile")
refusal_reason refusal.Full = (codes "the history has no room", codes "profile")
refusal_reason refusal.Enomem = (codes "memory was refused", codes "profile")

-- whether a clock shows this moment already, or a later one  [profile]
abbrev pub is_clock_at : Option ℕ → ℕ → Bool
is_clock_at None t = false
is_clock_at (Some now) t = nat_le t now

-- why the process of a client ends, which has an open call or none  [profile]
abbrev pub death_reason : (has_open : Bool) → List ℕ × List ℕ
death_reason true = (codes "its process ends, its call is open", codes "profile")
death_reason false = (codes "its process ends", codes "profile")

-- what a moment of a clock changes, which shows it already or not  [profile]
abbrev pub moment_reason : (reached : Bool) → List ℕ × List ℕ
moment_reason true = (codes "the clock shows as much already", codes "profile")
moment_reason false = (codes "the clock shows this from now on", codes "profile")

-- why an event's own entry is added after a history
abbrev pub event_reason : History → Event → List ℕ × List ℕ
event_reason h (event.Join p) = (codes "a process starts", codes "profile")
event_reason h (event.Call c call) = rule_reason (page_of call) (call_rule h c call)
event_reason h (event.Death c) = death_reason (is_some (open_place h c))
event_reason h (event.Moment k t) = moment_reason (is_clock_at (clock h k) t)

-- what a call that is answered 0 by a Grant has now, by what it does
abbrev pub grant_rule_of : Operation → GrantRule
grant_rule_of (Acquires n MutexLock how) = grant.Mutex
grant_rule_of (Acquires n ReadLock how) = grant.Read
grant_rule_of (Acquires n WriteLock how) = grant.Write
grant_rule_of (CondWaits n k due) = grant.Relock
grant_rule_of _ = grant.Served

-- the same, if the call is known: a seal drops its words
abbrev pub grant_rule_of_call : Option Call → GrantRule
grant_rule_of_call None = grant.Served
grant_rule_of_call (Some call) = grant_rule_of (operation call)

-- the rule for a Grant with this outcome, of this call
abbrev pub grant_rule : Outcome → Option Call → GrantRule
grant_rule Enotrecoverable call = grant.Unrecoverable
grant_rule Eownerdead call = grant.Inconsistent
grant_rule Etimedout call = grant.Late
grant_rule _ call = grant_rule_of_call call

-- the source of a Grant: the page of its call if that comes with it, else the page given
abbrev pub granted_on : (page : List ℕ) → (at_once : Bool) → List ℕ → List ℕ
granted_on page true later = page
granted_on page false later = later

-- the words and the source of a Grant, of a call on this page that comes with it or waited
abbrev pub grant_reason : (page : List ℕ) → (at_once : Bool) → GrantRule → List ℕ × List ℕ
grant_reason page at_once grant.Unrecoverable = (
  codes "the mutex is not recoverable",
  granted_on (codes "XSH mutex_consistent") at_once (codes "profile"),
)
grant_reason page at_once grant.Inconsistent =
    (codes "has the mutex, which is inconsistent", codes "XSH mutex_lock")
grant_reason page at_once grant.Late =
    (codes "has the mutex again, after its deadline", codes "XSH cond_timedwait")
grant_reason page at_once grant.Mutex =
    (codes "has the mutex", granted_on page at_once (codes "XSH mutex_unlock"))
grant_reason page at_once grant.Relock = (codes "has the mutex again", codes "XSH mutex_unlock")
grant_reason page at_once grant.Read =
    (codes "has a read lock", granted_on page at_once (codes "XSH rwlock_unlock"))
grant_reason page at_once grant.Write =
    (codes "has the write lock", granted_on page at_once (codes "XSH rwlock_unlock"))
grant_reason page at_once grant.Served = (codes "has its lock", codes "XSH 2.8.4")

-- what becomes of an expired call, by what it does
abbrev pub expired_by : Operation → ExpireRule
expired_by (CondWaits n k due) = expire.Moves
expired_by _ = expire.Ends

-- the rule for an Expire of this call: a seal drops its words
abbrev pub expire_rule : Option Call → ExpireRule
expire_rule None = expire.Passes
expire_rule (Some call) = expired_by (operation call)

-- the words and the source of an Expire, of a call on this page
abbrev pub expire_reason : (page : List ℕ) → ExpireRule → List ℕ × List ℕ
expire_reason page expire.Moves =
    (codes "its deadline is due: the wait moves", codes "XSH cond_timedwait")
expire_reason page expire.Ends = (codes "its deadline is due: the call ends", page)
expire_reason page expire.Passes = (codes "its deadline is due", codes "XSH mutex_timedlock")

-- the page of a call, if it is known
abbrev pub page_if : Option Call → List ℕ
page_if None = codes "profile"
page_if (Some call) = page_of call

-- why a forced entry must follow; a Grant or an Expire is of this call, which comes with it or
-- waited
abbrev pub forced_reason : Entry → Option Call → (at_once : Bool) → List ℕ × List ℕ
forced_reason (entry.Grant j x) call at_once =
    grant_reason (page_if call) at_once (grant_rule x call)
forced_reason (entry.Expire j) call at_once = expire_reason (page_if call) (expire_rule call)
forced_reason (entry.Trip b) call at_once =
    (codes "the barrier is full: the last is SERIAL", codes "XSH barrier_wait")
forced_reason (entry.Yield m) call at_once =
    (codes "the owner is dead: it is inconsistent", codes "XSH mutex_lock")
forced_reason _ call at_once = (codes "it follows", codes "profile")
