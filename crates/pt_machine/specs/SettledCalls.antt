-- SettledCalls: calls after which nothing must follow.
use Rattle.std.specs.Prelude.{ℕ, ◌≡◌, ◌==◌, Bool, true, false, not, List, Some, None}
use Rattle.pt_types.specs.declared.call.Call.{Call as FunctionCall}
use Rattle.pt_types.specs.declared.call.How.TheVariants.{Plain}
use Rattle.pt_types.specs.declared.operations.LockKind.{LockKind}
use Rattle.pt_types.specs.declared.operations.LockKind.TheVariants.{MutexLock, WriteLock}
use Rattle.pt_types.specs.Operations.{Operation, Acquires, Ends, Inits, Restores, class_needed}
use Rattle.pt_types.specs.Operations.{operation}
use Rattle.pt_model.specs.declared.entry.Entry.TheVariants.{Call}
use Rattle.pt_model.specs.declared.entry.Event.{Event}
use Rattle.pt_model.specs.declared.entry.Event.TheVariants as event
use Rattle.pt_model.specs.declared.waiting_call.WaitingCall.{WaitingCall}
use Rattle.pt_model.specs.Answers.{open_calls}
use Rattle.pt_model.specs.Histories.{History}
use Rattle.pt_model.specs.Moves.{wait_object}
use Rattle.pt_model.specs.Objects.{find_object}
use Rattle.pt_model.specs.Room.{entry_for}
use Rattle.pt_model.specs.Searches.{In}
use Rattle.pt_machine.specs.GrantedAtOnce.{IsFree}

-- no call waits at an object  [XSH 2.8.4]
abbrev pub NoneWaits : History → ℕ → Type 0
NoneWaits h o = (w : WaitingCall) → In w (open_calls h) → (wait_object h w == o) ≡ true → ⊥

-- a call without a deadline, for a lock that is free and for which no call waits
-- [XSH pthread_mutex_lock, pthread_rwlock_rdlock, pthread_rwlock_wrlock]
pub record IsUnopposed (h : History) (c : ℕ) (call : FunctionCall) : Type 0 where
  pub name : List ℕ
  pub kind : LockKind
  pub object : ℕ
  pub has_request : operation call ≡ Acquires name kind Plain
  pub waits : entry_for h (event.Call c call) ≡ Call c call None
  pub found : find_object h name (class_needed kind) ≡ Some object
  pub free : IsFree h kind object
  pub no_other_waits : NoneWaits h object

-- whether it is known from its operation that nothing must follow a call: it gives nothing back; or
-- it is for a mutex or a write lock, with no deadline, and is not granted as it comes
-- [XSH pthread_mutex_lock, pthread_rwlock_wrlock]
abbrev pub is_settled_by : Operation → (at_once : Bool) → Bool
is_settled_by (Acquires n MutexLock Plain) at_once = not at_once
is_settled_by (Acquires n WriteLock Plain) at_once = not at_once
is_settled_by (Inits n kind) at_once = true
is_settled_by (Ends n class) at_once = true
is_settled_by (Restores n) at_once = true
is_settled_by _ at_once = false

-- whether it is known from the operation of its call that nothing must follow an event
abbrev pub is_settled_after : Event → (at_once : Bool) → Bool
is_settled_after (event.Call c call) at_once = is_settled_by (operation call) at_once
is_settled_after _ at_once = false
