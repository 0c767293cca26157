-- GrantedAtOnce: a call for a lock that is granted as it comes, and its entry with its Grant.
use Rattle.std.specs.Prelude.{ℕ, ◌≡◌, ◌+◌, ◌<◌, ◌||◌, ◌==◌, Bool, true, false, List, [], ◌∷◌}
use Rattle.std.specs.Prelude.{Some, None}
use Rattle.std.specs.Prelude.{is_none, is_some, unwrap_or}
use Rattle.pt_types.specs.declared.call.Call.{Call as FunctionCall}
use Rattle.pt_types.specs.declared.call.How.{How}
use Rattle.pt_types.specs.declared.operations.LockKind.{LockKind}
use Rattle.pt_types.specs.declared.outcome.Outcome.{Outcome}
use Rattle.pt_types.specs.declared.operations.LockKind.TheVariants.{MutexLock, ReadLock, WriteLock}
use Rattle.pt_types.specs.MutexTable.{is_not_recoverable}
use Rattle.pt_types.specs.Operations.{Acquires, Operation, class_needed, operation}
use Rattle.pt_rwlock.specs.RwlockState.{RwlockState, nobody_holds}
use Rattle.pt_model.specs.declared.entry.Entry.{Entry}
use Rattle.pt_model.specs.declared.entry.Entry.TheVariants.{Call}
use Rattle.pt_model.specs.declared.entry.Event.TheVariants as event
use Rattle.pt_model.specs.Searches.{In}
use Rattle.pt_model.specs.Histories.{History}
use Rattle.pt_model.specs.Clients.{client_priority}
use Rattle.pt_model.specs.Objects.{find_object}
use Rattle.pt_model.specs.Mutexes.{consistency, owner}
use Rattle.pt_model.specs.Rwlocks.{first_reader, write_holder}
use Rattle.pt_model.specs.declared.waiting_call.WaitingCall.{WaitingCall}
use Rattle.pt_model.specs.Answers.{open_calls}
use Rattle.pt_model.specs.Moves.{wait_object}
use Rattle.pt_model.specs.Room.{entry_for, reserved_for}
use Rattle.pt_model.specs.Forced.{forced, service}
use Rattle.pt_model.specs.Grants.{grant_outcome}
use Rattle.pt_model.specs.Queries.{answers_since}
use Rattle.pt_model.specs.StartRows.{start_of_rows}
use Rattle.pt_model.specs.WaitingCall.{final_mutex}
use Rattle.pt_history.specs.Stored.{Stored}
use Rattle.pt_table.specs.ClientRows.{client_value}
use Rattle.pt_records.specs.declared.clients.Open.{Open}
use Rattle.pt_records.specs.Callers.{open_in}
use Rattle.pt_records.specs.Counts.{count_if_passed}
use Rattle.pt_state.specs.declared.state.State.{State}
use Rattle.pt_state.specs.Adds.{Adds, HasRoomFor, history_of}
use Rattle.pt_machine.specs.Reserved.{gives_owner}
use Rattle.pt_machine.specs.CallDeadlines.{operation_deadline, valid_deadline}

-- nobody holds a lock that keeps a call of this kind from an object
-- [XSH pthread_mutex_lock, pthread_rwlock_rdlock]
abbrev pub IsFree : History → LockKind → ℕ → Type 0
IsFree h MutexLock o = (is_not_recoverable (consistency h o) || is_none (owner h o)) ≡ true
IsFree h ReadLock o = write_holder h o ≡ None
IsFree h WriteLock o = (write_holder h o ≡ None) × (is_some (first_reader h o) ≡ false)

-- nobody holds a lock that keeps a call of this kind from a read-write lock, as the lock's row has
-- it  [XSH pthread_rwlock_rdlock, pthread_rwlock_wrlock]
abbrev pub IsFreeLock : LockKind → RwlockState → Type 0
IsFreeLock MutexLock x = ⊥
IsFreeLock ReadLock x = x.writer ≡ None
IsFreeLock WriteLock x = nobody_holds x ≡ true

-- each call that waits at an object has a lower priority than this  [XSH 2.8.4]
abbrev pub IsAhead : History → ℕ → ℕ → Type 0
IsAhead h p o =
    (w : WaitingCall) → In w (open_calls h) → (wait_object h w == o) ≡ true → w.priority < p

-- a call for a lock that is free, ahead of those that wait for it, without a deadline
-- [XSH pthread_mutex_lock, pthread_rwlock_rdlock, pthread_rwlock_wrlock]
pub record IsGrantedAtOnce (h : History) (c : ℕ) (call : FunctionCall) : Type 0 where
  pub name : List ℕ
  pub kind : LockKind
  pub how : How
  pub object : ℕ
  pub has_request : operation call ≡ Acquires name kind how
  pub waits : entry_for h (event.Call c call) ≡ Call c call None
  pub untimed : valid_deadline (operation_deadline (operation call)) ≡ None
  pub found : find_object h name (class_needed kind) ≡ Some object
  pub free : IsFree h kind object
  pub ahead : IsAhead h (unwrap_or (client_priority h c) 0) object

-- whether an operation is a call for a mutex  [XSH pthread_mutex_lock]
abbrev pub is_mutex_call : Operation → Bool
is_mutex_call (Acquires n MutexLock how) = true
is_mutex_call _ = false

-- the entries from a place on answer this client's call that came there, and no other
abbrev pub AnswersOne : Stored → ℕ → ℕ → Outcome → Type 0
AnswersOne s c j x =
    answers_since (start_of_rows s.start) j s.entries
    ≡ record { client = c; place = j; outcome = x } ∷ []

module _ {A : Type 0} where
  -- after the entry was added, there is room for the one that must follow
  abbrev pub IsReadyAfter : State A → Entry → Type 0
  IsReadyAfter old e =
      (mid : State A) → Adds old e mid → (f : Entry) → forced (history_of mid) ≡ Some f
      → HasRoomFor mid f

  -- a call's entry and its Grant with this outcome were added, and this many entries are no longer
  -- reserved after them
  pub record AddsGranted (old : State A) (c : ℕ) (call : FunctionCall) (used : ℕ) (x : Outcome)
      (new : State A) : Type 0 where
    pub mid : State A
    pub first : Adds old (Call c call None) mid
    pub its : Open
    pub found : Some its ≡ open_in (client_value mid.clients c)
    pub second : Adds mid (service (history_of mid) its.call) new
    pub replies : x ≡ grant_outcome (history_of mid) its.call
    pub uses :
        used + count_if_passed (gives_owner (history_of mid) its.call
        (final_mutex its.call.role its.call.object))
        ≡ reserved_for (history_of mid) its.call

  -- an entry was added, and then the one that must follow it
  pub record AddsBoth (old : State A) (e : Entry) (new : State A) : Type 0 where
    pub mid : State A
    pub first : Adds old e mid
    pub next : Entry
    pub follows : forced (history_of mid) ≡ Some next
    pub second : Adds mid next new
