-- Acquisitions: a call for a lock that is granted as it comes, and the tables after its entry and its Grant.
use Rattle.std.specs.Prelude.{ℕ, ◌≡◌, ◌++◌, ◌∷◌, [], Some, None, map}
use Rattle.pt_types.specs.declared.call.Call.{Call as FunctionCall}
use Rattle.pt_types.specs.declared.outcome.Outcome.{Outcome}
use Rattle.pt_table.specs.ClientRows.{client_value}
use Rattle.pt_model.specs.declared.entry.Entry.TheVariants.{Call, Grant}
use Rattle.pt_model.specs.Histories.{place}
use Rattle.pt_model.specs.declared.waiting_call.Role.{Role}
use Rattle.pt_model.specs.Grants.{grant_outcome}
use Rattle.pt_records.specs.declared.clients.Caller.{Caller}
use Rattle.pt_records.specs.declared.clients.Open.{Open}
use Rattle.pt_records.specs.Callers.{caller_after_call, open_in}
use Rattle.pt_records.specs.Logs.{log_entry}
use Rattle.pt_records.specs.Writes.{WritesCaller}
use Rattle.pt_state.specs.declared.state.State.{State}
use Rattle.pt_state.specs.Adds.{Adds, HasRoomFor, history_of, store_with_entry}
use Rattle.pt_state.specs.NewWaitingCalls.{IsNewWaitingCall}

module _ {A : Type 0} where
  -- the call would be left waiting for this lock in this role, and must be granted right after its
  -- entry is added  [XSH pthread_mutex_lock, pthread_rwlock_rdlock, pthread_rwlock_wrlock]
  pub record IsGrantedCall (s : State A) (c : ℕ) (call : FunctionCall) (kind : Role) (m : ℕ)
      (o : Open) : Type 0 where
    pub new_waiting : IsNewWaitingCall (history_of s) c call o
    pub client : o.call.client ≡ c
    pub place : o.call.place ≡ place (history_of s)
    pub role : o.call.role ≡ kind
    pub object : o.call.object ≡ m
    pub next : (mid : State A) → Adds s (Call c call None) mid
        → HasRoomFor mid (Grant o.call.place (grant_outcome (history_of mid) o.call))

  -- the call's entry was added, and then its Grant with this outcome
  pub record AddsCallAndGrant (old : State A) (c : ℕ) (call : FunctionCall) (o : Open) (x : Outcome)
      (new : State A) : Type 0 where
    pub mid : State A
    pub first : Adds old (Call c call None) mid
    pub found : open_in (client_value mid.clients c) ≡ Some o
    pub replies : x ≡ grant_outcome (history_of mid) o.call
    pub second : Adds mid (Grant o.call.place x) new

  -- a call's entry and its Grant with this outcome were stored, and the call was noted in its
  -- client's row and in the log of answers
  pub record NotesCallAndGrant (old : State A) (c : ℕ) (call : FunctionCall) (x : Outcome)
      (new : State A) : Type 0 where
    pub stored : new.stored
        ≡ store_with_entry (store_with_entry old.stored (Call c call None)) (Grant (place
        (history_of old)) x)
    pub noted : (v : Caller) → client_value old.clients c ≡ Some v
        → WritesCaller old.clients new.clients c (caller_after_call (place (history_of old))
        (Some x) v)
    pub answers : map log_entry new.answers.items ≡ map log_entry old.answers.items ++ (
      place (history_of (record old { stored = store_with_entry old.stored (Call c call None) })),
      record { client = c; place = place (history_of old); outcome = x },
    ) ∷ []
    pub has_capacity : new.answers.capacity ≡ old.answers.capacity
    pub rest : new ≡ record old {
      clients = new.clients;
      stored = new.stored;
      answers = new.answers;
    }
