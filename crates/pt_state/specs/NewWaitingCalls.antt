-- NewWaitingCalls: a call that is left waiting, and the tables before its client's row is written.
use Rattle.std.specs.Prelude.{ℕ, ◌≡◌, ◌<◌, Bool, true, false, List, [], ◌∷◌, map, Some, None}
use Rattle.pt_types.specs.declared.call.Call.{Call as FunctionCall}
use Rattle.pt_table.specs.declared.clients.ClientRow.{ClientRow}
use Rattle.pt_table.specs.ClientRows.{client_value}
use Rattle.pt_model.specs.declared.entry.Entry.TheVariants.{Call}
use Rattle.pt_model.specs.Histories.{History, ◌▷◌, place}
use Rattle.pt_model.specs.declared.waiting_call.Role.{Role}
use Rattle.pt_model.specs.declared.waiting_call.Role.TheVariants.{ForRead, ForCond}
use Rattle.pt_model.specs.WaitingCall.{waiting_calls_by}
use Rattle.pt_model.specs.Steps.{Step, Follows}
use Rattle.pt_records.specs.declared.clients.Caller.{Caller}
use Rattle.pt_records.specs.declared.clients.Open.{Open}
use Rattle.pt_state.specs.declared.state.State.{State}
use Rattle.pt_state.specs.Clocks.{AreClocks}
use Rattle.pt_records.specs.Callers.{AreCallers, caller_after_call}
use Rattle.pt_records.specs.Chained.{AreChained}
use Rattle.pt_records.specs.Objects.{AreObjectRows}
use Rattle.pt_records.specs.Logs.{log_entry, log}
use Rattle.pt_records.specs.Writes.{WritesCaller}
use Rattle.pt_state.specs.Adds.{history_of}

-- whether a call of this role changes no object when it begins to wait
-- [XSH pthread_mutex_lock, pthread_rwlock_wrlock, pthread_barrier_wait]
abbrev pub changes_no_object : Role → Bool
changes_no_object ForRead = false
changes_no_object (ForCond m) = false
changes_no_object _ = true

-- the open call is the one that the client's call leaves waiting, and it is not moved
pub record IsNewWaitingCall (h : History) (c : ℕ) (call : FunctionCall) (o : Open) : Type 0 where
  pub is_waiting : waiting_calls_by h (Call c call None) ≡ o.call ∷ []
  pub unmoved : o.moved ≡ None

module _ {A : Type 0} where
  -- except for the latest and open call in the client's row, the tables are those read off the
  -- history that includes the call's entry
  pub record IsNearlyWaiting (s : State A) (c : ℕ) (call : FunctionCall) (o : Open) : Type 0 where
    pub follows : Follows (history_of s)
    pub step : Step (history_of s) (Call c call None)
    pub room : 0 < s.stored.room
    pub clocks : AreClocks (history_of s) s.clocks
    pub answers : map log_entry s.answers.items ≡ log (history_of s)
    pub objects : AreObjectRows (history_of s ▷ Call c call None) s.objects
    pub chained : AreChained s.clients s.objects s.orphans
    pub there : (v : Caller) × (client_value s.clients c ≡ Some v)
    pub callers : (rows : List (ClientRow Caller)) (v : Caller) → client_value s.clients c ≡ Some v
        → WritesCaller s.clients rows c
        (record (caller_after_call (place (history_of s)) None v) { «open» = Some o })
        → AreCallers (history_of s ▷ Call c call None) rows
