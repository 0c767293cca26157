-- Writes: the rows of the tables before and after some of them are written.
use Rattle.std.specs.Prelude.{ℕ, zero, suc, ◌+◌, ◌≡◌, ◌==◌, ◌&&◌, Bool, false, List, [], ◌∷◌}
use Rattle.std.specs.Prelude.{Option, Some, None, is_none, length, option_map, if◌then◌else◌}
use Rattle.std.specs.Option.{option_and_then}
use Rattle.pt_types.specs.declared.outcome.Outcome.{Outcome}
use Rattle.pt_table.specs.declared.clients.ClientRow.{ClientRow}
use Rattle.pt_table.specs.declared.objects.ObjectRow.{ObjectRow}
use Rattle.pt_table.specs.ClientRows.{client_value}
use Rattle.pt_types.specs.declared.call.ObjectKind.{ObjectKind}
use Rattle.pt_types.specs.declared.call.ObjectKind.TheVariants as kind
use Rattle.pt_types.specs.MutexTable.{is_some_number}
use Rattle.pt_types.specs.Names.{same_name}
use Rattle.pt_table.specs.ObjectRows.{object_value, row_with_name, number_of_name}
use Rattle.pt_table.specs.Linked.{is_linked}
use Rattle.pt_mutex.specs.MutexState.{new_mutex}
use Rattle.pt_rwlock.specs.RwlockState.{new_rwlock}
use Rattle.pt_model.specs.declared.entry.Cause.{Cause}
use Rattle.pt_model.specs.Records.{ReplyView}
use Rattle.pt_model.specs.WaitingCall.{is_barrier_wait, is_cond_wait}
use Rattle.pt_records.specs.declared.clients.Caller.{Caller}
use Rattle.pt_records.specs.declared.clients.Open.{Open}
use Rattle.pt_records.specs.declared.objects.Object.{Object}
use Rattle.pt_records.specs.declared.objects.Object.TheVariants.{Mutex, Rwlock, Cond, Barrier}
use Rattle.pt_records.specs.Callers.{HasDistinctNumbers, has_open, caller_after_answer}
use Rattle.pt_records.specs.Callers.{caller_after_move}
use Rattle.pt_records.specs.Chained.{KeepsChains}
use Rattle.pt_records.specs.Logs.{outcome_in_log}
use Rattle.pt_records.specs.Objects.{Rising}

-- one client's row is written, and the others stay the same
pub record WritesCaller (old new : List (ClientRow Caller)) (c : ℕ) (v : Caller) : Type 0 where
  pub look : (d : ℕ) → client_value new d ≡ if c == d then Some v else client_value old d
  pub many : length new ≡ length old
  pub once : HasDistinctNumbers old → HasDistinctNumbers new

-- a client gets its row, and the others stay the same
pub record AddsCaller (old new : List (ClientRow Caller)) (c : ℕ) (v : Caller) : Type 0 where
  pub look : (d : ℕ) → client_value new d ≡ if c == d then Some v else client_value old d
  pub many : length new ≡ length old + 1
  pub once : HasDistinctNumbers old → HasDistinctNumbers new

-- a client's row is removed, and the others stay the same
pub record RemovesCaller (old new : List (ClientRow Caller)) (c : ℕ) : Type 0 where
  pub look : (d : ℕ) → client_value new d ≡ if c == d then None else client_value old d
  pub many : HasDistinctNumbers old → length new + 1 ≡ length old
  pub once : HasDistinctNumbers old → HasDistinctNumbers new

-- each row has what g makes of its old value
pub record RewritesCallers (old new : List (ClientRow Caller)) (g : Caller → Caller) : Type 0 where
  pub look : (d : ℕ) → client_value new d ≡ option_map g (client_value old d)
  pub many : length new ≡ length old
  pub once : HasDistinctNumbers old → HasDistinctNumbers new

-- the rows, with the one at an index changed by g
abbrev pub rewritten_nth : (Caller → Caller) → List (ClientRow Caller) → ℕ → List (ClientRow Caller)
rewritten_nth g [] i = []
rewritten_nth g (row ∷ rows) zero = record row { value = g row.value } ∷ rows
rewritten_nth g (row ∷ rows) (suc i) = row ∷ rewritten_nth g rows i

-- whether an open call waits at the barrier  [XSH pthread_barrier_wait]
abbrev pub waits_at_barrier : ℕ → Open → Bool
waits_at_barrier b o = is_barrier_wait o.call.role && (o.call.object == b)

-- whether an open call is a wait at the condition that has not been moved  [XSH pthread_cond_wait]
abbrev pub is_unmoved_at : ℕ → Open → Bool
is_unmoved_at q o =
    is_cond_wait o.call.role && (is_none o.moved && (q == o.call.object))

-- the client's row, if it has one, has what g makes of its old value, and the others stay the same
pub record ChangesCaller (old new : List (ClientRow Caller)) (c : ℕ) (g : Caller → Caller) : Type 0
  where
    pub look : (d : ℕ) → client_value new d
        ≡ if c == d then option_map g (client_value old d) else client_value old d
    pub many : length new ≡ length old
    pub once : HasDistinctNumbers old → HasDistinctNumbers new

-- the outcome of these answers for the open call in a row
abbrev pub answer_to_open : List (ℕ × ReplyView) → Caller → Option Outcome
answer_to_open log v = option_and_then (λ o. outcome_in_log log o.call.place) v.open

-- a row after the calls at the barrier got these answers  [XSH pthread_barrier_wait]
abbrev pub caller_after_trip : ℕ → List (ℕ × ReplyView) → Caller → Caller
caller_after_trip b log v = if has_open (waits_at_barrier b) v then caller_after_answer
    (answer_to_open log v) v else v

-- a row after the entry at place k broadcasts at the condition  [XSH pthread_cond_broadcast]
abbrev pub caller_after_broadcast : ℕ → ℕ → Cause → Caller → Caller
caller_after_broadcast q k cause v = if has_open
    (is_unmoved_at q) v then caller_after_move k cause v else v

module _ {A : Type 0} where
  -- no two rows have the same name
  abbrev pub NamesOnce : List (ObjectRow (Object A)) → Type 0
  NamesOnce [] = Unit {0}
  NamesOnce (row ∷ rows) = (row_with_name rows row.name ≡ None) × NamesOnce rows

  -- one object's row is written, and the others stay the same
  pub record WritesObject (old new : List (ObjectRow (Object A))) (o : ℕ) (x : Object A) :
      Type 0 where
    pub look : (p : ℕ) → object_value new p ≡ if o == p then Some x else object_value old p
    pub names : (n : List ℕ) → number_of_name new n ≡ number_of_name old n
    pub rising : (k : ℕ) → Rising old k → Rising new k
    pub many : length new ≡ length old
    pub once : NamesOnce old → NamesOnce new

  -- an object gets its row, and the others stay the same
  pub record AddsObject (old new : List (ObjectRow (Object A))) (o : ℕ) (name : List ℕ)
      (x : Object A) : Type 0 where
    pub look : (p : ℕ) → object_value new p ≡ if o == p then Some x else object_value old p
    pub names : (n : List ℕ)
        → number_of_name new n ≡ if same_name name n then Some o else number_of_name old n
    pub rising : Rising new (o + 1)
    pub many : length new ≡ length old + 1
    pub once : NamesOnce old → NamesOnce new
    pub free : object_value old o ≡ None
    pub chains : KeepsChains old new

  -- an object's row is removed, and the others stay the same
  pub record RemovesObject (old new : List (ObjectRow (Object A))) (o : ℕ) : Type 0 where
    pub look : (p : ℕ) → object_value new p ≡ if o == p then None else object_value old p
    pub names : NamesOnce old → (n : List ℕ)
        → number_of_name new n ≡ if is_some_number
        (number_of_name old n) o then None else number_of_name old n
    pub rising : (k : ℕ) → Rising old k → Rising new k
    pub many : (k : ℕ) → Rising old k → length new + 1 ≡ length old
    pub once : NamesOnce old → NamesOnce new
    pub chains : is_linked old o ≡ false → KeepsChains old new

  -- an object of this kind as it is made  [XSH 2.9]
  abbrev pub new_object : ObjectKind → Object A
  new_object (kind.Mutex k robust) = Mutex (new_mutex k robust)
  new_object kind.Rwlock = Rwlock new_rwlock
  new_object kind.Cond = Cond (record { bound = None })
  new_object (kind.Barrier count) = Barrier count
