-- Objects: the rows of objects, as they are read off a history.
use Rattle.std.specs.Prelude.{ℕ, ◌≡◌, ◌<◌, true, List, [], ◌∷◌, Option, Some, None, is_some, length}
use Rattle.std.specs.Prelude.{option_map}
use Rattle.std.specs.List.{AllByRecursion as Each}
use Rattle.pt_types.specs.declared.call.ObjectKind.{ObjectKind}
use Rattle.pt_types.specs.declared.call.ObjectKind.TheVariants as kind
use Rattle.pt_table.specs.declared.objects.ObjectRow.{ObjectRow}
use Rattle.pt_table.specs.ObjectRows.{object_value, number_of_name}
use Rattle.pt_mutex.specs.MutexState.{MutexState, new_mutex}
use Rattle.pt_rwlock.specs.RwlockState.{RwlockState, new_rwlock, reads_of, reads_in_row}
use Rattle.pt_model.specs.Histories.{History, place}
use Rattle.pt_model.specs.Objects.{kind_of, object_named, object_count}
use Rattle.pt_model.specs.declared.waiting_call.WaitingCall.{WaitingCall}
use Rattle.pt_model.specs.declared.waiting_call.Role.TheVariants.{ForRead}
use Rattle.pt_model.specs.Searches.{In}
use Rattle.pt_model.specs.Answers.{open_calls}
use Rattle.pt_model.specs.Mutexes.{mutex_view}
use Rattle.pt_model.specs.Rwlocks.{write_holder, read_count}
use Rattle.pt_records.specs.declared.objects.Object.{Object}
use Rattle.pt_records.specs.declared.objects.Object.TheVariants.{Mutex, Rwlock, Cond, Barrier}

-- a mutex's row is as it is read off the history  [XSH 2.9.3]
abbrev pub IsMutex : History → ℕ → MutexState → Type 0
IsMutex h o m = (m.view ≡ mutex_view h o) × (m.bound_waits ≡ 0)

-- a read-write lock's row is as it is read off the history, and each client whose call for a read
-- lock waits there has a row in it  [XSH 2.9]
pub record IsRwlock (h : History) (o : ℕ) (r : RwlockState) : Type 0 where
  pub writer : r.writer ≡ write_holder h o
  pub reads : (c : ℕ) → reads_of r c ≡ read_count h o c
  pub rows : (w : WaitingCall) → In w (open_calls h) → w.role ≡ ForRead → w.object ≡ o
      → is_some (reads_in_row r w.client) ≡ true

module _ {A : Type 0} where
  -- the kind that an object was made with  [XSH 2.9]
  abbrev pub kind_in_row : Object A → ObjectKind
  kind_in_row (Mutex m) = kind.Mutex m.view.kind m.view.robust
  kind_in_row (Rwlock r) = kind.Rwlock
  kind_in_row (Cond q) = kind.Cond
  kind_in_row (Barrier count) = kind.Barrier count

  -- the object is one of this kind as it is made  [XSH pthread_mutex_init, pthread_cond_init]
  abbrev pub IsNew : Object A → ObjectKind → Type 0
  IsNew (Mutex m) (kind.Mutex k robust) = m ≡ new_mutex k robust
  IsNew (Rwlock r) kind.Rwlock = r ≡ new_rwlock
  IsNew (Cond q) kind.Cond = q ≡ record { bound = None }
  IsNew (Barrier count) (kind.Barrier n) = count ≡ n
  IsNew _ _ = ⊥

  -- each row's number is below those of the rows after it, and below n
  abbrev pub Rising : List (ObjectRow (Object A)) → ℕ → Type 0
  Rising [] n = Unit {0}
  Rising (row ∷ rows) n =
      (row.number < n) × Each (λ other. row.number < other.number) rows × Rising rows n

  -- what is looked up for each object is what is read off the history
  pub record ObjectsLook (h : History) (look : ℕ → Option (Object A)) : Type 0 where
    pub kinds : (o : ℕ) → option_map kind_in_row (look o) ≡ kind_of h o
    pub mutexes : (o : ℕ) (m : MutexState) → look o ≡ Some (Mutex m) → IsMutex h o m
    pub rwlocks : (o : ℕ) (r : RwlockState) → look o ≡ Some (Rwlock r) → IsRwlock h o r

  -- the rows are those of the objects that exist
  pub record AreObjectRows (h : History) (rows : List (ObjectRow (Object A))) : Type 0 where
    pub look : ObjectsLook h (object_value rows)
    pub names : (n : List ℕ) → number_of_name rows n ≡ option_map (λ x. x.number) (object_named h n)
    pub rising : Rising rows (place h)
    pub many : length rows ≡ object_count h
