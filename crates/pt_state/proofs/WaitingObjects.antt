-- The objects after a call that is left waiting.
use Rattle.std.proofs.Common.{◌≡◌, ℕ, ◌==◌, true, List, Option, Some, None, is_some, refl, sym, ap}
use Rattle.std.proofs.Common.{◌∙◌, subst, arith}
use Rattle.std.proofs.lemmas.Bool.Decides.{nat_tests}
use Rattle.pt_types.specs.declared.call.Call.{Call as FunctionCall}
use Rattle.pt_types.specs.declared.outcome.Outcome.{Outcome}
use Rattle.pt_types.specs.Tables.{reply}
use Rattle.pt_types.specs.MutexTable.{owns}
use Rattle.pt_table.specs.declared.objects.ObjectRow.{ObjectRow}
use Rattle.pt_table.specs.ObjectRows.{object_value}
use Rattle.pt_mutex.specs.MutexState.{MutexState, mutex_after_release}
use Rattle.pt_rwlock.specs.RwlockState.{RwlockState, reads_in_row, reads_of, with_row, ChangesRow}
use Rattle.pt_model.specs.declared.entry.Entry.TheVariants.{Call}
use Rattle.pt_model.specs.Histories.{History, ◌▷◌, place}
use Rattle.pt_model.specs.declared.waiting_call.Role.{Role}
use Rattle.pt_model.specs.declared.waiting_call.Role.TheVariants.{ForMutex, ForRead, ForWrite}
use Rattle.pt_model.specs.declared.waiting_call.Role.TheVariants.{ForBarrier, ForCond}
use Rattle.pt_model.specs.Verdicts.{verdict}
use Rattle.pt_model.proofs.Effects.{Seated}
use Rattle.pt_records.specs.Chained.{KeepsChains}
use Rattle.pt_records.specs.declared.clients.Open.{Open}
use Rattle.pt_records.specs.declared.objects.Object.{Object}
use Rattle.pt_records.specs.declared.objects.Object.TheVariants.{Mutex, Rwlock}
use Rattle.pt_state.specs.declared.state.State.{State}
use Rattle.pt_records.specs.Objects.{ObjectsLook, AreObjectRows}
use Rattle.pt_records.specs.Writes.{WritesObject}
use Rattle.pt_state.specs.Reads.{AreTables}
use Rattle.pt_state.specs.Adds.{history_of, AddsNothing, HasRoomFor}
use Rattle.pt_state.specs.NewWaitingCalls.{changes_no_object, IsNewWaitingCall}
use Rattle.pt_records.proofs.Chaining.{chained-written}
use Rattle.pt_state.proofs.JudgeLemmas.{found-mutex, found-rwlock}
use Rattle.pt_state.proofs.TableLemmas.{object_rows-kept, object_rows-written}
use Rattle.pt_state.proofs.ObjectCalls.{is_plain, is_idle, object_rows-idle, object_rows-read}
use Rattle.pt_state.proofs.ObjectCalls.{object_rows-row}
use Rattle.pt_state.proofs.ObjectChanges.{object_rows-awaits}
use Rattle.pt_state.proofs.OneObject.{object_rows-one, kept-at, IsKept}
use Rattle.pt_state.proofs.WaitingLemmas.{unanswered, step-told, does-waits, seated}

-- a call that only waits changes no object
stands-plain : (role : Role) → changes_no_object role ≡ true → is_plain role ≡ true
stands-plain ForMutex e = refl
stands-plain ForWrite e = refl
stands-plain ForBarrier e = refl
stands-plain ForRead e = absurd cc
stands-plain (ForCond m) e = absurd cc

-- the client has its row
row-there : (x x' : RwlockState) (c n : ℕ) → ChangesRow x x' c (Some n)
    → is_some (reads_in_row x' c) ≡ true
row-there x x' c n change =
    let same : (c == c) ≡ true = grind (arith, nat_tests) in
    ap is_some (change c) ∙ rw same refl

module _ {A : Type 0} where
  -- a row that is written with the value that it had
  pub object_rows-again : (h : History) (old new : List (ObjectRow (Object A))) (o : ℕ)
      (x : Object A)
      → AreObjectRows h old → object_value old o ≡ Some x → WritesObject old new o x
      → AreObjectRows h new
  object_rows-again h old new o x a at w =
      record {
        look = object_rows-one h h (object_value old) (object_value new) o (Some x) a.look w.look
            (λ p ne. record { kind = refl; view = refl; writer = refl; reads = λ d. refl })
            (λ v i role. i)
            (subst (λ (y : Option (Object A)). IsKept h o y) at
            (kept-at h (object_value old) a.look o));
        names = λ n. w.names n ∙ a.names n;
        rising = w.rising (place h) a.rising;
        many = w.many ∙ a.many;
      }

  -- so no table has changed
  pub stayed-again : (s : State A) (new : List (ObjectRow (Object A))) (o : ℕ) (x : Object A)
      → AreTables s → object_value s.objects o ≡ Some x → WritesObject s.objects new o x
      → KeepsChains s.objects new → AddsNothing s (record s { objects = new })
  stayed-again s new o x r at w k =
      record {
        stored = refl;
        read = record {
          follows = r.follows;
          callers = r.callers;
          object_rows = object_rows-again (history_of s) s.objects new o x r.object_rows at w;
          chained = chained-written s.clients s.objects new s.orphans r.chained o x x at w refl k;
          clocks = r.clocks;
          answers = r.answers;
        };
        has_capacity = refl;
        replies = refl;
      }

module _ {A : Type 0} (s : State A) (c : ℕ) (call : FunctionCall)
    (ready : HasRoomFor s (Call c call None)) (o : Open) (l : IsNewWaitingCall
    (history_of s) c call o) where
  -- a look-up that is right with the verdict's answer is also right without one
  without : (look : ℕ → Option (Object A))
      → ObjectsLook (history_of s ▷ Call c call (reply (verdict (history_of s) c call))) look
      → ObjectsLook (history_of s ▷ Call c call None) look
  without look t =
      subst (λ (x : Option Outcome). ObjectsLook (history_of s ▷ Call c call x) look)
      (sym (unanswered s c call ready)) t

  -- a call that only waits
  pub object_rows-waiting : changes_no_object o.call.role ≡ true
      → AreObjectRows (history_of s ▷ Call c call None) s.objects
  object_rows-waiting e =
      object_rows-kept (history_of s) (Call c call None) s.objects ready.read.object_rows
      (without (object_value s.objects)
      (object_rows-idle (history_of s) (object_value s.objects) c call ready.read.follows
      (step-told s c call ready) ready.read.object_rows.look
      (ap is_idle (does-waits s c call ready o l) ∙ stands-plain o.call.role e)))
      (λ n. refl) refl

  -- a call for a read lock waits at a read-write lock
  pub lock-there : o.call.role ≡ ForRead
      → (x : RwlockState) × (object_value s.objects o.call.object ≡ Some (Rwlock x))
  lock-there e =
      let seat : Seated (history_of s) c ForRead o.call.object =
      subst (λ (r : Role). Seated (history_of s) c r o.call.object) e (seated s c call ready o l) in
      found-rwlock (history_of s) ready.read.follows
      (object_value s.objects) ready.read.object_rows.look
      seat.0.0 o.call.object seat.0.1

  -- and its client has a row there
  pub object_rows-reading : (new : List (ObjectRow (Object A))) (x : RwlockState)
      → o.call.role ≡ ForRead
      → object_value s.objects o.call.object ≡ Some (Rwlock x)
      → WritesObject s.objects new o.call.object (Rwlock (with_row x c))
      → ChangesRow x (with_row x c) c (Some (reads_of x c))
      → AreObjectRows (history_of s ▷ Call c call None) new
  object_rows-reading new x e at w row =
      object_rows-written (history_of s) (Call c call None) s.objects new o.call.object
      (Rwlock (with_row x c)) ready.read.object_rows w
      (without (object_value new)
      (object_rows-read (history_of s) (object_value new) c call o.call ready.read.follows
      (step-told s c call ready)
      (object_rows-row (history_of s) (object_value s.objects) (object_value new) o.call.object c x
      (with_row x c) ready.read.object_rows.look at refl row w.look)
      (does-waits s c call ready o l) e has))
      (λ n. refl) refl
    where
      has : (r : RwlockState) → object_value new o.call.object ≡ Some (Rwlock r)
          → is_some (reads_in_row r c) ≡ true
      has r k =
          let here : (o.call.object == o.call.object) ≡ true = grind (arith, nat_tests) in
          let is : ◌≡◌ {A = Option (Object A)} (Some (Rwlock (with_row x c))) (Some (Rwlock r)) =
          sym (w.look o.call.object ∙ rw here refl) ∙ k in
          let same : with_row x c ≡ r = cc in
          subst (λ y. is_some (reads_in_row y c) ≡ true) same
          (row-there x (with_row x c) c (reads_of x c) row)

  -- a client that begins to wait at a condition owns the mutex
  pub mutex-there : (m : ℕ) → o.call.role ≡ ForCond m
      → (x : MutexState) × (object_value s.objects m ≡ Some (Mutex x))
  mutex-there m e =
      let seat : Seated (history_of s) c (ForCond m) o.call.object =
      subst (λ (r : Role). Seated (history_of s) c r o.call.object) e (seated s c call ready o l) in
      found-mutex (history_of s) ready.read.follows
      (object_value s.objects) ready.read.object_rows.look
      seat.1.0.0 m seat.1.0.1

  pub mutex-owned : (m : ℕ) → o.call.role ≡ ForCond m → (x : MutexState)
      → object_value s.objects m ≡ Some (Mutex x) → owns x.view c ≡ true
  mutex-owned m e x at =
      let seat : Seated (history_of s) c (ForCond m) o.call.object =
      subst (λ (r : Role). Seated (history_of s) c r o.call.object) e (seated s c call ready o l) in
      ap (λ v. owns v c) (ready.read.object_rows.look.mutexes m x at).0 ∙ seat.1.1

  -- and gives back one lock of it
  pub object_rows-waited : (new : List (ObjectRow (Object A))) (m : ℕ) (x : MutexState)
      → o.call.role ≡ ForCond m → object_value s.objects m ≡ Some (Mutex x)
      → WritesObject s.objects new m (Mutex (record x { view = mutex_after_release x.view }))
      → AreObjectRows (history_of s ▷ Call c call None) new
  object_rows-waited new m x e at w =
      object_rows-written (history_of s) (Call c call None) s.objects new m
      (Mutex (record x { view = mutex_after_release x.view })) ready.read.object_rows w
      (without (object_value new)
      (object_rows-awaits (history_of s) (object_value s.objects) (object_value new) c call
      ready.read.follows (step-told s c call ready) ready.read.object_rows.look o.call m x
      (does-waits s c call ready o l) e at w.look))
      (λ n. refl) refl
