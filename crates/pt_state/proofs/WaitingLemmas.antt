-- What is known of a call that is left waiting, and the tables before its client's row is written.
use Rattle.std.proofs.Common.{◌≡◌, ℕ, true, Bor, List, [], ◌∷◌, Option, Some, None, refl, sym, ap}
use Rattle.std.proofs.Common.{◌∙◌, subst}
use Rattle.std.specs.Prelude.{is_some, option_map}
use Rattle.pt_types.specs.declared.call.Call.{Call as FunctionCall}
use Rattle.pt_types.specs.declared.call.How.{How}
use Rattle.pt_types.specs.declared.name.Name.{Name}
use Rattle.pt_types.specs.declared.time.Deadline.{Deadline}
use Rattle.pt_types.specs.declared.outcome.Outcome.{Outcome}
use Rattle.pt_types.specs.declared.time.Clock.{Clock}
use Rattle.pt_types.specs.Operations.{Operation, Inits, Ends, Acquires, Unlocks, Restores}
use Rattle.pt_types.specs.Operations.{Rwunlocks, CondWaits, Signals, Broadcasts, BarrierWaits, operation}
use Rattle.pt_types.specs.Operations.{clock_of}
use Rattle.pt_types.specs.Tables.{reply}
use Rattle.pt_table.specs.declared.clients.ClientRow.{ClientRow}
use Rattle.pt_table.specs.declared.objects.ObjectRow.{ObjectRow}
use Rattle.pt_table.specs.ClientRows.{client_value, has_client}
use Rattle.pt_model.specs.declared.entry.Entry.TheVariants.{Call}
use Rattle.pt_model.specs.Searches.{In}
use Rattle.pt_model.specs.Histories.{History, ◌▷◌, place}
use Rattle.pt_model.specs.Clients.{is_alive}
use Rattle.pt_model.specs.declared.waiting_call.WaitingCall.{WaitingCall}
use Rattle.pt_model.specs.WaitingCall.{waiting_calls_by_operation}
use Rattle.pt_model.specs.Verdicts.{operation_verdict, verdict}
use Rattle.pt_model.specs.Steps.{Step}
use Rattle.pt_model.proofs.Effects.{Waits, act, stays, Seated, Allowed}
use Rattle.pt_model.proofs.Allowances.{allowed}
use Rattle.pt_model.proofs.WaitingOrder.{stands-operation}
use Rattle.pt_types.specs.declared.operations.Operation.{Operation as PlainOperation}
use Rattle.pt_types.specs.declared.operations.Operation.TheVariants as operations
use Rattle.pt_types.specs.declared.operations.LockKind.{LockKind}
use Rattle.pt_types.specs.declared.operations.LockKind.TheVariants.{MutexLock, ReadLock, WriteLock}
use Rattle.pt_model.specs.declared.waiting_call.Role.TheVariants.{ForRead}
use Rattle.pt_state.specs.Outer.{is_read_call}
use Rattle.pt_types.specs.OperationViews.{operation_view}
use Rattle.pt_records.specs.declared.clients.Caller.{Caller}
use Rattle.pt_records.specs.declared.clients.Open.{Open}
use Rattle.pt_records.specs.declared.objects.Object.{Object}
use Rattle.pt_state.specs.declared.state.State.{State}
use Rattle.pt_records.specs.Callers.{CallersLook, AreCallers, caller_after_call}
use Rattle.pt_records.specs.Chained.{AreChained, rows_without_owned}
use Rattle.pt_records.specs.Objects.{AreObjectRows}
use Rattle.pt_state.specs.Adds.{history_of, HasRoomFor}
use Rattle.pt_state.specs.NewWaitingCalls.{IsNewWaitingCall, IsNearlyWaiting}
use Rattle.pt_state.proofs.CallerCalls.{look-waits}
use Rattle.pt_records.proofs.CallerWrites.{client-there}
use Rattle.pt_state.proofs.OwnedRows.{there-rows_without_owned, written-rows_without_owned}
use Rattle.pt_state.proofs.StepLemmas.{called}
use Rattle.pt_state.proofs.TableLemmas.{callers-written}
use Rattle.pt_state.proofs.ObjectCalls.{does}

-- what an operation leaves waiting is what it does
operation-waits : (h : History) (c : ℕ) (z : Clock) (d : Operation) (w : WaitingCall)
    → waiting_calls_by_operation h c z d ≡ w ∷ [] → stays h c z d ≡ Waits w
operation-waits h c z (Acquires n lock_kind how) w e = cc
operation-waits h c z (CondWaits n k deadline) w e = cc
operation-waits h c z (BarrierWaits n) w e = cc
operation-waits h c z (Inits n kind) w e = absurd cc
operation-waits h c z (Ends n class) w e = absurd cc
operation-waits h c z (Unlocks n) w e = absurd cc
operation-waits h c z (Restores n) w e = absurd cc
operation-waits h c z (Rwunlocks n) w e = absurd cc
operation-waits h c z (Signals n) w e = absurd cc
operation-waits h c z (Broadcasts n) w e = absurd cc

-- an operation that leaves a call waiting is one of three
pub stands-only : (h : History) (c : ℕ) (z : Clock) (d : PlainOperation) (w : WaitingCall)
    → In w (waiting_calls_by_operation h c z (operation_view d))
    → ((n : Bor Name) (lock_kind : LockKind) (how : How) → d ≡ operations.Acquires n lock_kind how
    → ⊥)
    → ((n m : Bor Name) (t : Option Deadline) → d ≡ operations.CondWaits n m t → ⊥)
    → ((n : Bor Name) → d ≡ operations.BarrierWaits n → ⊥) → ⊥
stands-only h c z (operations.Acquires n lock_kind how) w i a b r = a n lock_kind how refl
stands-only h c z (operations.CondWaits n m t) w i a b r = b n m t refl
stands-only h c z (operations.BarrierWaits n) w i a b r = r n refl
stands-only h c z (operations.Inits n kind) w i a b r = i
stands-only h c z (operations.Ends n class) w i a b r = i
stands-only h c z (operations.Unlocks n) w i a b r = i
stands-only h c z (operations.Restores n) w i a b r = i
stands-only h c z (operations.Rwunlocks n) w i a b r = i
stands-only h c z (operations.Signals n) w i a b r = i
stands-only h c z (operations.Broadcasts n) w i a b r = i

-- only a call for a read lock waits as a reader
pub reads-asked : (h : History) (c : ℕ) (z : Clock) (d : Operation) (w : WaitingCall)
    → waiting_calls_by_operation h c z d ≡ w ∷ [] → w.role ≡ ForRead → is_read_call d ≡ true
reads-asked h c z (Acquires n ReadLock how) w e r = refl
reads-asked h c z (Acquires n MutexLock how) w e r = absurd cc
reads-asked h c z (Acquires n WriteLock how) w e r = absurd cc
reads-asked h c z (CondWaits n k deadline) w e r = absurd cc
reads-asked h c z (BarrierWaits n) w e r = absurd cc
reads-asked h c z (Inits n kind) w e r = absurd cc
reads-asked h c z (Ends n class) w e r = absurd cc
reads-asked h c z (Unlocks n) w e r = absurd cc
reads-asked h c z (Restores n) w e r = absurd cc
reads-asked h c z (Rwunlocks n) w e r = absurd cc
reads-asked h c z (Signals n) w e r = absurd cc
reads-asked h c z (Broadcasts n) w e r = absurd cc

-- a living client has a row
alive-there : (h : History) (rows : List (ClientRow Caller)) → AreCallers h rows → (c : ℕ)
    → is_alive h c ≡ true → (v : Caller) × (client_value rows c ≡ Some v)
alive-there h rows a c e = go (client_value rows c) refl (ap is_some (a.look.living c) ∙ e)
  where
    go : (o : Option Caller) → client_value rows c ≡ o
        → is_some (option_map (λ (v : Caller). v.priority) o) ≡ true
        → (v : Caller) × (client_value rows c ≡ Some v)
    go None k e = absurd cc
    go (Some v) k e = (v, k)

-- a row whose client's call is left waiting
abbrev left_at : ℕ → Open → Caller → Caller
left_at k o v = record (caller_after_call k None v) { «open» = Some o }

module _ {A : Type 0} (s : State A) (c : ℕ) (call : FunctionCall)
    (ready : HasRoomFor s (Call c call None)) where
  -- the verdict is that it waits
  pub unanswered : None ≡ reply (verdict (history_of s) c call)
  unanswered = (called (history_of s) c call None ready.step).replies

  -- the same step, with the answer that the verdict gives
  pub step-told : Step (history_of s) (Call c call (reply (verdict (history_of s) c call)))
  step-told = subst (λ (x : Option Outcome). Step (history_of s)
      (Call c call x)) unanswered ready.step

  -- the caller has a row
  pub waits_there : (v : Caller) × (client_value s.clients c ≡ Some v)
  waits_there =
      alive-there (history_of s) s.clients ready.read.callers c
      (called (history_of s) c call None ready.step).alive

  pub waits-row : has_client s.clients c ≡ true
  waits-row = client-there s.clients c waits_there.0 waits_there.1

  -- it leaves a call waiting
  pub stood-some : (d : Operation) → d ≡ operation call
      → (w : WaitingCall) × In w (waiting_calls_by_operation (history_of s) c (clock_of call) d)
  stood-some d e =
      let w = stands-operation (history_of s) c (clock_of call) d
      (ap (λ x. reply (operation_verdict (history_of s) c x)) e ∙ sym unanswered) in
      (w.0, w.1.0)

  module _ (o : Open) (l : IsNewWaitingCall (history_of s) c call o) where
    -- it does nothing but wait
    pub does-waits : does (history_of s) c call ≡ Waits o.call
    does-waits = ap (act (history_of s) c (clock_of call) (operation call)) (sym unanswered)
        ∙ operation-waits (history_of s) c (clock_of call) (operation call) o.call l.is_waiting

    -- its client may wait there
    pub seated : Seated (history_of s) c o.call.role o.call.object
    seated =
        let may : Allowed (history_of s) c (Waits o.call) =
        subst (λ E. Allowed (history_of s) c E) does-waits (allowed (history_of s) c call) in
        may.1

    -- everything but its client's row is written, if these are the objects
    pub nearly-left : (clients : List (ClientRow Caller)) → rows_without_owned clients
        ≡ rows_without_owned s.clients
        → (objects : List (ObjectRow (Object A)))
        → AreObjectRows (history_of s ▷ Call c call None) objects
        → AreChained clients objects s.orphans
        → IsNearlyWaiting (record s { clients = clients; objects = objects }) c call o
    nearly-left clients same objects object_rows chained =
        record {
          follows = ready.read.follows;
          step = ready.step;
          room = ready.room;
          clocks = ready.read.clocks;
          answers = ready.read.answers;
          objects = object_rows;
          chained = chained;
          there = there-rows_without_owned s.clients clients same c waits_there;
          callers = written-rows_without_owned s.clients clients same (history_of s)
              (history_of s ▷ Call c call None) c
              (left_at (place (history_of s)) o) (λ u v e. ap (left_at (place (history_of s)) o) e)
              ready.read.callers (λ rows v at written.
              callers-written (history_of s) (Call c call None) s.clients rows c
              (left_at (place (history_of s)) o v) ready.read.callers written
              (subst (λ (x : Option Outcome).
              CallersLook (history_of s ▷ Call c call x) (client_value rows)) (sym unanswered)
              (look-waits (history_of s) (client_value s.clients)
              (client_value rows) ready.read.follows
              ready.read.callers.look c call step-told v at o.call does-waits o refl
              l.unmoved (sym unanswered) written.look)) refl);
        }
