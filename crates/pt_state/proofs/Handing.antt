-- What one step hands on to the next: an entry under another name, and objects that are written.
use Rattle.std.proofs.Common.{◌≡◌, ℕ, false, cond, List, ◌∷◌, [], Option, None, refl, sym, ap}
use Rattle.std.proofs.Common.{◌∙◌, subst}
use Rattle.std.specs.Prelude.{option_map, unwrap_or, Result, Ok, Err, OnErr}
use Rattle.pt_types.specs.declared.call.Call.{Call as FunctionCall}
use Rattle.pt_types.specs.declared.call.How.{How}
use Rattle.pt_types.specs.declared.operations.LockKind.{LockKind}
use Rattle.pt_types.specs.declared.time.Clock.{Clock}
use Rattle.pt_types.specs.declared.operations.ObjectClass.TheVariants.{Barrier as BarrierClass}
use Rattle.pt_types.specs.declared.operations.ObjectClass.TheVariants.{Cond as CondClass}
use Rattle.pt_types.specs.declared.operations.ObjectClass.TheVariants.{Mutex as MutexClass}
use Rattle.pt_types.specs.Operations.{Acquires, BarrierWaits, CondWaits, class_needed, clock_of}
use Rattle.pt_types.specs.Operations.{deadline_of}
use Rattle.pt_types.specs.Operations.{operation}
use Rattle.pt_types.specs.Times.{Timespec, deadline_nanos}
use Rattle.pt_table.specs.declared.clients.ClientRow.{ClientRow}
use Rattle.pt_table.specs.declared.objects.ObjectRow.{ObjectRow}
use Rattle.pt_model.specs.declared.entry.Entry.{Entry}
use Rattle.pt_model.specs.declared.entry.Entry.TheVariants.{Grant, Trip}
use Rattle.pt_model.specs.declared.waiting_call.Role.{Role}
use Rattle.pt_model.specs.declared.waiting_call.Role.TheVariants.{ForBarrier, ForCond}
use Rattle.pt_model.specs.declared.waiting_call.WaitingCall.{WaitingCall}
use Rattle.pt_model.specs.Clients.{client_priority}
use Rattle.pt_model.specs.Forced.{service}
use Rattle.pt_model.specs.Grants.{grant_outcome}
use Rattle.pt_model.specs.Histories.{History, place}
use Rattle.pt_model.specs.Objects.{find_object}
use Rattle.pt_model.specs.WaitingCall.{new_waiting_call, is_barrier_wait, object_or_zero}
use Rattle.pt_model.specs.WaitingCall.{role_of_lock}
use Rattle.pt_model.specs.WaitingCall.{waiting_calls_by_operation}
use Rattle.pt_records.specs.declared.clients.Caller.{Caller}
use Rattle.pt_records.specs.declared.clients.Open.{Open}
use Rattle.pt_records.specs.declared.objects.Object.{Object}
use Rattle.pt_state.specs.declared.state.State.{State}
use Rattle.pt_state.specs.Adds.{Adds, HasRoomFor, AddsNothing, history_of}
use Rattle.pt_state.specs.NewWaitingCalls.{IsNewWaitingCall}
use Rattle.pt_state.specs.Reads.{AreTables, Reads}
use Rattle.pt_state.specs.Serving.{call_of_open}

-- a call that waits at no barrier is served by its Grant
pub service-grant : (h : History) (w : WaitingCall) → is_barrier_wait w.role ≡ false
    → service h w ≡ Grant w.place (grant_outcome h w)
service-grant h w other =
    ap (λ b. cond b (Trip w.object) (Grant w.place (grant_outcome h w))) other

module _ {A : Type 0} (s : State A) where
  module _ (o : Open) (other : is_barrier_wait (call_of_open o).role ≡ false) where
    pub ready-grant : HasRoomFor s (service (history_of s) (call_of_open o))
        → HasRoomFor s (Grant o.call.place (grant_outcome (history_of s) (call_of_open o)))
    ready-grant ready =
        subst (λ (e : Entry). HasRoomFor s e) (service-grant (history_of s)
        (call_of_open o) other) ready

    pub adds-service : (new : State A)
        → Adds s (Grant o.call.place (grant_outcome (history_of s) (call_of_open o))) new
        → Adds s (service (history_of s) (call_of_open o)) new
    adds-service new a =
        subst (λ (e : Entry). Adds s e new) (sym (service-grant (history_of s)
        (call_of_open o) other)) a

  -- a state that adds an entry to this one with other rows also adds it to this one
  pub adds-over : (mid new : State A) (e : Entry)
      → mid ≡ record s { clients = mid.clients; objects = mid.objects }
      → Adds mid e new → Adds s e new
  adds-over mid new e rest a =
      let b = subst (λ (t : State A). Adds t e new) rest a in
      record { stored = b.stored; read = b.read; has_capacity = b.has_capacity; replies = b.replies }

  -- if the objects are as they were, so are all tables
  pub stays-objects : (objects : List (ObjectRow (Object A))) → AreTables s
      → objects ≡ s.objects → AddsNothing s (record s { objects = objects })
  stays-objects objects read same =
      record {
        stored = refl;
        read = subst (λ (os : List (ObjectRow (Object A))).
            Reads (history_of s) s.clients os s.orphans s.clocks s.answers.items) (sym same) read;
        has_capacity = refl;
        replies = refl;
      }

  -- and so they are if the clients are
  pub stays-clients : (clients : List (ClientRow Caller)) → AreTables s
      → clients ≡ s.clients → AddsNothing s (record s { clients = clients })
  stays-clients clients read same =
      record {
        stored = refl;
        read = subst (λ (rows : List (ClientRow Caller)).
            Reads (history_of s) rows s.objects s.orphans s.clocks s.answers.items) (sym same) read;
        has_capacity = refl;
        replies = refl;
      }

-- what holds in any case holds for an error
pub on-err : {X E P : Type 0} (r : Result X E) → P → OnErr r P
on-err (Ok x) p = tt
on-err (Err e) p = p

-- what is entered for a client's call is read off the history
pub new_waiting_call-as : (h : History) (c object : ℕ) (role : Role) (clock : Clock)
    (deadline : Option Timespec) (at priority : ℕ) (nanos : Option ℕ) → at ≡ place h
    → priority ≡ unwrap_or (client_priority h c) 0 → nanos ≡ option_map deadline_nanos deadline
    → ◌≡◌ {A = WaitingCall} (record {
      place = at;
      client = c;
      priority = priority;
      object = object;
      role = role;
      clock = clock;
      deadline = nanos;
    }) (new_waiting_call h c object role clock deadline)
new_waiting_call-as h c object role clock deadline at priority nanos ea ep en = rw (ea, ep, en) refl

-- what a call for a lock leaves waiting
pub left-acquires : (h : History) (c : ℕ) (call : FunctionCall) (n : List ℕ) (kind : LockKind) (how : How)
    (found : Option ℕ) (object : ℕ) (role : Role) (clock : Clock) (deadline : Option Timespec)
    (o : Open) → operation call ≡ Acquires n kind how → found ≡ find_object h n (class_needed kind)
    → object ≡ unwrap_or found 0 → role ≡ role_of_lock kind → clock ≡ clock_of call
    → deadline ≡ deadline_of how → o.call ≡ new_waiting_call h c object role clock deadline
    → o.moved ≡ None → IsNewWaitingCall h c call o
left-acquires h c call n kind how found object role clock deadline o asks ef eo er ec ed is un =
    record {
      is_waiting = ap (waiting_calls_by_operation h c (clock_of call)) asks ∙ ap (λ w. w ∷ []) (sym (is
          ∙ (ap (λ x. new_waiting_call h c x role clock deadline) (eo ∙ ap (λ f. unwrap_or f 0) ef)
          ∙ (ap (λ x. new_waiting_call h c (unwrap_or (find_object h n
          (class_needed kind)) 0) x clock deadline) er
          ∙ (ap (λ x. new_waiting_call h c (unwrap_or (find_object h n (class_needed kind)) 0)
          (role_of_lock kind) x
          deadline) ec
          ∙ ap (new_waiting_call h c (unwrap_or (find_object h n (class_needed kind)) 0)
          (role_of_lock kind)
          (clock_of call)) ed)))));
      unmoved = un;
    }

-- what a wait leaves waiting
pub left-awaits : (h : History) (c : ℕ) (call : FunctionCall) (n m : List ℕ) (found mutex : Option ℕ)
    (object k : ℕ) (clock : Clock) (deadline : Option Timespec) (o : Open)
    → operation call ≡ CondWaits n m deadline → found ≡ find_object h n CondClass
    → mutex ≡ find_object h m MutexClass → object ≡ unwrap_or found 0 → k ≡ unwrap_or mutex 0
    → clock ≡ clock_of call → o.call ≡ new_waiting_call h c object (ForCond k) clock deadline
    → o.moved ≡ None → IsNewWaitingCall h c call o
left-awaits h c call n m found mutex object k clock deadline o asks ef em eo ek ec is un =
    record {
      is_waiting = ap (waiting_calls_by_operation h c (clock_of call)) asks ∙ ap (λ w. w ∷ []) (sym (is
          ∙ (ap (λ x. new_waiting_call h c x (ForCond k) clock deadline) (eo
          ∙ ap (λ f. unwrap_or f 0) ef)
          ∙ (ap (λ x. new_waiting_call h c (object_or_zero h n CondClass)
          (ForCond x) clock deadline)
          (ek ∙ ap (λ f. unwrap_or f 0) em)
          ∙ ap (λ x. new_waiting_call h c (object_or_zero h n CondClass) (ForCond
          (object_or_zero h m MutexClass)) x
          deadline) ec))));
      unmoved = un;
    }

-- what an arrival leaves waiting
pub left-arrives : (h : History) (c : ℕ) (call : FunctionCall) (n : List ℕ) (found : Option ℕ)
    (object : ℕ) (clock : Clock) (o : Open) → operation call ≡ BarrierWaits n
    → found ≡ find_object h n BarrierClass → object ≡ unwrap_or found 0 → clock ≡ clock_of call
    → o.call ≡ new_waiting_call h c object ForBarrier clock None → o.moved ≡ None
    → IsNewWaitingCall h c call o
left-arrives h c call n found object clock o asks ef eo ec is un =
    record {
      is_waiting = ap (waiting_calls_by_operation h c (clock_of call)) asks ∙ ap (λ w. w ∷ []) (sym (is
          ∙ (ap (λ x. new_waiting_call h c x ForBarrier clock None) (eo
          ∙ ap (λ f. unwrap_or f 0) ef)
          ∙ ap (λ x. new_waiting_call h c
          (object_or_zero h n BarrierClass) ForBarrier x None) ec)));
      unmoved = un;
    }
