-- GrantedLocks: calls for each kind of lock that are granted as they come, as the tables have them.
use Rattle.std.proofs.Common.{◌≡◌, ℕ, ◌+◌, ◌&&◌, Bool, true, false, cond, Some}
use Rattle.std.proofs.Common.{None, is_none, refl, sym, ap, ◌∙◌, subst}
use Rattle.std.specs.Prelude.{IsSome}
use Rattle.pt_types.specs.declared.call.Call.{Call as FunctionCall}
use Rattle.pt_types.specs.declared.outcome.Outcome.{Outcome}
use Rattle.pt_types.specs.MutexTable.{is_acquired}
use Rattle.pt_types.specs.Operations.{Acquires, operation}
use Rattle.pt_types.specs.declared.operations.LockKind.{LockKind}
use Rattle.pt_types.specs.declared.operations.LockKind.TheVariants.{MutexLock, ReadLock, WriteLock}
use Rattle.pt_model.specs.declared.entry.Entry.TheVariants.{Call, Grant, Trip}
use Rattle.pt_model.specs.Mutexes.{owner}
use Rattle.pt_model.specs.Objects.{is_robust, kind_of}
use Rattle.pt_model.specs.Histories.{History}
use Rattle.pt_model.specs.WaitingCall.{final_mutex, role_of_lock}
use Rattle.pt_model.specs.Forced.{forced, service}
use Rattle.pt_model.specs.Grants.{grant_outcome}
use Rattle.pt_model.specs.Room.{reserved_for}
use Rattle.pt_model.specs.Steps.{Follows}
use Rattle.pt_records.specs.declared.clients.Open.{Open}
use Rattle.pt_records.specs.Counts.{count_if_passed}
use Rattle.pt_state.specs.declared.state.State.{State}
use Rattle.pt_state.specs.Adds.{Adds, HasRoomFor, history_of}
use Rattle.pt_state.specs.Acquisitions.{AddsCallAndGrant, IsGrantedCall}
use Rattle.pt_state.specs.Outer.{is_read_call}
use Rattle.pt_state.specs.Requests.{IsRequest, object_meant}
use Rattle.pt_state.specs.declared.request.Request.{Request}
use Rattle.pt_machine.specs.GrantedAtOnce.{AddsGranted}
use Rattle.pt_machine.specs.GrantedAtOnce.{IsGrantedAtOnce, IsReadyAfter, is_mutex_call}
use Rattle.pt_machine.specs.Reserved.{gives_owner}
use Rattle.pt_machine.proofs.GrantsAtOnce.{after, comes, comes-stays}
use Rattle.pt_machine.proofs.GrantsAtOnce.{owner_kept, serves, is_waiting}
use Rattle.pt_machine.proofs.NeedUses.{row-reserved}
use Rattle.pt_machine.proofs.QueueFirsts.{found-known}
use Rattle.pt_machine.proofs.QueuedSame.{history_of-adds}

-- a call that is granted as it comes asks for the lock that its name means
pub asks-for : (h : History) (c : ℕ) (call : FunctionCall) → IsGrantedAtOnce h c call → (r : Request)
    → IsRequest h (operation call) r → IsSome r.object
asks-for h c call acquisition r has_request =
    rw (has_request.object ∙ (ap (object_meant h) acquisition.has_request ∙ acquisition.found)) refl

-- and the lock is of the kind that it asks for
module _ (h : History) (c : ℕ) (call : FunctionCall) (acquisition : IsGrantedAtOnce h c call) where
  pub for-mutex : is_mutex_call (operation call) ≡ true → acquisition.kind ≡ MutexLock
  for-mutex e = go acquisition.kind (sym (ap is_mutex_call acquisition.has_request) ∙ e)
    where
      go : (k : LockKind) → is_mutex_call (Acquires acquisition.name k acquisition.how) ≡ true → k ≡ MutexLock
      go MutexLock t = refl
      go ReadLock t = absurd (let never : false ≡ true = t in cc)
      go WriteLock t = absurd (let never : false ≡ true = t in cc)

  pub for-read : is_read_call (operation call) ≡ true → acquisition.kind ≡ ReadLock
  for-read e = go acquisition.kind (sym (ap is_read_call acquisition.has_request) ∙ e)
    where
      go : (k : LockKind) → is_read_call (Acquires acquisition.name k acquisition.how) ≡ true → k ≡ ReadLock
      go ReadLock t = refl
      go MutexLock t = absurd (let never : false ≡ true = t in cc)
      go WriteLock t = absurd (let never : false ≡ true = t in cc)

  pub for-write : is_mutex_call (operation call) ≡ false → is_read_call (operation call) ≡ false
      → acquisition.kind ≡ WriteLock
  for-write e d =
      go acquisition.kind (sym (ap is_mutex_call acquisition.has_request) ∙ e) (sym (ap is_read_call acquisition.has_request) ∙ d)
    where
      go : (k : LockKind) → is_mutex_call (Acquires acquisition.name k acquisition.how) ≡ false
          → is_read_call (Acquires acquisition.name k acquisition.how) ≡ false → k ≡ WriteLock
      go WriteLock t u = refl
      go MutexLock t u = absurd (let never : true ≡ false = t in cc)
      go ReadLock t u = absurd (let never : true ≡ false = u in cc)

-- a call for a free lock of this kind
module _ {A : Type 0} (old : State A) (c : ℕ) (call : FunctionCall) (o : ℕ) (kind : LockKind)
    (ready : HasRoomFor old (Call c call None)) (acquisition : IsGrantedAtOnce (history_of old) c call)
    (is : acquisition.kind ≡ kind) (named : object_meant (history_of old) (operation call) ≡ Some o)
    (after_it : IsReadyAfter old (Call c call None)) where
  abbrev f : Follows (history_of old)
  f = ready.read.follows

  -- the call as it would wait
  abbrev pub waits : Open
  waits = record { call = comes (history_of old) f c call acquisition ready.step; moved = None }

  pub is_object : acquisition.object ≡ o
  is_object =
      let same : Some acquisition.object ≡ Some o =
      sym acquisition.found ∙ (sym (ap (object_meant (history_of old)) acquisition.has_request) ∙ named) in cc

  is_for : waits.call.role ≡ role_of_lock kind
  is_for = ap role_of_lock is

  module _ (mid : State A) (a : Adds old (Call c call None) mid) where
    abbrev then : History
    then = after (history_of old) f c call acquisition ready.step

    same_past : history_of mid ≡ then
    same_past = history_of-adds old mid (Call c call None) a

    -- it must be granted
    its_grant : service (history_of mid) waits.call
        ≡ Grant waits.call.place (grant_outcome (history_of mid) waits.call)
    its_grant =
        ap (λ b. cond b (Trip waits.call.object) (Grant waits.call.place
        (grant_outcome (history_of mid) waits.call))) (comes-stays
        (history_of old) f c call acquisition ready.step)

    must : forced (history_of mid) ≡ Some (Grant waits.call.place (grant_outcome
        (history_of mid) waits.call))
    must =
        ap forced same_past
        ∙ (serves (history_of old) f c call acquisition ready.step
        ∙ (ap (λ h. Some (service h waits.call)) (sym same_past) ∙ ap Some its_grant))

    grant_ready : HasRoomFor mid (Grant waits.call.place (grant_outcome
        (history_of mid) waits.call))
    grant_ready =
        after_it mid a (Grant waits.call.place (grant_outcome (history_of mid) waits.call)) must

  pub is_had : IsGrantedCall old c call (role_of_lock kind) o waits
  is_had =
      record {
        new_waiting = record { is_waiting = is_waiting (history_of old) f c call acquisition ready.step; unmoved = refl };
        client = refl;
        place = refl;
        role = is_for;
        object = is_object;
        next = λ mid a. grant_ready mid a;
      }

  module _ (x : Outcome) (new : State A) (adds : AddsCallAndGrant old c call waits x new) where
    abbrev between : State A
    between = adds.mid

    reserved_three : reserved_for (history_of between) waits.call ≡ 3
    reserved_three =
        sym (row-reserved (history_of between) between.clients adds.first.read.follows
        adds.first.read.callers waits
        (found-known between.clients c (Some waits) (sym adds.found)))

    -- the call and its Grant are added, and this many reserved entries are used
    adds-used : (used : ℕ)
        → used + count_if_passed (gives_owner (history_of between) waits.call
        (final_mutex waits.call.role
        waits.call.object)) ≡ 3 → AddsGranted old c call used x new
    adds-used used uses =
        record {
          mid = between;
          first = adds.first;
          its = waits;
          found = sym adds.found;
          second = subst (λ e. Adds between e new)
              (ap (λ y. Grant waits.call.place y) adds.replies
              ∙ sym (its_grant between adds.first))
              adds.second;
          replies = adds.replies;
          uses = uses ∙ sym reserved_three;
        }

    -- a call for a read-write lock gives no mutex an owner
    pub adds-lock : ((q : ℕ) → final_mutex (role_of_lock kind) q ≡ None)
        → AddsGranted old c call 3 x new
    adds-lock none =
        adds-used 3
        (ap (λ r. 3 + count_if_passed (gives_owner (history_of between) waits.call
        (final_mutex r waits.call.object))) is_for
        ∙ ap (λ q. 3 + count_if_passed (gives_owner (history_of between) waits.call q))
        (none waits.call.object))

    -- a call for a mutex does, if the mutex is robust and had no owner
    module _ (robust : Bool)
        (free : robust ≡ (is_robust (kind_of (history_of old) o)
        && is_none (owner (history_of old) o)))
        (mutex : final_mutex waits.call.role waits.call.object ≡ Some o) (used : ℕ)
        (uses_it : used ≡ cond {A = ℕ} (robust && is_acquired x) 2 3) where
      same_robust : robust
          ≡ (is_robust (kind_of (history_of between) o) && is_none (owner (history_of between) o))
      same_robust =
          free
          ∙ (ap (λ d. is_robust (kind_of (history_of old) o) && is_none d) same_owner
          ∙ ap (λ h. is_robust (kind_of h o) && is_none (owner h o))
          (sym (same_past between adds.first)))
        where
          same_owner : owner (history_of old) o ≡ owner (then between adds.first) o
          same_owner =
              subst (λ n. owner (history_of old) n ≡ owner (then between adds.first) n) is_object
              (sym (owner_kept (history_of old) f c call acquisition ready.step))

      gives : gives_owner (history_of between) waits.call
          (final_mutex waits.call.role waits.call.object)
          ≡ (robust && is_acquired x)
      gives =
          ap (gives_owner (history_of between) waits.call) mutex
          ∙ (ap (λ b. b && is_acquired (grant_outcome (history_of between) waits.call))
          (sym same_robust)
          ∙ ap (λ y. robust && is_acquired y) (sym adds.replies))

      pub adds-mutex : AddsGranted old c call used x new
      adds-mutex =
          adds-used used
          (ap (λ n. n + count_if_passed (gives_owner (history_of between) waits.call
          (final_mutex waits.call.role waits.call.object))) uses_it
          ∙ (ap (λ b. cond {A = ℕ} (robust && is_acquired x) 2 3 + count_if_passed b) gives
          ∙ three (robust && is_acquired x)))
        where
          three : (b : Bool) → cond {A = ℕ} b 2 3 + count_if_passed b ≡ 3
          three true = refl
          three false = refl

-- a call for a free mutex
pub mutex-granted : {A : Type 0} (old : State A) (c : ℕ) (call : FunctionCall) (m : ℕ)
    (ready : HasRoomFor old (Call c call None)) (acquisition : IsGrantedAtOnce (history_of old) c call)
    (is : acquisition.kind ≡ MutexLock) (named : object_meant (history_of old) (operation call) ≡ Some m)
    (after_it : IsReadyAfter old (Call c call None)) (x : Outcome) (new : State A)
    → AddsCallAndGrant old c call (waits old c call m MutexLock ready acquisition is named after_it) x new
    → (robust : Bool)
    → robust ≡ (is_robust (kind_of (history_of old) m) && is_none (owner (history_of old) m))
    → (used : ℕ) → used ≡ cond {A = ℕ} (robust && is_acquired x) 2 3
    → AddsGranted old c call used x new
mutex-granted old c call m ready acquisition is named after_it x new adds robust free used uses_it =
    adds-mutex old c call m MutexLock ready acquisition is named after_it x new adds robust free
    (ap (λ k. final_mutex (role_of_lock k) acquisition.object) is
    ∙ ap Some (is_object old c call m MutexLock ready acquisition is named after_it))
    used uses_it
