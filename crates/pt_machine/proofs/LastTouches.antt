-- LastTouches: the object touched, and the client whose call came last, as entries are pushed.
use Rattle.std.proofs.Common.{◌≡◌, ℕ, Bool, true, false, cond, List, Option, Some, None, refl, sym}
use Rattle.std.proofs.Common.{ap, ◌∙◌, subst}
use Rattle.std.specs.Prelude.{unwrap_or}
use Rattle.pt_types.specs.declared.call.Call.{Call as FunctionCall}
use Rattle.pt_types.specs.declared.operations.ObjectClass.TheVariants.{Mutex as MutexClass}
use Rattle.pt_types.specs.Operations.{CondWaits, operation}
use Rattle.pt_types.specs.Times.{Timespec}
use Rattle.pt_model.specs.declared.entry.Entry.{Entry}
use Rattle.pt_model.specs.declared.entry.Entry.TheVariants.{Join, Call, Death, Moment, Grant, Trip}
use Rattle.pt_model.specs.declared.entry.Entry.TheVariants.{Yield, Expire}
use Rattle.pt_model.specs.Histories.{History, Begin, ◌▷◌, is_forced}
use Rattle.pt_model.specs.declared.waiting_call.WaitingCall.{WaitingCall}
use Rattle.pt_model.specs.WaitingCall.{is_barrier_wait, object_or_zero}
use Rattle.pt_model.specs.Grants.{grant_outcome}
use Rattle.pt_model.specs.Forced.{service}
use Rattle.pt_model.specs.Starts.{empty_start}
use Rattle.pt_model.specs.Objects.{find_object}
use Rattle.pt_model.specs.Steps.{Step, begins}
use Rattle.pt_model.proofs.Changes.{resolved}
use Rattle.pt_state.proofs.StepLemmas.{called as called_by}
use Rattle.pt_next_grant.specs.Candidates.{latest_caller, latest_caller_by}
use Rattle.pt_next_grant.specs.Touched.{service_object, service_object_after, service_object_by}
use Rattle.pt_next_grant.proofs.Candidates.{begins_untouched}
use Rattle.pt_state.specs.declared.state.State.{State}
use Rattle.pt_state.specs.Adds.{Adds, history_of}
use Rattle.pt_machine.specs.LastTouched.{IsTouched}
use Rattle.pt_machine.proofs.QueuedSame.{history_of-adds}

-- the mutex that a new wait names exists
pub awaited-there : (h : History) (c : ℕ) (call : FunctionCall) (n m : List ℕ) (d : Option Timespec)
    → Step h (Call c call None) → operation call ≡ CondWaits n m d
    → find_object h m MutexClass ≡ Some (object_or_zero h m MutexClass)
awaited-there h c call n m d step is =
    let has_call = (resolved h c call).awaited n m d is (sym (called_by h c call None step).replies) in
    has_call.1 ∙ ap (λ (o : Option ℕ). Some (unwrap_or o 0)) (sym has_call.1)

-- what an outer entry touches does not depend on what was touched before
outer-touches : (h : History) (e : Entry) → is_forced e ≡ false → (before : Option ℕ)
    → service_object_by h e ≡ service_object_after h e before
outer-touches h (Join c p) n before = refl
outer-touches h (Call c call r) n before = refl
outer-touches h (Death c) n before = refl
outer-touches h (Moment k m) n before = refl
outer-touches h (Grant j x) n before = absurd cc
outer-touches h (Trip b) n before = absurd cc
outer-touches h (Yield m) n before = refl
outer-touches h (Expire j) n before = refl

-- after a forced entry, the call that came last is still the same client's
forced-enters : (e : Entry) → is_forced e ≡ true → (before : Option ℕ)
    → before ≡ latest_caller_by e before
forced-enters (Join c p) n before = absurd cc
forced-enters (Call c call r) n before = absurd cc
forced-enters (Death c) n before = absurd cc
forced-enters (Moment k m) n before = absurd cc
forced-enters (Grant j x) n before = refl
forced-enters (Trip b) n before = refl
forced-enters (Yield m) n before = refl
forced-enters (Expire j) n before = refl

-- what serves a call is a forced entry
pub service-forced : (h : History) (w : WaitingCall) → is_forced (service h w) ≡ true
service-forced h w = go (is_barrier_wait w.role)
  where
    go : (b : Bool) → is_forced (cond b (Trip w.object) (Grant w.place (grant_outcome h w))) ≡ true
    go true = refl
    go false = refl

-- the object touched is the same after a Grant
pub still-service_object : (h : History) (w : WaitingCall) → is_barrier_wait w.role ≡ false
    → service_object h ≡ service_object (h ▷ service h w)
still-service_object h w e = go (is_barrier_wait w.role) e
  where
    go : (b : Bool) → b ≡ false → service_object h
        ≡ service_object (h ▷ cond b (Trip w.object) (Grant w.place (grant_outcome h w)))
    go true n = absurd cc
    go false n = refl

module _ {A : Type 0} (old new : State A) (o c : Option ℕ) where
  -- after an outer entry
  pub service_object-outer : (e : Entry) → Adds old e new → is_forced e ≡ false
      → o ≡ service_object_by (history_of old) e → ((before : Option ℕ) → c
      ≡ latest_caller_by e before)
      → IsTouched (history_of new) o c
  service_object-outer e a n t k =
      subst (λ (h : History). IsTouched h o c) (sym (history_of-adds old new e a))
      (record {
        touches = t ∙ outer-touches (history_of old) e n (service_object (history_of old));
        enters = k (latest_caller (history_of old));
      })

  -- after a forced entry
  pub service_object-forced : (e : Entry) → is_forced e ≡ true → Adds old e new
      → o ≡ service_object (history_of old ▷ e) → c ≡ latest_caller (history_of old)
      → IsTouched (history_of new) o c
  service_object-forced e n a t k =
      subst (λ (h : History). IsTouched h o c) (sym (history_of-adds old new e a))
      (record { touches = t; enters = k ∙ forced-enters e n (latest_caller (history_of old)) })

-- before the first entry
pub service_object-begin : (h : History) → h ≡ Begin empty_start → IsTouched h None None
service_object-begin h e =
    let none = begins_untouched empty_start begins refl in
    subst (λ (g : History). IsTouched g None None) (sym e)
    (record { touches = sym none.0; enters = sym none.1 })
