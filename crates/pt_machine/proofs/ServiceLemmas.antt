-- What is served first: a full barrier's calls, or a client's open call.
use Rattle.std.proofs.Common.{◌≡◌, ℕ, suc, ◌+◌, ◌*◌, ◌≤◌, ◌==◌, Bool, true, false}
use Rattle.std.proofs.Common.{cond, filter, ◌&&◌, List, [], ◌∷◌, inl}
use Rattle.std.proofs.Common.{Option, Some, None, option_map, length, refl, sym, ap}
use Rattle.std.proofs.Common.{◌∙◌, subst, arith}
use Rattle.std.proofs.lemmas.Bool.Decides.{nat_tests}
use Rattle.std.proofs.lemmas.Bool.{and_parts}
use Rattle.pt_types.specs.declared.call.ObjectKind.TheVariants as kind
use Rattle.pt_types.specs.Operations.{class_of}
use Rattle.pt_types.specs.declared.operations.ObjectClass.TheVariants.{Barrier as BarrierClass}
use Rattle.pt_waitq.specs.Queues.{QueuesView}
use Rattle.pt_model.specs.declared.entry.Entry.TheVariants.{Grant, Trip as TripEntry}
use Rattle.pt_model.specs.Searches.{In}
use Rattle.pt_model.specs.Histories.{History, ◌▷◌}
use Rattle.pt_model.specs.Objects.{is_class, kind_of}
use Rattle.pt_model.specs.declared.waiting_call.WaitingCall.{WaitingCall}
use Rattle.pt_model.specs.WaitingCall.{is_barrier_wait}
use Rattle.pt_model.specs.Answers.{at_barrier, open_calls, trip_replies}
use Rattle.pt_model.specs.Moves.{wait_object, precedes, waiting_at}
use Rattle.pt_model.specs.Grants.{grant_outcome}
use Rattle.pt_model.specs.Forced.{can_be_served, service}
use Rattle.pt_model.specs.Queries.{client_of_found}
use Rattle.pt_model.specs.Room.{need}
use Rattle.pt_model.specs.Steps.{Follows}
use Rattle.pt_model.proofs.Lists.{In-filter, filter-in}
use Rattle.pt_model.proofs.Leasts.{least-in, least-none}
use Rattle.pt_state.specs.declared.state.State.{State}
use Rattle.pt_state.specs.Adds.{Adds, history_of}
use Rattle.pt_state.specs.Reads.{AreTables}
use Rattle.pt_next_grant.specs.Candidates.{candidate, candidate_by, first_at}
use Rattle.pt_next_grant.proofs.Candidates.{candidates}
use Rattle.pt_machine.specs.LastTouched.{IsTouched}
use Rattle.pt_machine.specs.CallQueues.{IsQueued}
use Rattle.pt_machine.specs.Services.{IsService}
use Rattle.pt_machine.specs.declared.candidates.Service.TheVariants.{Trip, Call}
use Rattle.pt_machine.proofs.NeedUses.{uses-trip}
use Rattle.pt_machine.proofs.QueueClasses.{at-barrier, no-arrival}
use Rattle.pt_machine.proofs.QueuedOut.{queued-trip}
use Rattle.pt_machine.proofs.QueuedSame.{history_of-adds, queued-adds}

-- the entry that serves an arrival is the Trip of its barrier
pub serves-trip : (h : History) (w : WaitingCall) (b : ℕ) → is_barrier_wait w.role ≡ true
    → w.object ≡ b → service h w ≡ TripEntry b
serves-trip h w b arrival at =
    ap (λ t. cond t (TripEntry w.object) (Grant w.place (grant_outcome h w))) arrival
    ∙ ap TripEntry at

-- a Trip uses what was reserved for the calls at its barrier
pub trip-uses : (h : History) → Follows h → (w : WaitingCall) (b n : ℕ) → is_barrier_wait w.role
    ≡ true
    → w.object ≡ b → n ≡ length (at_barrier b (open_calls h))
    → need (h ▷ TripEntry b) + 3 * n ≡ need h
trip-uses h f w b n arrival at e =
    subst (λ x. need (h ▷ x) + 3 * n ≡ need h) (serves-trip h w b arrival at)
    (uses-trip h w f n arrival (e ∙ ap (λ o. length (at_barrier o (open_calls h))) (sym at)))

-- a Trip answers each call at its barrier
trip-told : (ws : List WaitingCall) → length (trip_replies ws) ≡ length ws
trip-told [] = refl
trip-told (w ∷ ws) = ap suc (trip-told ws)

module _ {A : Type 0} (old new : State A) where
  -- so there are as many more answers
  pub trip-gone : (b before after : ℕ) → Adds old (TripEntry b) new
      → before ≡ length old.answers.items → after ≡ length new.answers.items
      → after ≡ before + length (at_barrier b (open_calls (history_of old)))
  trip-gone b before after a e k =
      omega (arith, a.replies, e, k, trip-told (at_barrier b (open_calls (history_of old))))

  -- the queues after a full barrier tripped
  pub trip-queued : (w : WaitingCall) (b : ℕ) (view view' : QueuesView) → AreTables old
      → In w (open_calls (history_of old)) → is_barrier_wait w.role ≡ true → w.object ≡ b
      → ((c : ℕ) → view'.admitted c ≡ view.admitted c)
      → ((o : ℕ) → view'.is_queue o ≡ view.is_queue o) → IsQueued (history_of old) view
      → ((q : ℕ) → view'.queue q ≡ cond (b == q) [] (view.queue q)) → Adds old (TripEntry b) new
      → IsQueued (history_of new) view'
  trip-queued w b view view' read i arrival at room there k =
      subst (λ o. ((q : ℕ) → view'.queue q ≡ cond (o == q) [] (view.queue q))
      → Adds old (TripEntry o) new → IsQueued (history_of new) view') at
      (λ gone a. queued-adds old new (TripEntry w.object) view' a
      (queued-trip (history_of old) w view view' read.follows i arrival gone room there k))

  -- a Trip touches no object
  pub trip-touched : (o c : Option ℕ) (b : ℕ) → Adds old (TripEntry b) new
      → IsTouched (history_of old) o c → IsTouched (history_of new) None c
  trip-touched o c b a k =
      subst (λ (h : History). IsTouched h None c) (sym (history_of-adds old new (TripEntry b) a))
      (record { touches = refl; enters = k.enters })

-- the call that is served at an object is open, and waits there
candidate-open : (h : History) → Follows h → (o : ℕ) (w : WaitingCall) → candidate h o ≡ Some w
    → In w (open_calls h) × ((wait_object h w == o) ≡ true)
candidate-open h f o w e =
    let served : In w (filter (can_be_served h) (waiting_at h o)) =
    least-in (precedes h) (filter (can_be_served h) (waiting_at h o)) w (candidates h f o ∙ e) in
    In-filter (λ v. wait_object h v == o) (open_calls h) w
    (In-filter (can_be_served h) (waiting_at h o) w served).0

-- a call at an object that is not a barrier is served as the open call of its client
pub call-service : (h : History) → Follows h → (o : ℕ)
    → is_class (kind_of h o) BarrierClass ≡ false → (found : Option ℕ)
    → found ≡ client_of_found (candidate h o) → IsService h (candidate h o) (option_map Call found)
call-service h f o other found e = go found (candidate h o) refl e
  where
    go : (found : Option ℕ) (first : Option WaitingCall) → candidate h o ≡ first
        → found ≡ client_of_found first → IsService h (candidate h o) (option_map Call found)
    go None None is e = is
    go None (Some w) is e = absurd cc
    go (Some c) None is e = absurd cc
    go (Some c) (Some w) is e =
        let same : c ≡ w.client = cc in
        let waits = candidate-open h f o w is in
        (w, (is, (waits.0, (no-arrival h f o other w waits.0 waits.1, sym same))))

-- a list that isn't empty has a first element
some-in : {X : Type 0} (xs : List X) → 1 ≤ length xs → (x : X) × In x xs
some-in [] e = absurd (omega (arith, e))
some-in (x ∷ xs) e = (x, inl refl)

module _ (h : History) (f : Follows h) (b n : ℕ) (k : kind_of h b ≡ Some (kind.Barrier n)) where
  barrier : option_map class_of (kind_of h b) ≡ Some BarrierClass
  barrier = ap (option_map class_of) k

  -- the call that is served at a barrier, by whether the barrier is full
  there : (t : Bool) → (length (at_barrier b (open_calls h)) == n) ≡ t
      → candidate h b ≡ cond t (first_at h b) None
  there t e =
      ap (candidate_by h b) k ∙ ap (λ x. cond x (first_at h b) None) e

  -- a full barrier serves an arrival
  pub full-service : 1 ≤ length (at_barrier b (open_calls h))
      → (length (at_barrier b (open_calls h)) == n) ≡ true
      → IsService h (candidate h b) (Some (Trip b))
  full-service some full = go (first_at h b) refl
    where
      one : (w : WaitingCall) × In w (waiting_at h b)
      one =
          let r = some-in (at_barrier b (open_calls h)) some in
          let part = In-filter (λ w. is_barrier_wait w.role
          && (w.object == b)) (open_calls h) r.0 r.1
          in (
            r.0,
            filter-in (λ w. wait_object h w == b) (open_calls h) r.0 part.0
                (at-barrier h f b barrier r.0 part.0 ∙ part.1),
          )

      go : (first : Option WaitingCall) → first_at h b ≡ first
          → IsService h (candidate h b) (Some (Trip b))
      go None e = absurd (least-none (precedes h) (waiting_at h b) e one.0 one.1)
      go (Some u) e =
          let part = In-filter (λ w. wait_object h w == b) (open_calls h) u
          (least-in (precedes h) (waiting_at h b) u e) in
          let test = and_parts (is_barrier_wait u.role) (u.object == b)
          (sym (at-barrier h f b barrier u part.0) ∙ part.1) in
          let at : u.object ≡ b = grind (arith, nat_tests, test.1) in
          (u, (there true full ∙ e, (part.0, (test.0, at))))

  -- a barrier that is not full serves none
  pub part-service : (length (at_barrier b (open_calls h)) == n) ≡ false
      → IsService h (candidate h b) None
  part-service part = there false part
