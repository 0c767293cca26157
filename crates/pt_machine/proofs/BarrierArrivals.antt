-- BarrierArrivals: the waiters of a barrier's queue are those of the calls that wait at it, in
-- order of their places.
use Rattle.std.proofs.Common.{◌≡◌, ℕ, ◌==◌, ◌≤◌, nat_lt, Bool, true, false, cond, ◌&&◌, ◌||◌, List}
use Rattle.std.proofs.Common.{[], ◌∷◌, None, inl, inr, refl, sym, ap, ◌∙◌, subst, arith, eq-eqb}
use Rattle.std.specs.List.{AllByRecursion as Each}
use Rattle.std.proofs.lemmas.Bool.{and_parts, false≢true}
use Rattle.std.proofs.lemmas.Bool.Decides.{nat_tests}
use Rattle.pt_types.specs.Limits.{max_priority}
use Rattle.pt_waitq.specs.declared.waiter.Waiter.{Waiter}
use Rattle.pt_waitq.specs.Queues.{In as Among, IsInKeyOrder, QueuesView, comes_before}
use Rattle.pt_model.specs.Searches.{In}
use Rattle.pt_model.specs.Histories.{History}
use Rattle.pt_model.specs.declared.waiting_call.WaitingCall.{WaitingCall}
use Rattle.pt_model.specs.declared.waiting_call.Role.{Role}
use Rattle.pt_model.specs.declared.waiting_call.Role.TheVariants.{ForBarrier, ForCond, ForMutex}
use Rattle.pt_model.specs.declared.waiting_call.Role.TheVariants.{ForRead, ForWrite}
use Rattle.pt_model.specs.WaitingCall.{is_barrier_wait, is_cond_wait, is_write_lock}
use Rattle.pt_model.specs.Answers.{open_calls}
use Rattle.pt_model.specs.Moves.{wait_move, wait_object}
use Rattle.pt_model.specs.Steps.{Follows}
use Rattle.pt_model.proofs.Lists.{In-filter, filter-in}
use Rattle.pt_model.proofs.Seats.{housed}
use Rattle.pt_records.specs.Arrivals.{AreArrivals, AreInOrder}
use Rattle.pt_machine.specs.CallQueues.{IsQueued, barrier_waiter, waiter, waiter_by}
use Rattle.pt_machine.proofs.Membership.{in-list, in-queue}
use Rattle.pt_machine.proofs.QueuedOut.{arrived, barrier-of}
use Rattle.pt_machine.proofs.WaitMoves.{plain-stays}

-- an arrival as it waits, which was not moved
module _ (h : History) (f : Follows h) (w : WaitingCall) (i : In w (open_calls h))
    (arrival : is_barrier_wait w.role ≡ true) where
  no_wait : (r : Role) → is_barrier_wait r ≡ true → is_cond_wait r ≡ false
  no_wait ForBarrier e = refl
  no_wait ForMutex e = absurd cc
  no_wait ForRead e = absurd cc
  no_wait ForWrite e = absurd cc
  no_wait (ForCond m) e = absurd cc

  no_write : (r : Role) → is_barrier_wait r ≡ true → is_write_lock r ≡ false
  no_write ForBarrier e = refl
  no_write ForMutex e = absurd cc
  no_write ForRead e = absurd cc
  no_write ForWrite e = absurd cc
  no_write (ForCond m) e = absurd cc

  pub arrival-waits : waiter h w ≡ barrier_waiter w.client w.place
  arrival-waits =
      ap (λ m. waiter_by m w) (plain-stays h f w i (no_wait w.role arrival))
      ∙ (ap (λ b. record (waiter_by None w) { prio = cond b max_priority w.priority }) arrival
      ∙ ap (λ b. record (barrier_waiter w.client w.place) { writer = b }) (no_write w.role arrival))

-- of two arrivals, the one that goes first came first
rises : (v w : Waiter) (c j d k : ℕ) → v ≡ barrier_waiter c j → w ≡ barrier_waiter d k
    → comes_before w v ≡ false → v.place ≤ w.place
rises v w c j d k e i late =
    subst (λ (x : Waiter). x.place ≤ w.place) (sym e)
    (subst (λ (y : Waiter). j ≤ y.place) (sym i) (go (nat_lt k j) refl))
  where
    replies : comes_before (barrier_waiter d k) (barrier_waiter c j) ≡ false
    replies =
        ap (λ (x : Waiter). comes_before (barrier_waiter d k) x) (sym e)
        ∙ (ap (λ (y : Waiter). comes_before y v) (sym i) ∙ late)

    go : (b : Bool) → nat_lt k j ≡ b → j ≤ k
    go false less = grind (arith, nat_tests)
    go true less = absurd (false≢true (sym replies ∙ ap (λ b. b || ((k == j) && b)) less))

module _ (h : History) (u : WaitingCall) (view : QueuesView) (f : Follows h)
    (i : In u (open_calls h)) (arrival : is_barrier_wait u.role ≡ true)
    (k : IsQueued h view) where
  -- a call waits at the barrier exactly if it is an arrival there
  is_waiting : (w : WaitingCall) → In w (open_calls h)
      → (wait_object h w == u.object) ≡ (is_barrier_wait w.role && (w.object == u.object))
  is_waiting w j =
      arrived h w.role (wait_move h w.place) w.object u.object (housed h f w j)
      (barrier-of h f u i arrival)

  -- the open arrival to which a waiter belongs
  abbrev Standing : Waiter → Type 0
  Standing v =
      (w : WaitingCall) × In w (open_calls h) × (is_barrier_wait w.role ≡ true) × (v ≡ waiter h w)

  called-by : (v : Waiter) → Among v (view.queue u.object) → Standing v
  called-by v j =
      let r = k.members.has_call u.object v j in
      let there = in-list r.0 (open_calls h) r.1 in
      let at = eq-eqb (wait_object h r.0) u.object r.2 in
      (r.0, there, (and_parts (is_barrier_wait r.0.role) _ (sym (is_waiting r.0 there) ∙ at)).0, r.3)

  rising : (vs : List Waiter) → IsInKeyOrder vs → ((v : Waiter) → Among v vs → Standing v)
      → AreInOrder vs
  rising [] k s = tt
  rising (v ∷ vs) k s = (later vs k.0 (λ w i. i), rising vs k.1 (λ w i. s w (inr i)))
    where
      one : (w : Waiter) → comes_before w v ≡ false → Among w vs → v.place ≤ w.place
      one w late i =
          let a = s v (inl refl) in
          let b = s w (inr i) in
          rises v w a.0.client a.0.place b.0.client b.0.place
          (a.3 ∙ arrival-waits h f a.0 a.1 a.2) (b.3 ∙ arrival-waits h f b.0 b.1 b.2) late

      later : (ws : List Waiter) → Each (λ w. comes_before w v ≡ false) ws
          → ((w : Waiter) → Among w ws → Among w vs) → Each (λ w. v.place ≤ w.place) ws
      later [] e t = tt
      later (w ∷ ws) e t =
          (one w e.0 (t w (inl refl)), later ws e.1 (λ x i. t x (inr i)))

  pub arrivals-queued : AreArrivals h u.object (view.queue u.object)
  arrivals-queued =
      record {
        has_call = λ v j.
            let r = k.members.has_call u.object v (in-queue v (view.queue u.object) j) in
            let there = in-list r.0 (open_calls h) r.1 in
            let at = eq-eqb (wait_object h r.0) u.object r.2 in (
              r.0,
              (
                filter-in (λ w. is_barrier_wait w.role && (w.object == u.object)) (open_calls h) r.0
                    there (sym (is_waiting r.0 there) ∙ at),
                (ap (λ (x : Waiter). x.client) r.3, ap (λ (x : Waiter). x.place) r.3),
              ),
            );
        in_queue = λ w j.
            let part = In-filter (λ x. is_barrier_wait x.role && (x.object == u.object))
            (open_calls h) w j in
            let yes : (wait_object h w == u.object) ≡ true = is_waiting w part.0 ∙ part.1 in
            let at : wait_object h w ≡ u.object = grind (arith, nat_tests) in
            let own = k.members.in_queue w (in-queue w (open_calls h) part.0) in (
              waiter h w,
              (
                subst (λ (q : ℕ). In (waiter h w) (view.queue q)) at
                    (in-list (waiter h w) (view.queue (wait_object h w)) own),
                (refl, refl),
              ),
            );
        in_order = rising (view.queue u.object) (k.members.in_order u.object) called-by;
      }
