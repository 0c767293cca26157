-- The queues after an entry by which open calls end.
use Rattle.std.proofs.Common.{◌≡◌, ℕ, Bool, true, false, cond, not, ◌&&◌, ◌||◌, ◌==◌, List, []}
use Rattle.std.proofs.Common.{Option, None, Some, refl, sym, ap, ◌∙◌, subst, arith, filter}
use Rattle.std.proofs.lemmas.Bool.Decides.{nat_tests}
use Rattle.std.specs.Prelude.{is_some}
use Rattle.pt_types.specs.declared.operations.ObjectClass.TheVariants.{Barrier as BarrierClass}
use Rattle.pt_types.specs.declared.outcome.Outcome.{Outcome}
use Rattle.pt_waitq.specs.declared.waiter.Waiter.{Waiter}
use Rattle.pt_waitq.specs.Members.{Members}
use Rattle.pt_waitq.specs.Queues.{QueuesView, IsInKeyOrder, other_waiters}
use Rattle.pt_waitq.specs.ListLemmas.{In-filter as In-kept}
use Rattle.pt_waitq.proofs.MemberLemmas.{members-agree, members-out, filter-in}
use Rattle.pt_model.specs.declared.entry.Entry.{Entry}
use Rattle.pt_model.specs.declared.entry.Entry.TheVariants.{Grant, Trip, Expire}
use Rattle.pt_model.specs.Searches.{In}
use Rattle.pt_model.specs.Histories.{History, ◌▷◌, place}
use Rattle.pt_model.specs.Clients.{is_alive}
use Rattle.pt_model.specs.Objects.{kind_of}
use Rattle.pt_model.specs.declared.waiting_call.WaitingCall.{WaitingCall}
use Rattle.pt_model.specs.declared.waiting_call.Move.{Move}
use Rattle.pt_model.specs.declared.waiting_call.Role.{Role}
use Rattle.pt_model.specs.declared.waiting_call.Role.TheVariants.{ForMutex, ForRead, ForWrite}
use Rattle.pt_model.specs.declared.waiting_call.Role.TheVariants.{ForBarrier, ForCond}
use Rattle.pt_model.specs.WaitingCall.{is_barrier_wait, is_cond_wait}
use Rattle.pt_model.specs.Answers.{open_calls}
use Rattle.pt_model.specs.Moves.{wait_move, move_or, cause_by_expiry, wait_object_by, wait_object}
use Rattle.pt_model.specs.Steps.{Follows}
use Rattle.pt_model.proofs.Lists.{Each-from_in, filter-agree_on}
use Rattle.pt_model.proofs.Found.{one_open}
use Rattle.pt_model.proofs.OneEach.{one_each}
use Rattle.pt_model.proofs.Opens.{stands_at_barrier, open-grant, open-expire, open-trip}
use Rattle.pt_model.proofs.Moves.{wait_move-expire}
use Rattle.pt_model.proofs.Seats.{exists_as, seat, HousedBy, housed, one_class}
use Rattle.pt_machine.specs.CallQueues.{waiter, IsQueued}
use Rattle.pt_machine.proofs.QueuedSame.{stands-same}

-- after a change that moves no open call and leaves the same clients and objects, the queues are
-- right once they have the open calls that are left
pub queued-still : (h g : History) (view view' : QueuesView) → ((j : ℕ) → wait_move g j
    ≡ wait_move h j)
    → ((c : ℕ) → is_alive g c ≡ is_alive h c) → ((o : ℕ) → kind_of g o ≡ kind_of h o)
    → ((c : ℕ) → view'.admitted c ≡ view.admitted c) → ((o : ℕ) → view'.is_queue o ≡ view.is_queue o)
    → IsQueued h view
    → Members (wait_object h) (waiter h) (open_calls g) view'.queue
    → IsQueued g view'
queued-still h g view view' moves alive kinds room there k m =
    record {
      members = members-agree (wait_object h) (wait_object g) (waiter h) (waiter g) (open_calls g)
          view'.queue (λ w i. stands-same h g w (moves w.place)) m;
      admits = λ c. room c ∙ (k.admits c ∙ sym (alive c));
      makes = λ o. there o ∙ (k.makes o ∙ ap is_some (sym (kinds o)));
    }

-- an open call has the place of another exactly if it has its client
same_test : (h : History) → Follows h → (u : WaitingCall) → In u (open_calls h) → (w : WaitingCall)
    → In w (open_calls h) → (w.place == u.place) ≡ (w.client == u.client)
same_test h f u i w j = go (w.place == u.place) (w.client == u.client) refl refl
  where
    go : (a b : Bool) → (w.place == u.place) ≡ a → (w.client == u.client) ≡ b → a ≡ b
    go true true ea eb = refl
    go false false ea eb = refl
    go true false ea eb =
        let at : w.place ≡ u.place = grind (arith, nat_tests) in
        let by : w.client ≡ u.client =
        ap (λ (v : WaitingCall). v.client) (one_open h f w u j i at) in
        grind (arith, nat_tests)
    go false true ea eb =
        let by : w.client ≡ u.client = grind (arith, nat_tests) in
        let at : w.place ≡ u.place =
        ap (λ (v : WaitingCall). v.place) (one_each h f w u j i by) in
        grind (arith, nat_tests)

-- an entry that ends one open call and moves none
pub queued-out : (h : History) (e : Entry) (u : WaitingCall) (view view' : QueuesView)
    → Follows h → In u (open_calls h)
    → open_calls (h ▷ e) ≡ filter (λ w. not (w.place == u.place)) (open_calls h)
    → ((j : ℕ) → wait_move (h ▷ e) j ≡ wait_move h j)
    → ((c : ℕ) → is_alive (h ▷ e) c ≡ is_alive h c)
    → ((o : ℕ) → kind_of (h ▷ e) o ≡ kind_of h o)
    → ((q : ℕ) → view'.queue q ≡ other_waiters u.client (view.queue q))
    → ((c : ℕ) → view'.admitted c ≡ view.admitted c) → ((o : ℕ) → view'.is_queue o ≡ view.is_queue o)
    → IsQueued h view → IsQueued (h ▷ e) view'
queued-out h e u view view' f i calls moves alive kinds gone room there k =
    queued-still h (h ▷ e) view view' moves alive kinds room there k
    (subst (λ ws. Members (wait_object h) (waiter h) ws view'.queue)
    (sym (calls ∙ filter-agree_on (λ (w : WaitingCall). not (w.place == u.place))
    (λ (w : WaitingCall). not (w.client == u.client)) (open_calls h)
    (Each-from_in (λ (w : WaitingCall). not (w.place == u.place) ≡ not (w.client == u.client))
    (open_calls h) (λ w j. ap not (same_test h f u i w j)))))
    (members-out (wait_object h) (waiter h) (open_calls h) u.client view.queue view'.queue gone
    k.members))

-- a Grant ends its call
pub queued-grant : (h : History) (x : Outcome) (u : WaitingCall) (view view' : QueuesView)
    → Follows h → In u (open_calls h)
    → ((q : ℕ) → view'.queue q ≡ other_waiters u.client (view.queue q))
    → ((c : ℕ) → view'.admitted c ≡ view.admitted c) → ((o : ℕ) → view'.is_queue o ≡ view.is_queue o)
    → IsQueued h view → IsQueued (h ▷ Grant u.place x) view'
queued-grant h x u view view' f i gone room there k =
    queued-out h (Grant u.place x) u view view' f i
    (open-grant h u.place x) (λ j. refl) (λ c. refl) (λ o. refl) gone room there k

-- an Expire of a call that is not a wait ends it
pub queued-expire : (h : History) (u : WaitingCall) (view view' : QueuesView) → Follows h
    → In u (open_calls h) → is_cond_wait u.role ≡ false
    → ((q : ℕ) → view'.queue q ≡ other_waiters u.client (view.queue q))
    → ((c : ℕ) → view'.admitted c ≡ view.admitted c) → ((o : ℕ) → view'.is_queue o ≡ view.is_queue o)
    → IsQueued h view → IsQueued (h ▷ Expire u.place) view'
queued-expire h u view view' f i other gone room there k =
    queued-out h (Expire u.place) u view view' f i
    (open-expire h u f i
    ∙ ap (λ b. filter (λ w. b || not (w.place == u.place)) (open_calls h)) other)
    (λ j. wait_move-expire h u f i j
    ∙ (ap (λ b. move_or (place h) (cause_by_expiry (u.place == j) b) (wait_move h j)) other
    ∙ unmoved (u.place == j) (wait_move h j)))
    (λ c. refl) (λ o. refl) gone room there k
  where
    unmoved : (b : Bool) (o : Option Move) → move_or (place h) (cause_by_expiry b false) o ≡ o
    unmoved true o = refl
    unmoved false o = refl

-- all calls at one object end
members-clear : {X : Type 0} (at : X → ℕ) (waiter : X → Waiter) (calls : List X) (b : ℕ)
    (queue queue' : ℕ → List Waiter) → ((q : ℕ) → queue' q ≡ cond (b == q) [] (queue q))
    → Members at waiter calls queue
    → Members at waiter (filter (λ w. not (at w == b)) calls) queue'
members-clear {X} at waiter calls b queue queue' f k =
    record {
      in_order = λ q. subst IsInKeyOrder (sym (f q)) (in_order q (b == q));
      has_call = λ q v i.
          from q v (b == q) refl (subst (λ (xs : List Waiter). In v xs) (f q) i);
      in_queue = λ w i.
          let j = In-kept others calls w i in
          subst (λ (xs : List Waiter). In (waiter w) xs) (sym (f (at w)))
          (to w (b == at w) refl j.1 (k.in_queue w j.0));
    }
  where
    others : X → Bool
    others w = not (at w == b)

    in_order : (q : ℕ) (t : Bool) → IsInKeyOrder (cond t [] (queue q))
    in_order q true = tt
    in_order q false = k.in_order q

    from : (q : ℕ) (v : Waiter) (t : Bool) → (b == q) ≡ t → In v (cond t [] (queue q))
        → (w : X) × In w (filter others calls) × (at w ≡ q) × (v ≡ waiter w)
    from q v true e i = absurd i
    from q v false e i =
        let r = k.has_call q v i in
        let here : at r.0 ≡ q = r.2 in
        let apart : (at r.0 == b) ≡ false = grind (arith, nat_tests) in
        (r.0, filter-in others calls r.0 r.1 (ap not apart), r.2, r.3)

    to : (w : X) (t : Bool) → (b == at w) ≡ t → not (at w == b) ≡ true
        → In (waiter w) (queue (at w)) → In (waiter w) (cond t [] (queue (at w)))
    to w false e passes i = i
    to w true e passes i =
        let same : (at w == b) ≡ true = grind (arith, nat_tests) in
        absurd (no (at w == b) same passes)
      where
        no : (t : Bool) → t ≡ true → not t ≡ true → ⊥
        no true e p = cc
        no false e p = cc

-- a call waits at a barrier exactly if it is an arrival there
pub arrived : (h : History) (role : Role) (o : Option Move) (object b : ℕ)
    → HousedBy h role o object → exists_as h BarrierClass b ≡ true
    → (wait_object_by role o object == b) ≡ (is_barrier_wait role && (object == b))
arrived h role o object b housed_at barrier = go role refl
  where
    at_other : (r : Role) → role ≡ r → (seat r o ≡ BarrierClass → ⊥)
        → (wait_object_by r o object == b) ≡ false
    at_other r e unlike = test (wait_object_by r o object == b) refl
      where
        test : (t : Bool) → (wait_object_by r o object == b) ≡ t → t ≡ false
        test false q = refl
        test true q =
            let at : wait_object_by r o object ≡ b = grind (arith, nat_tests) in
            let there : exists_as h (seat r o) (wait_object_by r o object) ≡ true =
            subst (λ (x : Role). exists_as h (seat x o) (wait_object_by x o object) ≡ true) e
            housed_at.0 in
            absurd (unlike (one_class (kind_of h b) (seat r o) BarrierClass
            (subst (λ k. exists_as h (seat r o) k ≡ true) at there) barrier))

    of_wait : (m : ℕ) (v : Option Move) → seat (ForCond m) v ≡ BarrierClass → ⊥
    of_wait m None e = cc
    of_wait m (Some v) e = cc

    go : (r : Role) → role ≡ r
        → (wait_object_by role o object == b) ≡ (is_barrier_wait role && (object == b))
    go ForBarrier e = rw e refl
    go ForMutex e = rw e (at_other ForMutex e (λ s. cc))
    go ForRead e = rw e (at_other ForRead e (λ s. cc))
    go ForWrite e = rw e (at_other ForWrite e (λ s. cc))
    go (ForCond m) e = rw e (at_other (ForCond m) e (of_wait m o))

-- the object of an arrival is a barrier
pub barrier-of : (h : History) → Follows h → (u : WaitingCall) → In u (open_calls h)
    → is_barrier_wait u.role ≡ true → exists_as h BarrierClass u.object ≡ true
barrier-of h f u i arrival = barrier u.role refl arrival
  where
    barrier : (r : Role) → u.role ≡ r → is_barrier_wait u.role ≡ true
        → exists_as h BarrierClass u.object ≡ true
    barrier ForBarrier e t =
        (subst (λ (x : Role). HousedBy h x (wait_move h u.place) u.object) e (housed h f u i)).0
    barrier ForMutex e t = let no : is_barrier_wait ForMutex ≡ true = ap is_barrier_wait (sym e)
        ∙ t in cc
    barrier ForRead e t = let no : is_barrier_wait ForRead ≡ true = ap is_barrier_wait (sym e)
        ∙ t in cc
    barrier ForWrite e t = let no : is_barrier_wait ForWrite ≡ true = ap is_barrier_wait (sym e)
        ∙ t in cc
    barrier (ForCond m) e t =
        let no : is_barrier_wait (ForCond m) ≡ true = ap is_barrier_wait (sym e) ∙ t in cc

-- a Trip ends the calls at its barrier
pub queued-trip : (h : History) (u : WaitingCall) (view view' : QueuesView) → Follows h
    → In u (open_calls h) → is_barrier_wait u.role ≡ true
    → ((q : ℕ) → view'.queue q ≡ cond (u.object == q) [] (view.queue q))
    → ((c : ℕ) → view'.admitted c ≡ view.admitted c) → ((o : ℕ) → view'.is_queue o ≡ view.is_queue o)
    → IsQueued h view → IsQueued (h ▷ Trip u.object) view'
queued-trip h u view view' f i arrival gone room there k =
    queued-still h (h ▷ Trip u.object) view view' (λ j. refl)
    (λ c. refl) (λ o. refl) room there k
    (subst (λ ws. Members (wait_object h) (waiter h) ws view'.queue)
    (sym (open-trip h u.object f
    ∙ filter-agree_on (λ (w : WaitingCall). not (stands_at_barrier u.object w))
    (λ (w : WaitingCall). not (wait_object h w == u.object)) (open_calls h)
    (Each-from_in (λ (w : WaitingCall). not (stands_at_barrier u.object w)
    ≡ not (wait_object h w == u.object)) (open_calls h)
    (λ w j. ap not (sym (arrived h w.role (wait_move h w.place) w.object u.object (housed h f w j)
    (barrier-of h f u i arrival)))))))
    (members-clear (wait_object h) (waiter h) (open_calls h) u.object view.queue view'.queue gone
    k.members))
