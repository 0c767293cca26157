-- The queues while a broadcast moves the waits at its condition, one by one in key order.
use Rattle.std.proofs.Common.{◌≡◌, ℕ, suc, ◌<◌, Bool, true, false, cond, not, ◌&&◌, ◌||◌, ◌==◌}
use Rattle.std.proofs.Common.{nat_lt, List, [], ◌∷◌, length, Option, Some, None, is_some, refl, sym}
use Rattle.std.proofs.Common.{ap, ◌∙◌, subst, arith, eq-eqb, inl, inr, unwrap_or}
use Rattle.std.proofs.lemmas.Bool.Decides.{nat_tests}
use Rattle.std.proofs.lemmas.Bool.{false≢true, and_parts}
use Rattle.std.proofs.lemmas.List.Filters.{length-filter_both}
use Rattle.std.specs.List.{AllByRecursion as Each}
use Rattle.pt_types.specs.Times.{pair_before}
use Rattle.pt_types.specs.KeyOrder.{kind_rank}
use Rattle.pt_waitq.specs.declared.waiter.Waiter.{Waiter}
use Rattle.pt_waitq.specs.Queues.{queues_of, In, arrival, comes_before, is_like, insert_in_order}
use Rattle.pt_waitq.specs.Queues.{head_of, is_queued_in, other_waiters}
use Rattle.pt_waitq.specs.Members.{Members}
use Rattle.pt_waitq.specs.ListLemmas.{In-filter, any-in, any-out, any-without}
use Rattle.pt_waitq.proofs.MemberLemmas.{members-agree, members-move, head-first, head-in}
use Rattle.pt_waitq.proofs.CallerLemmas.{head-stands, other_waiters-stands}
use Rattle.pt_model.specs.Histories.{History, place}
use Rattle.pt_model.specs.Clients.{is_alive}
use Rattle.pt_model.specs.Objects.{kind_of}
use Rattle.pt_model.specs.declared.waiting_call.WaitingCall.{WaitingCall}
use Rattle.pt_model.specs.declared.waiting_call.Move.{Move}
use Rattle.pt_model.specs.Answers.{open_calls}
use Rattle.pt_model.specs.Moves.{arrival_by, wait_move, wait_object_by, wait_object, waiting_at}
use Rattle.pt_model.specs.Verdicts.{bound_mutex}
use Rattle.pt_model.proofs.Lists.{false_by}
use Rattle.pt_model.proofs.Found.{open_alive}
use Rattle.pt_model.proofs.OneEach.{one_each}
use Rattle.pt_machine.specs.CallQueues.{waiter_by, waiter, IsQueued, CanEnqueue}
use Rattle.pt_machine.proofs.ArrivalBounds.{arrival-below, object-there}
use Rattle.pt_machine.proofs.Broadcasts.{Broadcast, was, came, rouses, away, spares, goes}
use Rattle.pt_machine.proofs.PlaceTakes.{Takes}

-- the move of a call so far: those in this queue have not been moved yet
abbrev pub move_now : History → History → List Waiter → WaitingCall → Option Move
move_now h g ws w = cond (is_queued_in w.client ws) (wait_move h w.place) (wait_move g w.place)

-- the object at which the call waits so far
abbrev pub object_now : History → History → List Waiter → WaitingCall → ℕ
object_now h g ws w = wait_object_by w.role (move_now h g ws w) w.object

-- the waiter of the call so far
abbrev pub waiter_now : History → History → List Waiter → WaitingCall → Waiter
waiter_now h g ws w = waiter_by (move_now h g ws w) w

-- between h and g the waits at q are moved to their mutexes; none that is still at q goes before
-- one that was moved
pub record IsRousing (h g : History) (q : ℕ) (queue : ℕ → List Waiter) (admitted is_queue : ℕ → Bool)
    : Type 0 where
  pub by : Broadcast h g q
  pub members : Members (object_now h g (queue q)) (waiter_now h g (queue q)) (open_calls g) queue
  pub turns : (w x : WaitingCall) → In w (open_calls g) → In x (open_calls g) → wait_object h w ≡ q
      → is_queued_in w.client (queue q) ≡ false → is_queued_in x.client (queue q) ≡ true
      → comes_before (waiter h x) (waiter h w) ≡ false
  pub admits : (c : ℕ) → admitted c ≡ is_alive g c
  pub makes : (o : ℕ) → is_queue o ≡ is_some (kind_of g o)

Each-from : (P : Waiter → Type 0) (ws : List Waiter) → ((v : Waiter) → In v ws → P v) → Each P ws
Each-from P [] f = tt
Each-from P (v ∷ vs) f = (f v (inl refl), Each-from P vs (λ u i. f u (inr i)))

-- a queue has the client of each of its waiters
is_waiting : (ws : List Waiter) (v : Waiter) → In v ws → is_queued_in v.client ws ≡ true
is_waiting ws v i = any-in (λ (u : Waiter). u.client == v.client) ws v i (eq-eqb v.client v.client refl)

-- a queue without its head is shorter
other_waiters-shorter : (ws : List Waiter) (v : Waiter) → head_of ws ≡ Some v
    → length (other_waiters v.client ws) < length ws
other_waiters-shorter [] v e = absurd cc
other_waiters-shorter (u ∷ us) v e =
    let same : u ≡ v = cc in
    let own : u.client ≡ v.client = ap (λ (x : Waiter). x.client) same in
    let its : (u.client == v.client) ≡ true = eq-eqb u.client v.client own in
    let both = length-filter_both (λ (x : Waiter). x.client == v.client)
    (λ (x : Waiter). not (x.client == v.client)) (λ x. refl) us in
    let less : length (other_waiters v.client us) < suc (length us) = omega (arith, both) in
    rw its less

-- of two waiters of the same priority that one entry moved, the one that came later goes after the
-- other
later-behind : (pu px ru rx mu mx iu ix nu nx : ℕ) → mu ≡ iu → mx ≡ ix → nu ≡ nx
    → (nat_lt px pu || ((pu == px) && (nat_lt ru rx || ((ru == rx)
    && (nat_lt mu mx || ((mu == mx) && nat_lt iu ix)))))) ≡ false
    → (((px == pu) && (rx == ru)) && (nat_lt nu nx || ((nu == nx) && nat_lt iu ix))) ≡ false
later-behind pu px ru rx mu mx iu ix nu nx a b c t = grind (arith, nat_tests)

-- a waiter that was moved later does not go before one that was moved earlier
earlier : (like : Bool) (nu nx iu ix : ℕ) → nx < nu
    → (like && (nat_lt nu nx || ((nu == nx) && nat_lt iu ix))) ≡ false
earlier true nu nx iu ix lt = grind (arith, nat_tests)
earlier false nu nx iu ix lt = refl

nothing : (ws : List Waiter) → head_of ws ≡ None → ws ≡ []
nothing [] e = refl
nothing (v ∷ vs) e = absurd cc

-- the queues when the broadcast comes
pub rousing-begins : {h g : History} {q : ℕ} {queue : ℕ → List Waiter} {admitted is_queue : ℕ → Bool}
    → Broadcast h g q
    → IsQueued h (queues_of queue admitted is_queue) → IsRousing h g q queue admitted is_queue
rousing-begins {h = h} {g = g} {q = q} {queue = queue} b k =
    record {
      by = b;
      members = subst (λ (ws : List WaitingCall).
          Members (object_now h g (queue q)) (waiter_now h g (queue q)) ws queue) (sym b.calls)
          (members-agree (wait_object h) (object_now h g (queue q)) (waiter h)
          (waiter_now h g (queue q)) (open_calls h) queue
          (λ w i. let same = as_before w i in (
            ap (λ x. wait_object_by w.role x w.object) same,
            ap
                (λ x. waiter_by x w) same,
          )) k.members);
      turns = λ w x i j e n t. absurd (false≢true (sym n ∙ there w (was b w i) e));
      admits = λ c. k.admits c ∙ sym (b.alive c);
      makes = λ o. k.makes o ∙ ap is_some (sym (b.kinds o));
    }
  where
    there : (w : WaitingCall) → In w (open_calls h) → wait_object h w ≡ q
        → is_queued_in w.client (queue q) ≡ true
    there w i e =
        is_waiting (queue q) (waiter h w)
        (subst (λ (r : ℕ). In (waiter h w) (queue r)) e (k.members.in_queue w i))

    as_before : (w : WaitingCall) → In w (open_calls h)
        → move_now h g (queue q) w ≡ wait_move h w.place
    as_before w i = go (is_queued_in w.client (queue q)) refl
      where
        go : (t : Bool) → is_queued_in w.client (queue q) ≡ t
            → cond t (wait_move h w.place) (wait_move g w.place) ≡ wait_move h w.place
        go true e = refl
        go false e =
            spares b w (subst (λ (ws : List WaitingCall). In w ws) (sym b.calls) i)
            (false_by (wait_object h w == q) (λ t.
            let at : wait_object h w ≡ q = grind (arith, nat_tests) in
            false≢true (sym e ∙ there w i at)))

-- the call whose waiter is the first at the condition
record IsNext (h g : History) (ws : List Waiter) (q : ℕ) (first : Waiter) : Type 0 where
  pub call : WaitingCall
  pub «open» : In call (open_calls g)
  pub its : first.client ≡ call.client
  pub here : is_queued_in call.client ws ≡ true
  pub at : wait_object h call ≡ q
  pub same : first ≡ waiter h call

module _ {h g : History} {q : ℕ} {queue : ℕ → List Waiter} {admitted is_queue : ℕ → Bool}
    (k : IsRousing h g q queue admitted is_queue) where
  -- the queues after all waits have left the condition
  pub rousing-ends : {found : Option Waiter} → found ≡ head_of (queue q) → found ≡ None
      → IsQueued g (queues_of queue admitted is_queue)
  rousing-ends e n =
      record {
        members = subst (λ (ws : List Waiter).
            Members (object_now h g ws) (waiter_now h g ws) (open_calls g) queue)
            (nothing (queue q) (sym e ∙ n)) k.members;
        admits = k.admits;
        makes = k.makes;
      }

  -- a call that is still at the condition was there before
  stood-here : (w : WaitingCall) → In w (open_calls g) → is_queued_in w.client (queue q) ≡ true
      → wait_object h w ≡ q
  stood-here w i s =
      let v = any-out (λ (v : Waiter). v.client == w.client) (queue q) s in
      let r = k.members.has_call q v.0 v.1 in
      let its : v.0.client ≡ w.client = grind (arith, nat_tests, v.2) in
      let own : r.0.client ≡ w.client = ap (λ (x : Waiter). x.client) (sym r.3) ∙ its in
      let same : r.0 ≡ w = one_each g k.by.after r.0 w r.1 i own in
      let at : object_now h g (queue q) w ≡ q = ap (object_now h g (queue q)) (sym same)
      ∙ r.2 in
      ap (λ t. wait_object_by w.role (cond t (wait_move h w.place) (wait_move g w.place)) w.object)
      (sym s)
      ∙ at

  -- and waits there as it did
  waits-here : (w : WaitingCall) → In w (open_calls g) → is_queued_in w.client (queue q) ≡ true
      → In (waiter h w) (queue q)
  waits-here w i s =
      subst (λ (r : ℕ). In (waiter h w) (queue r)) (stood-here w i s)
      (subst (λ (t : Bool). In (waiter_by (cond t (wait_move h w.place) (wait_move g w.place)) w)
      (queue (wait_object_by w.role (cond t (wait_move h w.place) (wait_move g w.place)) w.object)))
      s (k.members.in_queue w i))

  -- a call that waits elsewhere is no longer in the condition's queue
  gone : (w : WaitingCall) → In w (open_calls g) → (o : ℕ) → (o == q) ≡ false
      → object_now h g (queue q) w ≡ o → is_queued_in w.client (queue q) ≡ false
  gone w i o n e =
      false_by (is_queued_in w.client (queue q)) (λ s.
      let now : wait_object h w ≡ o =
      ap (λ t. wait_object_by w.role (cond t (wait_move h w.place) (wait_move g w.place)) w.object)
      (sym s) ∙ e in
      false≢true (sym n ∙ eq-eqb o q (sym now ∙ stood-here w i s)))

  module _ {found : Option Waiter} {first : Waiter} (is_head : found ≡ head_of (queue q))
      (some : found ≡ Some first) where
    is : head_of (queue q) ≡ Some first
    is = sym is_head ∙ some

    next : IsNext h g (queue q) q first
    next =
        let r = k.members.has_call q first (head-in (queue q) first is) in
        let its : first.client ≡ r.0.client = ap (λ (v : Waiter). v.client) r.3 in
        let here : is_queued_in r.0.client (queue q) ≡ true =
        ap (λ n. is_queued_in n (queue q)) (sym its) ∙ head-stands (queue q) first is in
        record {
          call = r.0;
          «open» = r.1;
          its = its;
          here = here;
          at = stood-here r.0 r.1 here;
          same = r.3
              ∙ ap (λ t. waiter_by (cond t (wait_move h r.0.place)
              (wait_move g r.0.place)) r.0) here;
        }

    -- the first of them, after its move, waits at the mutex that was bound to the condition
    pub rousing-takes : {m : ℕ} {v : Waiter} → m ≡ unwrap_or (bound_mutex (waiting_at h q)) 0
        → v ≡ record first { moved = place h } → Takes g first.client m v
    rousing-takes {m = m} {v = v} m_is v_is =
        record {
          seat = λ w i e.
              m_is
              ∙ (sym (goes k.by next.call next.open next.at) ∙ ap (wait_object g) (its w i e));
          same = λ w i e.
              v_is
              ∙ (ap (λ (x : Waiter). record x { moved = place h }) next.same
              ∙ (sym (ap (λ x. waiter_by x next.call) (rouses k.by next.call next.open next.at))
              ∙ ap (waiter g) (its w i e)));
        }
      where
        its : (w : WaitingCall) → In w (open_calls g) → w.client ≡ first.client → next.call ≡ w
        its w i e = sym (one_each g k.by.after w next.call i next.open (e ∙ next.its))

    -- each waiter at its mutex was there before, or was moved there ahead of it
    behind : (v : Waiter) → In v (queue (wait_object g next.call))
        → (is_like v (waiter g next.call)
        && pair_before (arrival (waiter g next.call)) (arrival v)) ≡ false
    behind v i =
        ap (λ (y : Waiter). is_like y (waiter g next.call)
        && pair_before (arrival (waiter g next.call)) (arrival y))
        (r.3 ∙ ap (λ t. waiter_by (cond t (wait_move h x.place) (wait_move g x.place)) x) left)
        ∙ go (wait_object h x == q) refl
      where
        u : WaitingCall
        u = next.call

        r : (w : WaitingCall) × In w (open_calls g)
            × (object_now h g (queue q) w ≡ wait_object g next.call)
            × (v ≡ waiter_now h g (queue q) w)
        r = k.members.has_call (wait_object g next.call) v i

        x : WaitingCall
        x = r.0

        left : is_queued_in x.client (queue q) ≡ false
        left = gone x r.1 (wait_object g u) (away k.by u next.open next.at) r.2

        new : (waiter g u).moved ≡ place h
        new = ap (λ y. (arrival_by y u.place).0) (rouses k.by u next.open next.at)

        go : (t : Bool) → (wait_object h x == q) ≡ t
            → (is_like (waiter g x) (waiter g u)
            && pair_before (arrival (waiter g u)) (arrival (waiter g x))) ≡ false
        go true e =
            let stood : wait_object h x ≡ q = grind (arith, nat_tests) in
            later-behind (waiter h u).prio (waiter h x).prio (kind_rank (waiter h u).writer)
            (kind_rank (waiter h x).writer) (waiter h u).moved (waiter h x).moved u.place x.place
            (waiter g u).moved (waiter g x).moved (came k.by u next.open next.at)
            (came k.by x r.1 stood)
            (new ∙ sym (ap (λ y. (arrival_by y x.place).0) (rouses k.by x r.1 stood)))
            (k.turns x u r.1 next.open stood left next.here)
        go false e =
            let old : (waiter h x).moved < place h =
            arrival-below h k.by.before x (was k.by x r.1) in
            let same : (waiter g x).moved ≡ (waiter h x).moved =
            ap (λ y. (arrival_by y x.place).0) (spares k.by x r.1 e) in
            earlier (is_like (waiter g x) (waiter g u)) (waiter g u).moved (waiter g x).moved
            u.place x.place (omega (arith, old, same, new))

    module _ {queue1 : ℕ → List Waiter}
        (out : (r : ℕ) → queue1 r ≡ other_waiters first.client (queue r)) where
      -- the first of them may take its place at its mutex
      pub rousing-stands : {admitted1 made1 : ℕ → Bool}
          → ((c : ℕ) → admitted1 c ≡ admitted c) → ((o : ℕ) → made1 o ≡ is_queue o)
          → CanEnqueue g first.client (queues_of queue1 admitted1 made1)
      rousing-stands f m =
          record {
            call = next.call;
            «open» = next.open;
            its = sym next.its;
            room = f first.client ∙ (k.admits first.client
                ∙ (ap (is_alive g) next.its ∙ open_alive g next.call next.open));
            nowhere = λ r. ap (is_queued_in first.client) (out r)
                ∙ other_waiters-stands first.client (queue r);
            there = m (wait_object g next.call) ∙ (k.makes (wait_object g next.call)
                ∙ object-there g k.by.after next.call next.open);
            latest = Each-from _ (queue1 (wait_object g next.call)) (λ v i.
                behind v (In-filter _ (queue (wait_object g next.call)) v
                (subst (λ (ws : List Waiter). In v ws) (out (wait_object g next.call)) i)).0);
          }

      module _ {queue2 : ℕ → List Waiter}
          (put : (w : WaitingCall) → In w (open_calls g) → w.client ≡ first.client → (r : ℕ)
          → queue2 r ≡ cond (wait_object g w == r) (insert_in_order (waiter g w) (queue1 r))
          (queue1 r)) where
        -- the condition's queue is without the first
        rest-here : queue2 q ≡ other_waiters first.client (queue q)
        rest-here =
            put next.call next.open (sym next.its) q
            ∙ (ap (λ t. cond t (insert_in_order (waiter g next.call) (queue1 q)) (queue1 q))
            (away k.by next.call next.open next.at) ∙ out q)

        pub rousing-shorter : length (queue2 q) < length (queue q)
        rousing-shorter =
            subst (λ (ws : List Waiter). length ws < length (queue q)) (sym rest-here)
            (other_waiters-shorter (queue q) first is)

        stands-now : (w : WaitingCall) → is_queued_in w.client (queue2 q)
            ≡ (not (first.client == w.client) && is_queued_in w.client (queue q))
        stands-now w =
            ap (is_queued_in w.client) rest-here
            ∙ any-without (λ (v : Waiter). v.client) first.client w.client (queue q)

        gone-now : is_queued_in next.call.client (queue2 q) ≡ false
        gone-now =
            stands-now next.call
            ∙ ap (λ t. not t && is_queued_in next.call.client (queue q))
            (eq-eqb first.client next.call.client next.its)

        only : (w : WaitingCall) → In w (open_calls g) → (first.client == w.client) ≡ true
            → w ≡ next.call
        only w i e =
            let own : w.client ≡ next.call.client = grind (arith, nat_tests, next.its) in
            one_each g k.by.after w next.call i next.open own

        -- all other calls wait as they did
        others : (w : WaitingCall) → (first.client == w.client) ≡ false
            → move_now h g (queue2 q) w ≡ move_now h g (queue q) w
        others w e =
            ap (λ t. cond t (wait_move h w.place) (wait_move g w.place))
            (stands-now w ∙ ap (λ t. not t && is_queued_in w.client (queue q)) e)

        same_way : (w : WaitingCall) → (first.client == w.client) ≡ (w.client == next.call.client)
        same_way w = turned first.client w.client ∙ ap (λ n. w.client == n) next.its
          where
            turned : (m n : ℕ) → (m == n) ≡ (n == m)
            turned m n = grind (arith, nat_tests)

        now-members : Members (object_now h g (queue2 q)) (waiter_now h g (queue2 q))
            (open_calls g) queue2
        now-members =
            members-move (object_now h g (queue q)) (object_now h g (queue2 q))
            (waiter_now h g (queue q)) (waiter_now h g (queue2 q)) (open_calls g) u queue queue2
            next.open (λ w i e. only w i (same_way w ∙ e))
            (λ w i e. let same = others w (same_way w ∙ e) in
            (ap (λ x. wait_object_by w.role x w.object) same, ap (λ x. waiter_by x w) same))
            (λ r. put u next.open (sym next.its) r
            ∙ (ap (λ (ws : List Waiter). cond (wait_object g u == r)
            (insert_in_order (waiter g u) ws) ws)
            (out r ∙ ap (λ n. other_waiters n (queue r)) next.its)
            ∙ ap (λ t. cond
            (wait_object_by u.role (cond t (wait_move h u.place)
            (wait_move g u.place)) u.object == r)
            (insert_in_order (waiter_by (cond t (wait_move h u.place) (wait_move g u.place)) u)
            (other_waiters u.client (queue r))) (other_waiters u.client (queue r))) (sym gone-now)))
            k.members
          where
            u : WaitingCall
            u = next.call

        now-turns : (w x : WaitingCall) → In w (open_calls g) → In x (open_calls g)
            → wait_object h w ≡ q → is_queued_in w.client (queue2 q) ≡ false
            → is_queued_in x.client (queue2 q) ≡ true
            → comes_before (waiter h x) (waiter h w) ≡ false
        now-turns w x i j e n t = go (first.client == w.client) refl
          where
            still : is_queued_in x.client (queue q) ≡ true
            still = (and_parts (not (first.client == x.client))
                (is_queued_in x.client (queue q)) (sym (stands-now x) ∙ t)).1

            go : (s : Bool) → (first.client == w.client) ≡ s
                → comes_before (waiter h x) (waiter h w) ≡ false
            go true s =
                ap (λ (y : Waiter). comes_before (waiter h x) y)
                (ap (waiter h) (only w i s) ∙ sym next.same)
                ∙ head-first (queue q) first (k.members.in_order q) is (waiter h x)
                (waits-here x j still)
            go false s =
                k.turns w x i j e
                (sym (stands-now w ∙ ap (λ r. not r && is_queued_in w.client (queue q)) s) ∙ n)
                still

        -- the queues are ready for the next of them
        pub rousing-next : {admitted1 made1 admitted2 made2 : ℕ → Bool}
            → ((c : ℕ) → admitted1 c ≡ admitted c) → ((o : ℕ) → made1 o ≡ is_queue o)
            → ((c : ℕ) → admitted2 c ≡ admitted1 c) → ((o : ℕ) → made2 o ≡ made1 o)
            → IsRousing h g q queue2 admitted2 made2
        rousing-next f1 m1 f2 m2 =
            record {
              by = k.by;
              members = now-members;
              turns = now-turns;
              admits = λ c. f2 c ∙ (f1 c ∙ k.admits c);
              makes = λ o. m2 o ∙ (m1 o ∙ k.makes o);
            }
