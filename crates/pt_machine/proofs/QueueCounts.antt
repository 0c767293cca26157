-- QueueCounts: a queue has as many waiters as open calls wait at its object.
use Rattle.std.proofs.Common.{◌≡◌, ℕ, suc, ◌<◌, ◌≤◌, ◌==◌, Bool, true, false, cond, ◌&&◌, ◌||◌}
use Rattle.std.proofs.Common.{List, [], ◌∷◌, Option, Some, None, option_map, length, filter, refl}
use Rattle.std.proofs.Common.{sym, ap, ◌∙◌, arith, eq-eqb}
use Rattle.std.proofs.lemmas.Bool.{false≢true}
use Rattle.std.specs.List.{list_any, cons_option}
use Rattle.pt_types.specs.declared.call.ObjectKind.TheVariants as kind
use Rattle.pt_types.specs.Operations.{class_of}
use Rattle.pt_types.specs.declared.operations.ObjectClass.TheVariants.{Barrier as BarrierClass}
use Rattle.pt_types.specs.Limits.{max_clients}
use Rattle.pt_table.specs.declared.clients.ClientRow.{ClientRow}
use Rattle.pt_waitq.specs.declared.waiter.Waiter.{Waiter}
use Rattle.pt_waitq.specs.Members.{Members}
use Rattle.pt_waitq.specs.Queues.{of_client}
use Rattle.pt_waitq.specs.ListLemmas.{any-filter as any-of-filter}
use Rattle.pt_waitq.proofs.MemberLemmas.{members-any}
use Rattle.pt_model.proofs.Induction.{by_steps}
use Rattle.pt_model.specs.declared.entry.Entry.{Entry}
use Rattle.pt_model.specs.Searches.{Each}
use Rattle.pt_model.specs.Histories.{History, ◌▷◌, place}
use Rattle.pt_model.specs.Clients.{living_count}
use Rattle.pt_model.specs.Objects.{kind_of}
use Rattle.pt_model.specs.declared.waiting_call.WaitingCall.{WaitingCall}
use Rattle.pt_model.specs.WaitingCall.{is_barrier_wait}
use Rattle.pt_model.specs.Answers.{open_calls, at_barrier}
use Rattle.pt_model.specs.Moves.{wait_object}
use Rattle.pt_model.specs.Steps.{Step, joins, calls, dies, ticks, grants, trips, yields, expires}
use Rattle.pt_model.specs.Steps.{Follows}
use Rattle.pt_model.proofs.Lists.{Each-from_in, Each-filter, filter-agree_on, false_by}
use Rattle.pt_model.proofs.Counting.{total}
use Rattle.pt_model.proofs.Sound.{Fresh-follows, alive_below}
use Rattle.pt_model.proofs.Found.{open_alive}
use Rattle.pt_model.proofs.Ascending.{any-filter}
use Rattle.pt_records.specs.declared.clients.Caller.{Caller}
use Rattle.pt_records.specs.declared.clients.Open.{Open}
use Rattle.pt_records.specs.Callers.{AreCallers, opens_of}
use Rattle.pt_state.specs.Serving.{waits_at_cond}
use Rattle.pt_state.proofs.Totals.{sum_below-same, worth, Lone, total-worth}
use Rattle.pt_state.proofs.TotalLemmas.{lone-calls, total-calls}
use Rattle.pt_machine.specs.CallQueues.{waiter}
use Rattle.pt_machine.proofs.Membership.{in-list, in-queue}
use Rattle.pt_machine.proofs.QueueClasses.{at-cond, at-barrier}

-- the length of a list is the sum of one for each element
total-ones : {X : Type 0} (xs : List X) → total (λ x. 1) xs ≡ length xs
total-ones [] = refl
total-ones (x ∷ xs) = omega (arith, total-ones xs)

-- a filter makes no list longer
filter-less : {X : Type 0} (p : X → Bool) (xs : List X) → length (filter p xs) ≤ length xs
filter-less p [] = omega arith
filter-less p (x ∷ xs) = go (p x) (filter-less p xs)
  where
    go : (b : Bool) → length (filter p xs) ≤ length xs
        → length (cond b (x ∷ filter p xs) (filter p xs)) ≤ suc (length xs)
    go true ih = omega (arith, ih)
    go false ih = omega (arith, ih)

module _ {X : Type 0} (key : X → ℕ) where
  -- the first element with a number counts for one, if there is one
  worth-one : (xs : List X) (c : ℕ)
      → worth key (λ x. 1) xs c ≡ cond (list_any (λ x. key x == c) xs) 1 0
  worth-one [] c = refl
  worth-one (x ∷ xs) c = go (key x == c) (worth-one xs c)
    where
      go : (b : Bool) → worth key (λ y. 1) xs c ≡ cond (list_any (λ y. key y == c) xs) 1 0
          → cond b 1 (worth key (λ y. 1) xs c)
          ≡ cond {A = ℕ} (b || list_any (λ y. key y == c) xs) 1 0
      go true ih = refl
      go false ih = ih

  -- no two elements that a filter keeps have the same number
  lone-filter : (p : X → Bool) (xs : List X) → Lone key xs → Lone key (filter p xs)
  lone-filter p [] l = tt
  lone-filter p (x ∷ xs) l = go (p x) (lone-filter p xs l.1)
    where
      test : X → Bool
      test y = key y == key x

      none : list_any test (filter p xs) ≡ false
      none =
          false_by (list_any test (filter p xs))
          (λ t. false≢true (sym l.0 ∙ any-of-filter p test xs t))

      go : (b : Bool) → Lone key (filter p xs) → Lone key (cond b (x ∷ filter p xs) (filter p xs))
      go true ih = (none, ih)
      go false ih = ih

-- two lists with the same numbers, each at most once, have the same length
same-length : {X Y : Type 0} (k : X → ℕ) (l : Y → ℕ) (n : ℕ) (xs : List X) (ys : List Y)
    → Lone k xs → Lone l ys → Each (λ x. k x < n) xs → Each (λ y. l y < n) ys
    → ((c : ℕ) → list_any (λ x. k x == c) xs ≡ list_any (λ y. l y == c) ys)
    → length xs ≡ length ys
same-length k l n xs ys a b below under same =
    sym (total-ones xs)
    ∙ (total-worth k (λ x. 1) n xs a below
    ∙ (sum_below-same n (worth k (λ x. 1) xs) (worth l (λ y. 1) ys)
    (λ c. worth-one k xs c
    ∙ (ap (λ t. cond t 1 0) (same c) ∙ sym (worth-one l ys c)))
    ∙ (sym (total-worth l (λ y. 1) n ys b under) ∙ total-ones ys)))

-- if a waiter of a list passes a test, at least one passes the filter
any-length : (p : Waiter → Bool) (vs : List Waiter) → list_any p vs ≡ true
    → 1 ≤ length (filter p vs)
any-length p [] e = absurd (false≢true e)
any-length p (v ∷ vs) e = go (p v) e (any-length p vs)
  where
    go : (b : Bool) → (b || list_any p vs) ≡ true
        → (list_any p vs ≡ true → 1 ≤ length (filter p vs))
        → 1 ≤ length (cond b (v ∷ filter p vs) (filter p vs))
    go true t ih = omega arith
    go false t ih = ih t

-- if each client has at most one waiter, no two waiters have the same client
lone-once : (vs : List Waiter) → ((c : ℕ) → length (of_client c vs) ≤ 1)
    → Lone (λ (v : Waiter). v.client) vs
lone-once [] f = tt
lone-once (v ∷ vs) f =
    (false_by (list_any own vs) others, lone-once vs (λ c. rest c (v.client == c) (f c)))
  where
    own : Waiter → Bool
    own w = w.client == v.client

    rest : (c : ℕ) (b : Bool) → length (cond b (v ∷ of_client c vs) (of_client c vs)) ≤ 1
        → length (of_client c vs) ≤ 1
    rest c true le = omega (arith, le)
    rest c false le = le

    at-most : (b : Bool) → b ≡ true → length (cond b (v ∷ filter own vs) (filter own vs)) ≤ 1
        → length (filter own vs) ≤ 0
    at-most true e le = omega (arith, le)
    at-most false e le = absurd (false≢true e)

    others : list_any own vs ≡ true → ⊥
    others t =
        let none = at-most (v.client == v.client) (eq-eqb v.client v.client refl) (f v.client) in
        absurd (omega (arith, none, any-length own vs t))

module _ (h : History) (queue : ℕ → List Waiter)
    (m : Members (wait_object h) (waiter h) (open_calls h) queue) (follows : Follows h)
    (once : (c q : ℕ) → length (of_client c (queue q)) ≤ 1) where
  -- the clients of the calls at an object, and of the waiters in its queue, joined before
  calls-below : (p : WaitingCall → Bool) → Each (λ w. w.client < place h) (filter p (open_calls h))
  calls-below p =
      Each-filter (λ w. w.client < place h) p (open_calls h) (
      Each-from_in (λ w. w.client < place h) (open_calls h) (λ w i.
      alive_below h w.client (Fresh-follows h follows) (open_alive h w i)))

  queue-below : (q : ℕ) → Each (λ v. v.client < place h) (queue q)
  queue-below q =
      Each-from_in (λ v. v.client < place h) (queue q) (λ v i.
      let r = m.has_call q v (in-queue v (queue q) i) in
      let there = open_alive h r.0 (in-list r.0 (open_calls h) r.1) in
      let lt = alive_below h r.0.client (Fresh-follows h follows) there in
      let same : v.client ≡ r.0.client = ap (λ (x : Waiter). x.client) r.3 in
      omega (arith, lt, same))

  -- a queue has as many waiters as calls wait at its object
  counts : (q : ℕ) → length (queue q) ≡ length (filter (λ w. wait_object h w == q) (open_calls h))
  counts q =
      same-length (λ (v : Waiter). v.client) (λ (w : WaitingCall). w.client) (place h) (queue q)
      (filter (λ w. wait_object h w == q) (open_calls h)) (lone-once (queue q) (λ c. once c q))
      (lone-filter (λ (w : WaitingCall). w.client) (λ w. wait_object h w == q) (open_calls h)
      (lone-calls h follows)) (queue-below q) (calls-below (λ w. wait_object h w == q))
      (λ c. members-any (wait_object h) (waiter h) (open_calls h) queue m (λ v. v.client == c) q
      ∙ sym (any-filter (λ w. w.client == c) (λ w. wait_object h w == q) (open_calls h)))

  -- a barrier's queue has as many waiters as there are arrivals at the barrier
  pub counts-barrier : (b n : ℕ) → option_map class_of (kind_of h b) ≡ Some BarrierClass
      → n ≡ length (queue b) → n ≡ length (at_barrier b (open_calls h))
  counts-barrier b n e t =
      t ∙ (counts b ∙ ap length (
      filter-agree_on (λ w. wait_object h w == b) (λ w. is_barrier_wait w.role && (w.object == b))
      (open_calls h) (
      Each-from_in
      (λ w. (wait_object h w == b) ≡ (is_barrier_wait w.role && (w.object == b))) (open_calls h)
      (at-barrier h follows b e))))

  -- a condition's queue has as many waiters as there are waits there that were not moved
  pub counts-cond : (q n : ℕ) → kind_of h q ≡ Some kind.Cond → n ≡ length (queue q)
      → n ≡ length (filter (waits_at_cond h q) (open_calls h))
  counts-cond q n e t =
      t ∙ (counts q ∙ ap length (
      filter-agree_on (λ w. wait_object h w == q) (waits_at_cond h q) (open_calls h) (
      Each-from_in (λ w. (wait_object h w == q) ≡ waits_at_cond h q w) (open_calls h)
      (at-cond h follows q e))))

living_count-step : (h : History) (e : Entry) → living_count h ≤ max_clients → Step h e
    → living_count (h ▷ e) ≤ max_clients
living_count-step h _ le (joins p n lt) = omega (arith, lt)
living_count-step h _ le (dies c n a) = omega (arith, le)
living_count-step h _ le (calls c call n a o) = le
living_count-step h _ le (ticks k t n) = le
living_count-step h _ le (grants w s i g) = le
living_count-step h _ le (trips w s i t) = le
living_count-step h _ le (yields m s t) = le
living_count-step h _ le (expires w s i t) = le

-- no more clients live than the limit
pub living_count-most : (h : History) → Follows h → living_count h ≤ max_clients
living_count-most h f =
    by_steps (λ h. living_count h ≤ max_clients) (omega arith)
    (λ h e f le s. living_count-step h e le s)
    (λ h f le. le) h f

-- each row has one open call at most
opens-rows : (rows : List (ClientRow Caller)) → length (opens_of rows) ≤ length rows
opens-rows [] = omega arith
opens-rows (row ∷ rows) = go row.value.open (opens-rows rows)
  where
    go : (o : Option Open) → length (opens_of rows) ≤ length rows
        → length (cons_option o (opens_of rows)) ≤ suc (length rows)
    go None ih = omega (arith, ih)
    go (Some o) ih = omega (arith, ih)

-- no more calls are open than clients may live
pub open-most : (h : History) (rows : List (ClientRow Caller)) → Follows h → AreCallers h rows
    → (p : WaitingCall → Bool) (n : ℕ) → n ≡ length (filter p (open_calls h)) → n ≤ max_clients
open-most h rows f a p n e =
    omega (
      arith,
      e,
      filter-less p (open_calls h),
      sym (total-ones (open_calls h)),
      sym (total-calls h f rows a (λ w. 1) (λ o. 1) (λ o i move. refl)),
      total-ones (opens_of rows),
      opens-rows rows,
      a.many,
      living_count-most h f,
    )
