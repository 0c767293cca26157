-- A waiter is put in or taken out: from what the calls below promise to what is true of all.
use Rattle.std.proofs.Common.{◌≡◌, ℕ, ◌==◌, ◌<◌, ◌≤◌, ◌+◌, ◌^◌, Bool, true, false, cond, ◌&&◌, ◌||◌}
use Rattle.std.proofs.Common.{not, List, [], ◌∷◌, ◌++◌, filter, Option, Some, None, is_some}
use Rattle.std.proofs.Common.{unwrap_or, slice_index_or, nat_eq, refl, sym, ap, ◌∙◌, subst, arith}
use Rattle.std.specs.Prelude.{slice_index, IfSome, IsSome}
use Rattle.std.specs.Option.{option_and_then}
use Rattle.std.specs.Map.{lookup}
use Rattle.std.proofs.lemmas.Bool.Decides.{nat_tests}
use Rattle.std.proofs.lemmas.Bool.{false≢true}
use Rattle.pt_types.specs.Limits.{max_priority}
use Rattle.pt_waitq.specs.declared.waiter.Waiter.{Waiter}
use Rattle.pt_chains.specs.declared.nodes.Node.{Node}
use Rattle.pt_chains.specs.declared.sides.Queue.{Queue}
use Rattle.pt_waitq.specs.Queues.{In, HasLatestArrival}
use Rattle.pt_waitq.specs.Waits.{is_listed, has_waiter, queue_of, AllQueued}
use Rattle.pt_waitq.specs.ListLemmas.{any-append, any-without}
use Rattle.pt_chains.specs.Chains.{numbers, waiters_after, waiting_from, queued_waiters, first_in}
use Rattle.pt_chains.specs.Chains.{last_in}
use Rattle.pt_chains.specs.Chains.{is_at, side_of, Links, chain_of, in_chain, nodes_of, node_in}
use Rattle.pt_chains.specs.Chains.{next_in, before_in, entry_in, node_index_of, index_of}
use Rattle.pt_chains.specs.Chains.{entry_of_client}
use Rattle.pt_chains.specs.Chains.{AreNodeIndexes, AreChains, AreOwn, IsAppended, IsUnlinked}
use Rattle.pt_chains.specs.Chains.{client_of_node, entry_at}
use Rattle.pt_waitq.proofs.ChangeLemmas.{stand-in, stand-out}
use Rattle.pt_chains.proofs.LinkLemmas.{eq_true}
use Rattle.pt_chains.proofs.ChainLemmas.{chain-member, is-listed, listed-lookup, index-there}
use Rattle.pt_chains.proofs.ChainLemmas.{some_same}
use Rattle.pt_chains.proofs.InsertLemmas.{chain-room, queue-room}
use Rattle.pt_chains.proofs.PutLemmas.{chains-put}
use Rattle.pt_chains.proofs.TakeLemmas.{chains-taken, count-own, len-own, listed-own}

-- the waiters after one more call
waiting_from-more : (es : List (ℕ × Waiter)) (log : List (Option ℕ × Waiter))
    (a : Option ℕ × Waiter)
    → waiting_from es (log ++ a ∷ []) ≡ waiters_after (waiting_from es log) a.0 a.1
waiting_from-more es [] a = refl
waiting_from-more es (b ∷ log) a = waiting_from-more (waiters_after es b.0 b.1) log a

pub waiting-more : (log : List (Option ℕ × Waiter)) (a : Option ℕ × Waiter)
    → queued_waiters (log ++ a ∷ []) ≡ waiters_after (queued_waiters log) a.0 a.1
waiting-more log a = waiting_from-more [] log a

pub some-if : {X : Type 0} (P : X → Type 0) (o : Option X) → ((x : X) → o ≡ Some x → P x)
    → IfSome o P
some-if P None f = tt
some-if P (Some x) f = f x refl

-- the queues after one of them is changed
queues-changed : (queues queues' : List (ℕ × Queue)) (o : ℕ) (q1 : Queue)
    → ((x : ℕ) → (o == x) ≡ false → lookup (nat_eq x) queues' ≡ lookup (nat_eq x) queues)
    → lookup (nat_eq o) queues' ≡ Some q1
    → (x : ℕ) → lookup (nat_eq x) queues' ≡ cond (o == x) (Some q1) (lookup (nat_eq x) queues)
queues-changed queues queues' o q1 others at x = go (o == x) refl
  where
    go : (b : Bool) → (o == x) ≡ b
        → lookup (nat_eq x) queues' ≡ cond b (Some q1) (lookup (nat_eq x) queues)
    go true e =
        let same : x ≡ o = grind (arith, nat_tests) in
        ap (λ y. lookup (nat_eq y) queues') same ∙ at
    go false e = others x e

homed-still : (homes : List (ℕ × ℕ)) (nodes nodes' : List (Option Node))
    → ((m : ℕ) → is_some (node_in nodes' m) ≡ is_some (node_in nodes m))
    → AreOwn homes nodes' → AreNodeIndexes homes nodes → AreNodeIndexes homes nodes'
homed-still homes nodes nodes' there own a =
    record {
      there = λ c m h. there m ∙ a.there c m h;
      disjoint = a.disjoint;
      own = own;
      bounded = a.bounded;
    }

-- a node that is written again for its client
own-again : (homes : List (ℕ × ℕ)) (nodes nodes' : List (Option Node)) (n c : ℕ)
    → node_index_of homes c ≡ Some n
    → ((m : ℕ) → client_of_node nodes' m ≡ cond (n == m) (Some c) (client_of_node nodes m))
    → AreOwn homes nodes → AreOwn homes nodes'
own-again homes nodes nodes' n c home clients own m d e = go (n == m) refl (sym (clients m) ∙ e)
  where
    go : (b : Bool) → (n == m) ≡ b → cond b (Some c) (client_of_node nodes m) ≡ Some d
        → node_index_of homes d ≡ Some m
    go true q h =
        let same : n ≡ m = grind (arith, nat_tests) in
        ap (node_index_of homes) (sym (some_same c d h)) ∙ (home ∙ ap (λ k. Some k) same)
    go false q h = own m d h

later : (t b : Bool) → b ≡ true → (t || b) ≡ true
later true b e = refl
later false b e = e

-- what is true of each node of a chain is true of its last, and of the nodes next to one
last-if : (P : ℕ → Type 0) (b : Option ℕ) (ns : List ℕ) → IfSome b P
    → ((m : ℕ) → is_listed m ns ≡ true → P m) → IfSome (last_in b ns) P
last-if P b [] h f = h
last-if P b (n ∷ ns) h f =
    last-if P (Some n) ns (f n (ap (λ t. t || is_listed n ns) (eq_true n n refl)))
    (λ m i. f m (later (n == m) (is_listed m ns) i))

first-if : (P : ℕ → Type 0) (ns : List ℕ) → ((m : ℕ) → is_listed m ns ≡ true → P m)
    → IfSome (first_in ns) P
first-if P [] f = tt
first-if P (n ∷ ns) f = f n (ap (λ t. t || is_listed n ns) (eq_true n n refl))

beside-if : (P : ℕ → Type 0) (nx bf : ℕ → Option ℕ) (n : ℕ) (b : Option ℕ) (ns : List ℕ)
    → Links nx bf b ns → is_listed n ns ≡ true → IfSome b P
    → ((m : ℕ) → is_listed m ns ≡ true → P m) → IfSome (bf n) P × IfSome (nx n) P
beside-if P nx bf n b [] l i h f = absurd (false≢true i)
beside-if P nx bf n b (k ∷ ks) l i h f =
    go (k == n) refl i (λ j.
    beside-if P nx bf n (Some k) ks l.2 j (f k (ap (λ t. t || is_listed k ks) (eq_true k k refl)))
    (λ m i. f m (later (k == m) (is_listed m ks) i)))
  where
    go : (t : Bool) → (k == n) ≡ t → (t || is_listed n ks) ≡ true
        → (is_listed n ks ≡ true → IfSome (bf n) P × IfSome (nx n) P)
        → IfSome (bf n) P × IfSome (nx n) P
    go true e i ih =
        let same : k ≡ n = grind (arith, nat_tests) in (
          subst (λ o. IfSome o P) (sym (ap bf (sym same) ∙ l.0)) h,
          subst (λ o. IfSome o P) (sym (ap nx (sym same) ∙ l.1))
              (first-if P ks (λ m i. f m (later (k == m) (is_listed m ks) i))),
        )
    go false e i ih = ih i

module _ (homes : List (ℕ × ℕ)) (nodes : List (Option Node)) (queues : List (ℕ × Queue))
    (es : List (ℕ × Waiter)) (a : AreChains homes nodes queues es) where
  -- the nodes of a chain exist
  chain-there : (o : ℕ) (k : Bool) (p m : ℕ)
      → is_listed m (nodes_of (index_of homes) (chain_of o k p es)) ≡ true
      → IsSome (node_in nodes m)
  chain-there o k p m i =
      let d = chain-member (index_of homes) (in_chain o k p) m es i in
      a.homed.there d.0.1.client m
      (index-there homes nodes queues es a d.0 d.1 ∙ ap (λ x. Some x) d.3)

  -- there is room for one more waiter
  pub room-there : (o c n : ℕ) (k : Bool) (p : ℕ) → p < max_priority
      → node_index_of homes c ≡ Some n → has_waiter c es ≡ false
      → IfSome (lookup (nat_eq o) queues) (λ q. slice_index (side_of k q).counts p + 1 < 2 ^ 32)
  room-there o c n k p lt at none =
      some-if (λ (q : Queue). slice_index (side_of k q).counts p + 1 < 2 ^ 32)
      (lookup (nat_eq o) queues) (λ q h.
      let chain = a.chains o q h k p lt in
      let count = chain.count in
      let room = chain-room homes nodes queues es c n a at none (index_of homes) o k (p + 1) in
      omega (arith, count, room))

  pub len-there : (o c n : ℕ) → node_index_of homes c ≡ Some n → has_waiter c es ≡ false
      → IfSome (lookup (nat_eq o) queues) (λ q. q.len + 1 < 2 ^ 64)
  len-there o c n at none =
      some-if (λ (q : Queue). q.len + 1 < 2 ^ 64) (lookup (nat_eq o) queues) (λ q h.
      let len = a.len o q h in
      let room = queue-room homes nodes queues es c n a at none o in
      omega (arith, len, room))

  -- the tail of a chain exists
  pub tail-there : (o : ℕ) (q : Queue) (k : Bool) (p : ℕ) (last : Option ℕ) → p < max_priority
      → lookup (nat_eq o) queues ≡ Some q → last ≡ slice_index_or (side_of k q).tails p None
      → IfSome last (λ l. IsSome (node_in nodes l))
  tail-there o q k p last lt at is =
      let chain = a.chains o q at k p lt in
      subst (λ l. IfSome l (λ m. IsSome (node_in nodes m))) (sym (is ∙ chain.tail))
      (last-if (λ m. IsSome (node_in nodes m)) None
      (nodes_of (index_of homes) (chain_of o k (p + 1) es)) tt (chain-there o k (p + 1)))

-- one more waiter is put in
module _ (homes : List (ℕ × ℕ)) (nodes nodes' : List (Option Node))
    (queues queues' : List (ℕ × Queue)) (es : List (ℕ × Waiter)) (o p n : ℕ) (w : Waiter)
    (last : Option ℕ) (a : AreChains homes nodes queues es)
    (none : has_waiter w.client es ≡ false) (home : node_index_of homes w.client ≡ Some n)
    (level : p + 1 ≡ w.prio) (within : p < max_priority)
    (is_queue : is_listed o (numbers queues) ≡ true)
    (same : numbers queues' ≡ numbers queues)
    (others : (x : ℕ) → (o == x) ≡ false
    → lookup (nat_eq x) queues' ≡ lookup (nat_eq x) queues)
    (put : (old new : Queue) → lookup (nat_eq o) queues ≡ Some old
    → lookup (nat_eq o) queues' ≡ Some new → IsAppended w.writer p n last old new) where
  pub put-stand : AllQueued (numbers queues') (es ++ (o, w) ∷ [])
  put-stand =
      subst (λ os. AllQueued os (es ++ (o, w) ∷ [])) (sym same)
      (stand-in (numbers queues) es (es ++ (o, w) ∷ []) (o, w) a.queued is_queue none refl)

  new-queue : (q : Queue) × (lookup (nat_eq o) queues' ≡ Some q)
  new-queue = is-listed queues' o (ap (is_listed o) same ∙ is_queue)

  pub last-there : IfSome last (λ l. IsSome (node_in nodes l))
  last-there =
      let old = is-listed queues o is_queue in
      let new = new-queue in
      tail-there homes nodes queues es a o old.0 w.writer p last within old.1
      (put old.0 new.0 old.1 new.1).last

  pub step-put : ((m : ℕ) → is_some (node_in nodes' m) ≡ is_some (node_in nodes m))
      → ((c : ℕ) → next_in nodes' c
      ≡ cond (n == c) None (cond (is_at c last) (Some n) (next_in nodes c)))
      → ((c : ℕ) → before_in nodes' c ≡ cond (n == c) last (before_in nodes c))
      → ((c : ℕ) → entry_in nodes' c ≡ cond (n == c) (Some (o, w)) (entry_in nodes c))
      → ((c : ℕ) → client_of_node nodes' c ≡ cond (n == c) (Some w.client) (client_of_node nodes c))
      → HasLatestArrival w (queue_of o es) → AreChains homes nodes' queues' (es ++ (o, w) ∷ [])
  step-put there next before entries clients latest =
      let old = is-listed queues o is_queue in
      let new = new-queue in
      let low : 1 ≤ w.prio = omega (arith, level) in
      let high : w.prio ≤ max_priority = omega (arith, level, within) in
      chains-put homes nodes nodes' queues queues' es o p n w last old.0 new.0 a none home
      (ap (λ x. unwrap_or x 0) home) level within old.1
      (queues-changed queues queues' o new.0 others new.1) (put old.0 new.0 old.1 new.1) next
      before (low, high) put-stand entries
      (homed-still homes nodes nodes' there
      (own-again homes nodes nodes' n w.client home clients a.homed.own) a.homed)
      latest

-- a waiter is taken out
module _ (homes : List (ℕ × ℕ)) (nodes nodes' : List (Option Node))
    (queues queues' : List (ℕ × Queue)) (es : List (ℕ × Waiter)) (o p n : ℕ) (w : Waiter)
    (next before : Option ℕ) (a : AreChains homes nodes queues es) (in_es : In (o, w) es)
    (home : node_index_of homes w.client ≡ Some n)
    (is : node_in nodes n
    ≡ Some (record { object = Some o; waiter = w; next = next; before = before }))
    (level : p + 1 ≡ w.prio) (within : p < max_priority)
    (is_queue : is_listed o (numbers queues) ≡ true) where
  abbrev node : Node
  node = record { object = Some o; waiter = w; next = next; before = before }

  pub stands-there : IfSome (lookup (nat_eq o) queues) (λ q.
      1 ≤ slice_index (side_of w.writer q).counts p)
  stands-there =
      some-if (λ (q : Queue). 1 ≤ slice_index (side_of w.writer q).counts p)
      (lookup (nat_eq o) queues)
      (λ q h.
      count-own homes nodes nodes' queues queues' es o p n w node q q a in_es home is level within
      h)

  pub len-stands : IfSome (lookup (nat_eq o) queues) (λ q. 1 ≤ q.len)
  len-stands =
      some-if (λ (q : Queue). 1 ≤ q.len) (lookup (nat_eq o) queues)
      (λ q h.
      len-own homes nodes nodes' queues queues' es o p n w node q q a in_es home is level within h)

  pub beside-there : IfSome before (λ m. IsSome (node_in nodes m))
      × IfSome next (λ m. IsSome (node_in nodes m))
  beside-there =
      let q = is-listed queues o is_queue in
      let chain = a.chains o q.0 q.1 w.writer p within in
      let own = listed-own homes nodes nodes' queues queues' es o p n w node q.0 q.0 a in_es home
      is level within q.1 in
      let r = beside-if (λ m. IsSome (node_in nodes m)) (next_in nodes) (before_in nodes) n None
      (nodes_of (index_of homes) (chain_of o w.writer (p + 1) es)) chain.links own tt
      (chain-there homes nodes queues es a o w.writer (p + 1)) in (
        subst (λ x. IfSome x (λ m. IsSome (node_in nodes m)))
            (ap (option_and_then (λ (y : Node). y.before)) is) r.0,
        subst (λ x. IfSome x (λ m. IsSome (node_in nodes m)))
            (ap (option_and_then (λ (y : Node). y.next)) is) r.1,
      )

  module _ (same : numbers queues' ≡ numbers queues)
      (others : (x : ℕ) → (o == x) ≡ false
      → lookup (nat_eq x) queues' ≡ lookup (nat_eq x) queues)
      (taken : (old new : Queue) → lookup (nat_eq o) queues ≡ Some old
      → lookup (nat_eq o) queues' ≡ Some new → IsUnlinked w.writer p before next old new) where
    pub take-stand : AllQueued (numbers queues') (filter (λ e. not (e.1.client == w.client)) es)
    take-stand =
        subst (λ os. AllQueued os (filter (λ e. not (e.1.client == w.client)) es)) (sym same)
        (stand-out (numbers queues) es (filter (λ e. not (e.1.client == w.client)) es)
        (λ e. not (e.1.client == w.client)) a.queued refl)

    pub step-take : ((m : ℕ) → is_some (node_in nodes' m) ≡ is_some (node_in nodes m))
        → ((c : ℕ) → next_in nodes' c
        ≡ cond (n == c) None (cond (is_at c before) next (next_in nodes c)))
        → ((c : ℕ) → before_in nodes' c
        ≡ cond (n == c) None (cond (is_at c next) before (before_in nodes c)))
        → ((c : ℕ) → entry_in nodes' c ≡ cond (n == c) None (entry_in nodes c))
        → ((c : ℕ) → client_of_node nodes' c ≡ client_of_node nodes c)
        → AreChains homes nodes' queues' (filter (λ e. not (e.1.client == w.client)) es)
    step-take there nexts befores entries clients =
        let old = is-listed queues o is_queue in
        let new = is-listed queues' o (ap (is_listed o) same ∙ is_queue) in
        chains-taken homes nodes nodes' queues queues' es o p n w node old.0 new.0 a in_es home is
        level within old.1 (queues-changed queues queues' o new.0 others new.1)
        (taken old.0 new.0 old.1 new.1) nexts befores take-stand entries
        (homed-still homes nodes nodes' there
        (λ m c e. a.homed.own m c (sym (clients m) ∙ e)) a.homed)

-- the clients that are admitted, as waiters are put in and taken out
pub put-admits : (hs : List ℕ) (es : List (ℕ × Waiter)) (e : ℕ × Waiter) (d : ℕ)
    → is_listed e.1.client hs ≡ true
    → (is_listed d hs || has_waiter d (es ++ e ∷ [])) ≡ (is_listed d hs || has_waiter d es)
put-admits hs es e d h =
    ap (λ b. is_listed d hs || b) (any-append (λ (x : ℕ × Waiter). x.1.client == d) es (e ∷ []))
    ∙ go (e.1.client == d) (is_listed d hs) (has_waiter d es) refl refl
  where
    go : (b x y : Bool) → (e.1.client == d) ≡ b → is_listed d hs ≡ x
        → (x || (y || (b || false))) ≡ (x || y)
    go true x y q k =
        let same : e.1.client ≡ d = grind (arith, nat_tests) in
        let yes : x ≡ true = sym k ∙ (ap (λ n. is_listed n hs) (sym same) ∙ h) in
        rw yes refl
    go false true y q k = refl
    go false false true q k = refl
    go false false false q k = refl

pub take-admits : (hs : List ℕ) (es : List (ℕ × Waiter)) (c d : ℕ) → is_listed c hs ≡ true
    → (is_listed d hs || has_waiter d (filter (λ e. not (e.1.client == c)) es))
    ≡ (is_listed d hs || has_waiter d es)
take-admits hs es c d h =
    ap (λ b. is_listed d hs || b) (any-without (λ (x : ℕ × Waiter). x.1.client) c d es)
    ∙ go (c == d) (is_listed d hs) (has_waiter d es) refl refl
  where
    go : (b x y : Bool) → (c == d) ≡ b → is_listed d hs ≡ x → (x || (not b && y)) ≡ (x || y)
    go true x y q k =
        let same : c ≡ d = grind (arith, nat_tests) in
        let yes : x ≡ true = sym k ∙ (ap (λ n. is_listed n hs) (sym same) ∙ h) in
        rw yes refl
    go false x y q k = refl

-- the entry of a client is that of its node
pub place-entry : (homes : List (ℕ × ℕ)) (nodes : List (Option Node)) (c n : ℕ) (its : Node)
    → node_index_of homes c ≡ Some n → node_in nodes n ≡ Some its
    → entry_of_client homes nodes c ≡ entry_at its
place-entry homes nodes c n its h k =
    ap (option_and_then (entry_in nodes)) h ∙ ap (option_and_then entry_at) k

pub home-listed : (homes : List (ℕ × ℕ)) (c n : ℕ) → node_index_of homes c ≡ Some n
    → is_listed c (numbers homes) ≡ true
home-listed homes c n h = listed-lookup c homes ∙ ap is_some h
