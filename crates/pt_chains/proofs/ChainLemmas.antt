-- What nodes and the ends of chains say of the queues.
use Rattle.std.proofs.Common.{◌≡◌, ℕ, ◌==◌, ◌+◌, Bool, true, false, cond, ◌||◌, List, [], ◌∷◌}
use Rattle.std.proofs.Common.{length, filter, Option, Some, None, is_some, unwrap_or, nat_eq, inl}
use Rattle.std.proofs.Common.{inr, refl, sym, ap, ◌∙◌, subst, arith, eq-eqb}
use Rattle.std.specs.Prelude.{IfSome, IfNone}
use Rattle.std.specs.Option.{option_map, option_and_then}
use Rattle.std.specs.Map.{lookup}
use Rattle.std.specs.List.{AllByRecursion as Each, list_any}
use Rattle.std.proofs.lemmas.Bool.Decides.{nat_tests}
use Rattle.std.proofs.lemmas.Bool.{false≢true}
use Rattle.pt_waitq.specs.declared.waiter.Waiter.{Waiter}
use Rattle.pt_chains.specs.declared.nodes.Node.{Node}
use Rattle.pt_chains.specs.declared.sides.Queue.{Queue}
use Rattle.pt_waitq.specs.Queues.{In}
use Rattle.pt_waitq.specs.Waits.{is_listed, has_waiter, queue_of}
use Rattle.pt_waitq.specs.ListLemmas.{any-in, In-filter}
use Rattle.pt_chains.specs.Chains.{numbers, first_entry, side_of, IsChain, in_chain, nodes_of}
use Rattle.pt_chains.specs.Chains.{node_in, next_in, before_in, entry_in, node_index_of, index_of}
use Rattle.pt_chains.specs.Chains.{entry_of_client, AreNodeIndexes, AreChains}
use Rattle.pt_chains.proofs.EndLemmas.{chain-kept}

none_first : (es : List (ℕ × Waiter)) → None ≡ first_entry es → es ≡ []
none_first [] e = refl
none_first (x ∷ es) e = cc

some_first : (es : List (ℕ × Waiter)) (e : ℕ × Waiter) → Some e ≡ first_entry es → In e es
some_first [] e h = cc
some_first (x ∷ es) e h = inl cc

pub some_same : {X : Type 0} (x y : X) → Some x ≡ Some y → x ≡ y
some_same x y e = cc

any-none : {X : Type 0} (p : X → Bool) (xs : List X) → filter p xs ≡ [] → list_any p xs ≡ false
any-none p [] h = refl
any-none p (x ∷ xs) h = go (p x) (any-none p xs) h
  where
    go : (b : Bool) → (filter p xs ≡ [] → list_any p xs ≡ false)
        → cond b (x ∷ filter p xs) (filter p xs) ≡ [] → (b || list_any p xs) ≡ false
    go true ih h = cc
    go false ih h = ih h

-- the entry that is found for a client is one of its own
pub entry-there : (c : ℕ) (es : List (ℕ × Waiter)) (o : Option (ℕ × Waiter))
    → o ≡ first_entry (filter (λ e. e.1.client == c) es)
    → IfSome o (λ e. In e es × (e.1.client ≡ c))
entry-there c es None h = tt
entry-there c es (Some e) h =
    let r = In-filter (λ (x : ℕ × Waiter). x.1.client == c) es e (some_first _ e h) in
    (r.0, grind (arith, nat_tests, r.1))

pub entry-nowhere : (c : ℕ) (es : List (ℕ × Waiter)) (o : Option (ℕ × Waiter))
    → o ≡ first_entry (filter (λ e. e.1.client == c) es)
    → IfNone o (has_waiter c es ≡ false)
entry-nowhere c es None h = any-none (λ (x : ℕ × Waiter). x.1.client == c) es (none_first _ h)
entry-nowhere c es (Some e) h = tt

eq_turned_true : (m n : ℕ) → (m == n) ≡ true → (n == m) ≡ true
eq_turned_true m n h = grind (arith, nat_tests)

-- whether a key is listed
pub listed-lookup : {X : Type 0} (c : ℕ) (es : List (ℕ × X))
    → is_listed c (numbers es) ≡ is_some (lookup (nat_eq c) es)
listed-lookup c [] = refl
listed-lookup c (e ∷ es) = go (e.0 == c) (nat_eq c e.0) refl refl (listed-lookup c es)
  where
    go : (a b : Bool) → (e.0 == c) ≡ a → nat_eq c e.0 ≡ b
        → is_listed c (numbers es) ≡ is_some (lookup (nat_eq c) es)
        → (a || is_listed c (numbers es)) ≡ is_some (cond b (Some e.1) (lookup (nat_eq c) es))
    go true true p q ih = refl
    go true false p q ih = absurd (false≢true (sym q ∙ eq_turned_true e.0 c p))
    go false true p q ih = absurd (false≢true (sym p ∙ eq_turned_true c e.0 q))
    go false false p q ih = ih

-- a key that isn't listed has no value, and one that is has one
pub not-listed : {X : Type 0} (es : List (ℕ × X)) (c : ℕ) → is_listed c (numbers es) ≡ false
    → lookup (nat_eq c) es ≡ None
not-listed {X} es c h = go (lookup (nat_eq c) es) refl
  where
    go : (f : Option X) → lookup (nat_eq c) es ≡ f → f ≡ None
    go None e = refl
    go (Some x) e = absurd (false≢true (sym h ∙ (listed-lookup c es ∙ ap is_some e)))

pub is-listed : {X : Type 0} (es : List (ℕ × X)) (c : ℕ) → is_listed c (numbers es) ≡ true
    → (x : X) × (lookup (nat_eq c) es ≡ Some x)
is-listed {X} es c h = go (lookup (nat_eq c) es) refl
  where
    go : (f : Option X) → lookup (nat_eq c) es ≡ f → (x : X) × (lookup (nat_eq c) es ≡ Some x)
    go (Some x) e = (x, e)
    go None e = absurd (false≢true (sym (ap is_some e) ∙ (sym (listed-lookup c es) ∙ h)))

-- a queue that does not exist has no entry
pub unmade-none : (o : ℕ) (os : List ℕ) (es : List (ℕ × Waiter))
    → Each (λ e. is_listed e.0 os ≡ true) es → is_listed o os ≡ false
    → Each (λ e. (e.0 == o) ≡ false) es
unmade-none o os [] a n = tt
unmade-none o os (e ∷ es) a n = (go (e.0 == o) refl, unmade-none o os es a.1 n)
  where
    go : (b : Bool) → (e.0 == o) ≡ b → b ≡ false
    go false h = refl
    go true h =
        let same : e.0 ≡ o = grind (arith, nat_tests) in
        absurd (false≢true (sym n ∙ (ap (λ x. is_listed x os) (sym same) ∙ a.0)))

pub queue-none : (o : ℕ) (es : List (ℕ × Waiter)) → Each (λ e. (e.0 == o) ≡ false) es
    → queue_of o es ≡ []
queue-none o [] a = refl
queue-none o (e ∷ es) a = rw a.0 (queue-none o es a.1)

-- the waiter to which a listed node belongs
pub chain-member : (f : ℕ → ℕ) (p : ℕ × Waiter → Bool) (m : ℕ) (es : List (ℕ × Waiter))
    → is_listed m (nodes_of f (filter p es)) ≡ true
    → (d : ℕ × Waiter) × In d es × (p d ≡ true) × (f d.1.client ≡ m)
chain-member f p m [] h = absurd (false≢true h)
chain-member f p m (e ∷ es) h =
    go (p e) (f e.1.client == m) refl refl (chain-member f p m es) h
  where
    go : (a b : Bool) → p e ≡ a → (f e.1.client == m) ≡ b
        → (is_listed m (nodes_of f (filter p es)) ≡ true
        → (d : ℕ × Waiter) × In d es × (p d ≡ true) × (f d.1.client ≡ m))
        → is_listed m (nodes_of f (cond a (e ∷ filter p es) (filter p es))) ≡ true
        → (d : ℕ × Waiter) × In d (e ∷ es) × (p d ≡ true) × (f d.1.client ≡ m)
    go true true q s ih h = (e, inl refl, q, grind (arith, nat_tests))
    go true false q s ih h =
        let r = ih (sym (ap (λ t. t || is_listed m (nodes_of f (filter p es))) s) ∙ h) in
        (r.0, inr r.1, r.2, r.3)
    go false b q s ih h = let r = ih h in (r.0, inr r.1, r.2, r.3)

module _ (homes : List (ℕ × ℕ)) (nodes : List (Option Node)) (queues : List (ℕ × Queue))
    (es : List (ℕ × Waiter)) (a : AreChains homes nodes queues es) where
  pub len-told : (o n : ℕ) → n ≡ unwrap_or (option_map (λ q. q.len) (lookup (nat_eq o) queues)) 0
      → n ≡ length (queue_of o es)
  len-told o n h = h ∙ go (lookup (nat_eq o) queues) refl
    where
      go : (f : Option Queue) → lookup (nat_eq o) queues ≡ f
          → unwrap_or (option_map (λ q. q.len) f) 0 ≡ length (queue_of o es)
      go (Some q) e = a.len o q e
      go None e =
          let out = listed-lookup o queues ∙ ap is_some e in
          sym (ap length (queue-none o es (unmade-none o (numbers queues) es a.queued.is_queue out)))

  -- a client that waits has a node
  pub home-there : (d : ℕ × Waiter) → In d es
      → (n : ℕ) × (node_index_of homes d.1.client ≡ Some n)
  home-there d i = go (node_index_of homes d.1.client) refl
    where
      go : (o : Option ℕ) → node_index_of homes d.1.client ≡ o
          → (n : ℕ) × (node_index_of homes d.1.client ≡ Some n)
      go (Some n) e = (n, e)
      go None e =
          let test = λ (x : ℕ × Waiter). x.1.client == d.1.client in
          let none = sym (ap (option_and_then (entry_in nodes)) e) ∙ a.own d.1.client in
          let gone = any-none test es (none_first _ none) in
          let own : (d.1.client == d.1.client) ≡ true = eq-eqb d.1.client d.1.client refl in
          absurd (false≢true (sym gone ∙ any-in test es d i own))

  pub index-there : (d : ℕ × Waiter) → In d es
      → node_index_of homes d.1.client ≡ Some (index_of homes d.1.client)
  index-there d i =
      let r = home-there d i in r.1 ∙ sym (ap (λ o. Some (unwrap_or o 0)) r.1)

  -- different waiters have different nodes
  pub index-apart : (d e : ℕ × Waiter) → In d es → In e es
      → index_of homes d.1.client ≡ index_of homes e.1.client → d.1.client ≡ e.1.client
  index-apart d e i j h =
      a.homed.disjoint d.1.client e.1.client (index_of homes d.1.client) (index-there d i)
      (index-there e j ∙ ap (λ n. Some n) (sym h))

  -- the node of a client that does not wait is not that of a waiter
  pub index-fresh : (c n : ℕ) → node_index_of homes c ≡ Some n → has_waiter c es ≡ false
      → (d : ℕ × Waiter) → In d es → (n == index_of homes d.1.client) ≡ false
  index-fresh c n at none d i = go (n == index_of homes d.1.client) refl
    where
      go : (b : Bool) → (n == index_of homes d.1.client) ≡ b → b ≡ false
      go false e = refl
      go true e =
          let same : n ≡ index_of homes d.1.client = grind (arith, nat_tests) in
          let one = a.homed.disjoint c d.1.client n at
          (index-there d i ∙ ap (λ m. Some m) (sym same)) in
          let test = λ (x : ℕ × Waiter). x.1.client == c in
          absurd (false≢true (sym none ∙ any-in test es d i (eq-eqb d.1.client c (sym one))))

nodes-agree : (f g : ℕ → ℕ) (p : ℕ × Waiter → Bool) (es : List (ℕ × Waiter))
    → ((d : ℕ × Waiter) → In d es → g d.1.client ≡ f d.1.client)
    → nodes_of g (filter p es) ≡ nodes_of f (filter p es)
nodes-agree f g p [] h = refl
nodes-agree f g p (e ∷ es) h = go (p e) (nodes-agree f g p es (λ d i. h d (inr i)))
  where
    go : (b : Bool) → nodes_of g (filter p es) ≡ nodes_of f (filter p es)
        → nodes_of g (cond b (e ∷ filter p es) (filter p es))
        ≡ nodes_of f (cond b (e ∷ filter p es) (filter p es))
    go true ih =
        ap (λ n. n ∷ nodes_of g (filter p es)) (h e (inl refl))
        ∙ ap (λ ns. f e.1.client ∷ ns) ih
    go false ih = ih

-- the same queues and waiters, if each waiter keeps its node
module _ (homes homes' : List (ℕ × ℕ)) (nodes nodes' : List (Option Node))
    (queues : List (ℕ × Queue)) (es : List (ℕ × Waiter))
    (kept : (d : ℕ × Waiter) → In d es
    → node_index_of homes' d.1.client ≡ node_index_of homes d.1.client)
    (same : (d : ℕ × Waiter) → In d es → (n : ℕ) → node_index_of homes d.1.client ≡ Some n
    → node_in nodes' n ≡ node_in nodes n)
    (own : (c : ℕ) → entry_of_client homes' nodes' c ≡ entry_of_client homes nodes c)
    (homed : AreNodeIndexes homes' nodes') (a : AreChains homes nodes queues es) where
  node_kept : (p : ℕ × Waiter → Bool) (m : ℕ)
      → is_listed m (nodes_of (index_of homes) (filter p es)) ≡ true
      → node_in nodes' m ≡ node_in nodes m
  node_kept p m i =
      let d = chain-member (index_of homes) p m es i in
      subst (λ k. node_in nodes' k ≡ node_in nodes k) d.3
      (same d.0 d.1 (index_of homes d.0.1.client) (index-there homes nodes queues es a d.0 d.1))

  pub chains-agree : AreChains homes' nodes' queues es
  chains-agree =
      record {
        queued = a.queued;
        homed = homed;
        own = λ c. own c ∙ a.own c;
        levels = a.levels;
        len = a.len;
        sorted = a.sorted;
        chains = λ o q h k p lt.
            subst (λ ns. IsChain (next_in nodes') (before_in nodes') (side_of k q) p ns)
            (sym (nodes-agree (index_of homes) (index_of homes') (in_chain o k (p + 1)) es
            (λ d i. ap (λ x. unwrap_or x 0) (kept d i))))
            (chain-kept (next_in nodes) (before_in nodes) (next_in nodes') (before_in nodes')
            (side_of k q) (side_of k q) p _ refl refl refl
            (λ m i. (
              ap (option_and_then (λ (x : Node). x.next)) (node_kept (in_chain o k (p + 1)) m i),
              ap (option_and_then (λ (x : Node). x.before)) (node_kept (in_chain o k (p + 1)) m i),
            ))
            (a.chains o q h k p lt));
      }
