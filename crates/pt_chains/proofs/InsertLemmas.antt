-- What stays true of nodes and chains as a waiter is put in.
use Rattle.std.proofs.Common.{◌≡◌, ℕ, ◌==◌, ◌<◌, ◌≤◌, ◌+◌, ◌^◌, Bool, true, false, cond, ◌||◌, not}
use Rattle.std.proofs.Common.{List, [], ◌∷◌, ◌++◌, length, filter, Option, Some, is_some, inl, inr}
use Rattle.std.proofs.Common.{refl, sym, ap, ◌∙◌, arith, eq-eqb}
use Rattle.std.proofs.lemmas.Bool.Decides.{nat_tests}
use Rattle.std.proofs.lemmas.Bool.{false≢true}
use Rattle.pt_waitq.specs.declared.waiter.Waiter.{Waiter}
use Rattle.pt_chains.specs.declared.nodes.Node.{Node}
use Rattle.pt_chains.specs.declared.sides.Queue.{Queue}
use Rattle.pt_waitq.specs.Queues.{In}
use Rattle.pt_waitq.specs.QueueLemmas.{length-queue_from}
use Rattle.pt_waitq.specs.Waits.{is_listed, has_waiter, queue_of, IsOnce}
use Rattle.pt_waitq.specs.ListLemmas.{any-in, any-out, filter-none, filter-fewer}
use Rattle.pt_chains.specs.Chains.{numbers, first_entry, in_chain, chain_of, nodes_of}
use Rattle.pt_chains.specs.Chains.{node_index_of}
use Rattle.pt_chains.specs.Chains.{Unique, AreChains}
use Rattle.pt_chains.proofs.LinkLemmas.{listed_apart, eq_turned, eq_true}
use Rattle.pt_chains.proofs.ChainLemmas.{chain-member, listed-lookup, home-there}

pub filter-append : {X : Type 0} (p : X → Bool) (es : List X) (e : X)
    → filter p (es ++ e ∷ []) ≡ cond (p e) (filter p es ++ e ∷ []) (filter p es)
filter-append p [] e = refl
filter-append p (x ∷ es) e = go (p x) (p e) refl (filter-append p es e)
  where
    go : (a b : Bool) → p e ≡ b
        → filter p (es ++ e ∷ []) ≡ cond (p e) (filter p es ++ e ∷ []) (filter p es)
        → cond a (x ∷ filter p (es ++ e ∷ [])) (filter p (es ++ e ∷ []))
        ≡ cond (p e) (cond a (x ∷ filter p es) (filter p es) ++ e ∷ [])
        (cond a (x ∷ filter p es) (filter p es))
    go true true q ih =
        ap (λ ys. x ∷ ys) (ih ∙ ap (λ b. cond b (filter p es ++ e ∷ []) (filter p es)) q)
        ∙ sym (ap (λ b. cond b (x ∷ (filter p es ++ e ∷ [])) (x ∷ filter p es)) q)
    go true false q ih =
        ap (λ ys. x ∷ ys) (ih ∙ ap (λ b. cond b (filter p es ++ e ∷ []) (filter p es)) q)
        ∙ sym (ap (λ b. cond b (x ∷ (filter p es ++ e ∷ [])) (x ∷ filter p es)) q)
    go false b q ih = ih

-- the node of the client that is put in has the entry, and the other nodes keep theirs
pub own-inserted : (old new : ℕ → Option (ℕ × Waiter)) (o : ℕ) (w : Waiter) (es : List (ℕ × Waiter))
    → ((c : ℕ) → new c ≡ cond (w.client == c) (Some (o, w)) (old c))
    → ((c : ℕ) → old c ≡ first_entry (filter (λ e. e.1.client == c) es))
    → has_waiter w.client es ≡ false
    → (c : ℕ) → new c ≡ first_entry (filter (λ e. e.1.client == c) (es ++ (o, w) ∷ []))
own-inserted old new o w es h own none c =
    h c ∙ (go (w.client == c) refl
    ∙ sym (ap first_entry (filter-append (λ (e : ℕ × Waiter). e.1.client == c) es (o, w))))
  where
    mine : List (ℕ × Waiter)
    mine = filter (λ e. e.1.client == c) es

    go : (b : Bool) → (w.client == c) ≡ b
        → cond b (Some (o, w)) (old c) ≡ first_entry (cond b (mine ++ (o, w) ∷ []) mine)
    go true q =
        let same : w.client ≡ c = grind (arith, nat_tests) in
        let test = λ (e : ℕ × Waiter). e.1.client == c in
        let gone = filter-none test es (ap (λ n. has_waiter n es) (sym same) ∙ none) in
        sym (ap (λ xs. first_entry (xs ++ (o, w) ∷ [])) gone)
    go false q = own c

-- no node is in a chain twice
pub unique-chain : (f : ℕ → ℕ) (p : ℕ × Waiter → Bool) (es : List (ℕ × Waiter)) → IsOnce es
    → ((d e : ℕ × Waiter) → In d es → In e es → f d.1.client ≡ f e.1.client
    → d.1.client ≡ e.1.client)
    → Unique (nodes_of f (filter p es))
unique-chain f p [] a disjoint = tt
unique-chain f p (e ∷ es) a disjoint =
    go (p e) (unique-chain f p es a.1 (λ x y i j. disjoint x y (inr i) (inr j)))
  where
    out : (b : Bool) → is_listed (f e.1.client) (nodes_of f (filter p es)) ≡ b → b ≡ false
    out false h = refl
    out true h =
        let d = chain-member f p (f e.1.client) es h in
        let same = disjoint d.0 e (inr d.1) (inl refl) d.3 in
        let test = λ (x : ℕ × Waiter). x.1.client == e.1.client in
        absurd (false≢true (sym a.0
        ∙ any-in test es d.0 d.1 (eq-eqb d.0.1.client e.1.client same)))

    go : (b : Bool) → Unique (nodes_of f (filter p es))
        → Unique (nodes_of f (cond b (e ∷ filter p es) (filter p es)))
    go true ih = (out _ refl, ih)
    go false ih = ih

still : (m n : ℕ) (ks : List ℕ) → (n == m) ≡ false → is_listed m ks ≡ true
    → is_listed m (filter (λ x. not (x == n)) ks) ≡ true
still m n [] a h = absurd (false≢true h)
still m n (k ∷ ks) a h = go (k == n) (k == m) refl refl h (still m n ks a)
  where
    rest : List ℕ
    rest = filter (λ x. not (x == n)) ks

    go : (s t : Bool) → (k == n) ≡ s → (k == m) ≡ t → (t || is_listed m ks) ≡ true
        → (is_listed m ks ≡ true → is_listed m rest ≡ true)
        → is_listed m (cond (not s) (k ∷ rest) rest) ≡ true
    go true true p q h ih = absurd (grind (arith, nat_tests))
    go true false p q h ih = ih h
    go false true p q h ih = ap (λ b. b || is_listed m rest) q
    go false false p q h ih = ap (λ b. b || is_listed m rest) q ∙ ih h

-- a list without repetitions is no longer than one that has all its numbers
pub no-more : (ns ks : List ℕ) → Unique ns
    → ((n : ℕ) → is_listed n ns ≡ true → is_listed n ks ≡ true) → length ns ≤ length ks
no-more [] ks u f = omega arith
no-more (n ∷ ns) ks u f =
    let there = f n (rw (eq_true n n refl) refl) in
    let r = any-out (λ (x : ℕ). x == n) ks there in
    let fewer = filter-fewer (λ (x : ℕ). not (x == n)) ks r.0 r.1 (ap not r.2) in
    let rest = no-more ns (filter (λ x. not (x == n)) ks) u.1 (λ m i.
    still m n ks (eq_turned m n (listed_apart m n ns i u.0)) (f m (later m i (n == m)))) in
    omega (arith, fewer, rest)
  where
    later : (m : ℕ) → is_listed m ns ≡ true → (t : Bool) → (t || is_listed m ns) ≡ true
    later m i true = refl
    later m i false = i

listed-clients : (c : ℕ) (es : List (ℕ × Waiter))
    → is_listed c (nodes_of (λ n. n) es) ≡ has_waiter c es
listed-clients c [] = refl
listed-clients c (e ∷ es) = ap (λ b. (e.1.client == c) || b) (listed-clients c es)

unique-clients : (es : List (ℕ × Waiter)) → IsOnce es → Unique (nodes_of (λ n. n) es)
unique-clients [] a = tt
unique-clients (e ∷ es) a = (listed-clients e.1.client es ∙ a.0, unique-clients es a.1)

length-clients : (es : List (ℕ × Waiter)) → length (nodes_of (λ n. n) es) ≡ length es
length-clients [] = refl
length-clients (e ∷ es) = let h = length-clients es in omega (arith, h)

pub length-numbers : {X : Type 0} (es : List (ℕ × X)) → length (numbers es) ≡ length es
length-numbers [] = refl
length-numbers (e ∷ es) = let h = length-numbers es in omega (arith, h)

length-filter : {X : Type 0} (p : X → Bool) (es : List X) → length (filter p es) ≤ length es
length-filter p [] = omega arith
length-filter p (e ∷ es) = go (p e) (length-filter p es)
  where
    go : (b : Bool) → length (filter p es) ≤ length es
        → length (cond b (e ∷ filter p es) (filter p es)) ≤ length (e ∷ es)
    go true ih = omega (arith, ih)
    go false ih = omega (arith, ih)

length-nodes : (f : ℕ → ℕ) (es : List (ℕ × Waiter)) → length (nodes_of f es) ≡ length es
length-nodes f [] = refl
length-nodes f (e ∷ es) = let h = length-nodes f es in omega (arith, h)

-- there are at least as many nodes as waiters and one more client that has a node
module _ (homes : List (ℕ × ℕ)) (nodes : List (Option Node)) (queues : List (ℕ × Queue))
    (es : List (ℕ × Waiter)) (c n : ℕ) (a : AreChains homes nodes queues es)
    (at : node_index_of homes c ≡ Some n) (none : has_waiter c es ≡ false) where
  homed : (d m : ℕ) → node_index_of homes d ≡ Some m → is_listed d (numbers homes) ≡ true
  homed d m e = listed-lookup d homes ∙ ap is_some e

  all-homed : (m : ℕ) → is_listed m (c ∷ nodes_of (λ k. k) es) ≡ true
      → is_listed m (numbers homes) ≡ true
  all-homed m i = go (c == m) refl i
    where
      go : (b : Bool) → (c == m) ≡ b → (b || is_listed m (nodes_of (λ k. k) es)) ≡ true
          → is_listed m (numbers homes) ≡ true
      go true q h =
          let same : c ≡ m = grind (arith, nat_tests) in
          ap (λ k. is_listed k (numbers homes)) (sym same) ∙ homed c n at
      go false q h =
          let r = any-out (λ (x : ℕ × Waiter). x.1.client == m) es
          (sym (listed-clients m es) ∙ h) in
          let same : r.0.1.client ≡ m = grind (arith, nat_tests, r.2) in
          let d = home-there homes nodes queues es a r.0 r.1 in
          ap (λ k. is_listed k (numbers homes)) (sym same) ∙ homed r.0.1.client d.0 d.1

  pub waiters-few : length es + 1 ≤ length homes
  waiters-few =
      let most = no-more (c ∷ nodes_of (λ k. k) es) (numbers homes)
      (listed-clients c es ∙ none, unique-clients es a.queued.once) all-homed in
      omega (arith, most, length-clients es, length-numbers homes)

  room : length es + 1 < 2 ^ 32
  room = let bounded = a.homed.bounded in omega (arith, bounded, waiters-few)

  pub chain-room : (f : ℕ → ℕ) (o : ℕ) (k : Bool) (p : ℕ)
      → length (nodes_of f (chain_of o k p es)) + 1 < 2 ^ 32
  chain-room f o k p =
      omega (arith, room, length-nodes f (chain_of o k p es), length-filter (in_chain o k p) es)

  pub queue-room : (o : ℕ) → length (queue_of o es) + 1 < 2 ^ 64
  queue-room o =
      let most = length-queue_from [] o es in
      let bounded = room in
      omega (arith, bounded, most)

-- a chain to which the waiter does not belong, and its own
pub chain-other : (o' : ℕ) (k : Bool) (p : ℕ) (es : List (ℕ × Waiter)) (e : ℕ × Waiter)
    → in_chain o' k p e ≡ false → chain_of o' k p (es ++ e ∷ []) ≡ chain_of o' k p es
chain-other o' k p es e h =
    filter-append (in_chain o' k p) es e
    ∙ ap (λ b. cond b (chain_of o' k p es ++ e ∷ []) (chain_of o' k p es)) h

pub chain-own : (o : ℕ) (k : Bool) (p : ℕ) (es : List (ℕ × Waiter)) (e : ℕ × Waiter)
    → in_chain o k p e ≡ true → chain_of o k p (es ++ e ∷ []) ≡ chain_of o k p es ++ e ∷ []
chain-own o k p es e h =
    filter-append (in_chain o k p) es e
    ∙ ap (λ b. cond b (chain_of o k p es ++ e ∷ []) (chain_of o k p es)) h
