-- The first of a queue and its writers, found by the counts of its chains.
use Rattle.std.proofs.Common.{◌≡◌, ◌≢◌, ℕ, ◌==◌, nat_lt, nat_le, ◌<◌, ◌≤◌, ◌+◌, ◌-◌, Bool, true}
use Rattle.std.proofs.Common.{false, cond, ◌&&◌, ◌||◌, List, [], ◌∷◌, map, length, filter, Option}
use Rattle.std.proofs.Common.{Some, None, is_some, slice_index_or, nat_eq, inl, inr, refl, sym, ap}
use Rattle.std.proofs.Common.{◌∙◌, arith, eq-eqb, subst}
use Rattle.std.specs.Prelude.{slice_index, IsTrue, IfSome, IsSome, ◌↔◌}
use Rattle.std.specs.Option.{option_map, option_and_then}
use Rattle.std.specs.Map.{lookup}
use Rattle.std.specs.List.{AllByRecursion as Each, list_any}
use Rattle.std.proofs.lemmas.Bool.Decides.{nat_tests}
use Rattle.std.proofs.lemmas.Bool.{false≢true, and_parts}
use Rattle.std.proofs.lemmas.List.{length-map}
use Rattle.pt_types.specs.KeyOrder.{kind_rank}
use Rattle.pt_types.specs.Limits.{max_priority}
use Rattle.pt_waitq.specs.declared.waiter.Waiter.{Waiter}
use Rattle.pt_chains.specs.declared.nodes.Node.{Node}
use Rattle.pt_chains.specs.declared.sides.Queue.{Queue}
use Rattle.pt_waitq.specs.Queues.{In, head_of, first_writer_of, blocks_readers_from}
use Rattle.pt_waitq.specs.Waits.{queue_of}
use Rattle.pt_waitq.specs.ListLemmas.{Each-in, any-in, any-out, In-filter, filter-none}
use Rattle.pt_waitq.specs.OrderLemmas.{filter-in-order}
use Rattle.pt_waitq.specs.QueueLemmas.{any-queue_of, queue_of-in-order}
use Rattle.pt_waitq.specs.WaitingLemmas.{one_entry}
use Rattle.pt_chains.specs.Chains.{numbers, first_entry, first_in, side_of, is_kind, chain_of}
use Rattle.pt_chains.specs.Chains.{in_chain, nodes_of, entry_in, index_of, AreChains, HasNoWaiter}
use Rattle.pt_chains.specs.Chains.{IsFirst, IsFirstWriter, IsFirstChain, HasWriterFrom}
use Rattle.pt_waitq.proofs.MemberLemmas.{filter-in}
use Rattle.pt_chains.proofs.SortedLemmas.{kind-of}
use Rattle.pt_chains.proofs.HeadLemmas.{goes_ahead, top-head, queue-head}
use Rattle.pt_chains.proofs.ChainLemmas.{entry-there, listed-lookup, unmade-none, queue-none}
use Rattle.pt_chains.proofs.ChainLemmas.{index-there}

any-each : {X : Type 0} (p : X → Bool) (xs : List X) → list_any p xs ≡ false
    → Each (λ x. p x ≡ false) xs
any-each p [] h = tt
any-each p (x ∷ xs) h = go (p x) refl h (any-each p xs)
  where
    go : (b : Bool) → p x ≡ b → (b || list_any p xs) ≡ false
        → (list_any p xs ≡ false → Each (λ y. p y ≡ false) xs)
        → (p x ≡ false) × Each (λ y. p y ≡ false) xs
    go true e h ih = absurd (false≢true (sym h))
    go false e h ih = (e, ih h)

Each-passed : {X : Type 0} (t g : X → Bool) (xs : List X) → Each (λ x. (t x && g x) ≡ false) xs
    → Each (λ x. g x ≡ false) (filter t xs)
Each-passed t g [] a = tt
Each-passed t g (x ∷ xs) a = go (t x) refl a.0 (Each-passed t g xs a.1)
  where
    go : (b : Bool) → t x ≡ b → (t x && g x) ≡ false → Each (λ y. g y ≡ false) (filter t xs)
        → Each (λ y. g y ≡ false) (cond b (x ∷ filter t xs) (filter t xs))
    go true e h ih = (sym (ap (λ b. b && g x) e) ∙ h, ih)
    go false e h ih = ih

filter-within : {X : Type 0} (p q : X → Bool) (xs : List X) → ((x : X) → p x ≡ true → q x ≡ true)
    → filter p (filter q xs) ≡ filter p xs
filter-within p q [] f = refl
filter-within p q (x ∷ xs) f = go (p x) (q x) refl refl (filter-within p q xs f)
  where
    go : (a b : Bool) → p x ≡ a → q x ≡ b → filter p (filter q xs) ≡ filter p xs
        → filter p (cond b (x ∷ filter q xs) (filter q xs)) ≡ cond a (x ∷ filter p xs) (filter p xs)
    go true true e h ih = rw e (ap (λ ys. x ∷ ys) ih)
    go true false e h ih = absurd (false≢true (sym h ∙ f x e))
    go false true e h ih = rw e ih
    go false false e h ih = ih

own-chain : (o : ℕ) (e : ℕ × Waiter) (p : ℕ) → (e.0 == o) ≡ true → e.1.prio ≡ p
    → in_chain o e.1.writer p e ≡ true
own-chain o e p h k = grind (arith, nat_tests)

more : (ds : List (ℕ × Waiter)) (e : ℕ × Waiter) (f : ℕ → ℕ) → In e ds
    → length (nodes_of f ds) ≡ 0 → ⊥
more [] e f i h = absurd i
more (d ∷ ds) e f i h = absurd (omega (arith, h))

none_in : (ds : List (ℕ × Waiter)) (u : ℕ × Waiter) → In u ds → None ≡ first_entry ds → ⊥
none_in [] u i h = absurd i
none_in (d ∷ ds) u i h = cc

-- an entry that is found is that of a node
some-entry : (f : ℕ → Option (ℕ × Waiter)) (head : Option ℕ) (u : ℕ × Waiter)
    → option_and_then f head ≡ Some u → IfSome head (λ n. IsSome (f n))
some-entry f None u is = tt
some-entry f (Some n) u is = ap is_some is

module _ (homes : List (ℕ × ℕ)) (nodes : List (Option Node)) (queues : List (ℕ × Queue))
    (es : List (ℕ × Waiter)) (a : AreChains homes nodes queues es) (o : ℕ) where
  -- a queue that does not exist is empty
  pub absent-empty : lookup (nat_eq o) queues ≡ None → queue_of o es ≡ []
  absent-empty h =
      queue-none o es (unmade-none o (numbers queues) es a.queued.is_queue
      (listed-lookup o queues ∙ ap is_some h))

  -- the node of a waiter has the waiter's entry
  own-entry : (u : ℕ × Waiter) → In u es
      → entry_in nodes (index_of homes u.1.client) ≡ Some u
  own-entry u i =
      let is = ap (option_and_then (entry_in nodes)) (sym (index-there homes nodes queues es a u i))
      ∙ a.own u.1.client in
      go (entry_in nodes (index_of homes u.1.client)) refl is
    where
      go : (x : Option (ℕ × Waiter)) → entry_in nodes (index_of homes u.1.client) ≡ x
          → entry_in nodes (index_of homes u.1.client)
          ≡ first_entry (filter (λ e. e.1.client == u.1.client) es)
          → entry_in nodes (index_of homes u.1.client) ≡ Some u
      go None e is = absurd (gone (sym e ∙ is))
        where
          gone : None ≡ first_entry (filter (λ e. e.1.client == u.1.client) es) → ⊥
          gone h =
              let own : (u.1.client == u.1.client) ≡ true = eq-eqb u.1.client u.1.client refl in
              none_in (filter (λ e. e.1.client == u.1.client) es) u
              (filter-in (λ (e : ℕ × Waiter). e.1.client == u.1.client) es u i own) h
      go (Some x) e is =
          let r = entry-there u.1.client es (Some x) (sym e ∙ is) in
          e ∙ ap (λ y. Some y) (one_entry x u es a.queued.once r.0 i r.1)

  module _ (q : Queue) (at : lookup (nat_eq o) queues ≡ Some q) where
    -- the chain of a waiter of this queue is not empty
    some-there : (e : ℕ × Waiter) → In e es → (e.0 == o) ≡ true
        → (p : ℕ) × (p < max_priority) × (e.1.prio ≡ p + 1)
        × (slice_index (side_of e.1.writer q).counts p ≢ 0)
    some-there e i h =
        let level = Each-in (λ (d : ℕ × Waiter). (1 ≤ d.1.prio) × (d.1.prio ≤ max_priority)) es e
        a.levels i in
        let p : ℕ = e.1.prio - 1 in
        let lt : p < max_priority = omega (arith, level.0, level.1) in
        let is : e.1.prio ≡ p + 1 = omega (arith, level.0) in
        let chain = a.chains o q at e.1.writer p lt in
        let count = chain.count in
        let there = filter-in (in_chain o e.1.writer (p + 1)) es e i (own-chain o e
        (p + 1) h is) in (
          p,
          lt,
          is,
          λ z. more (chain_of o e.1.writer (p + 1) es) e (index_of homes) there
              (sym count ∙ z),
        )

    -- a test that no waiter of the queue passes
    none-passes : (t : Waiter → Bool)
        → ((e : ℕ × Waiter) → In e es → (e.0 == o) ≡ true → t e.1 ≡ true → ⊥)
        → list_any t (queue_of o es) ≡ false
    none-passes t f = go _ refl
      where
        go : (b : Bool) → list_any t (queue_of o es) ≡ b → b ≡ false
        go false h = refl
        go true h =
            let r = any-out (λ (e : ℕ × Waiter). (e.0 == o) && t e.1) es
            (sym (any-queue_of t o es) ∙ h) in
            let both = and_parts (r.0.0 == o) (t r.0.1) r.2 in
            absurd (f r.0 r.1 both.0 both.1)

    -- the head of a chain that isn't empty
    chain-head : (k : Bool) (p : ℕ) (head : Option ℕ) → p < max_priority
        → slice_index (side_of k q).counts p ≢ 0
        → head ≡ slice_index_or (side_of k q).heads p None
        → (u : ℕ × Waiter) × (option_and_then (entry_in nodes) head ≡ Some u)
        × (head_of (map (λ e. e.1) (chain_of o k (p + 1) es)) ≡ Some u.1)
    chain-head k p head lt some is =
        let chain = a.chains o q at k p lt in
        let count = chain.count in
        let top = chain.head in
        by (chain_of o k (p + 1) es)
        (λ e i. (In-filter (in_chain o k (p + 1)) es e i).0)
        (λ z. some (count ∙ z)) (is ∙ top)
      where
        by : (ds : List (ℕ × Waiter)) → ((e : ℕ × Waiter) → In e ds → In e es)
            → (length (nodes_of (index_of homes) ds) ≢ 0)
            → head ≡ first_in (nodes_of (index_of homes) ds)
            → (u : ℕ × Waiter) × (option_and_then (entry_in nodes) head ≡ Some u)
            × (head_of (map (λ (e : ℕ × Waiter). e.1) ds) ≡ Some u.1)
        by [] f some h = absurd (some refl)
        by (d ∷ ds) f some h =
            (d, ap (option_and_then (entry_in nodes)) h ∙ own-entry d (f d (inl refl)), refl)

    ahead-none : (k : Bool) (p : ℕ) → IsFirstChain q k p → (e : ℕ × Waiter) → In e es
        → (e.0 == o) ≡ true → goes_ahead k (p + 1) e.1 ≡ true → ⊥
    ahead-none k p c e i h g =
        let r = some-there e i h in
        go (nat_lt (p + 1) e.1.prio) refl r g
      where
        go : (b : Bool) → nat_lt (p + 1) e.1.prio ≡ b
            → ((j : ℕ) × (j < max_priority) × (e.1.prio ≡ j + 1)
            × (slice_index (side_of e.1.writer q).counts j ≢ 0))
            → (b || ((e.1.prio == p + 1) && nat_lt (kind_rank e.1.writer) (kind_rank k))) ≡ true → ⊥
        go true t r g =
            let above : p < r.0 = grind (arith, nat_tests, t, r.2) in
            r.3 (c.above e.1.writer r.0 r.1 above)
        go false t r g =
            let both = and_parts (e.1.prio == p + 1) (nat_lt (kind_rank e.1.writer)
            (kind_rank k)) g in
            let same : r.0 ≡ p = grind (arith, nat_tests, both.0, r.2) in
            let less : kind_rank e.1.writer < kind_rank k = grind (arith, nat_tests, both.1) in
            r.3 (ap (λ j. slice_index (side_of e.1.writer q).counts j) same
            ∙ c.beside e.1.writer less)

    -- the first of a queue that exists
    pub first-there : (head : Option ℕ) → IsFirst q head
        → option_map (λ e. e.1) (option_and_then (entry_in nodes) head) ≡ head_of (queue_of o es)
    first-there head (inl f) =
        let k = f.0 in
        let p = f.1 in
        let c = f.2 in
        let u = chain-head k p head c.within c.some f.3 in
        let none = any-each (goes_ahead k (p + 1)) (queue_of o es)
        (none-passes (goes_ahead k (p + 1)) (ahead-none k p c)) in
        ap (option_map (λ (e : ℕ × Waiter). e.1)) u.1
        ∙ sym (queue-head o k (p + 1) es u.0.1 none (a.sorted o k (p + 1)) u.2)
    first-there head (inr f) =
        let empty = filter-none (λ (w : Waiter). true) (queue_of o es)
        (none-passes (λ w. true) (λ e i h t.
        let r = some-there e i h in r.3 (f.0 e.1.writer r.0 r.1))) in
        ap (λ x. option_map (λ (e : ℕ × Waiter). e.1) (option_and_then (entry_in nodes) x)) f.1
        ∙ sym (ap head_of (sym (all-true (queue_of o es)) ∙ empty))
      where
        all-true : (ws : List Waiter) → filter (λ w. true) ws ≡ ws
        all-true [] = refl
        all-true (w ∷ ws) = ap (λ vs. w ∷ vs) (all-true ws)

    -- the node of the first has an entry
    pub first-stands : (head : Option ℕ) → IsFirst q head
        → IfSome head (λ n. IsSome (entry_in nodes n))
    first-stands head (inl f) =
        let u = chain-head f.0 f.1 head f.2.within f.2.some f.3 in
        some-entry (entry_in nodes) head u.0 u.1
    first-stands head (inr f) =
        subst (λ h. IfSome h (λ n. IsSome (entry_in nodes n))) (sym f.1) tt

    -- and that of the first writer
    pub writer-stands : (head : Option ℕ) → IsFirstWriter q head
        → IfSome head (λ n. IsSome (entry_in nodes n))
    writer-stands head (inl f) =
        let u = chain-head true f.0 head f.1 f.2 f.4 in
        some-entry (entry_in nodes) head u.0 u.1
    writer-stands head (inr f) =
        subst (λ h. IfSome h (λ n. IsSome (entry_in nodes n))) (sym f.1) tt

    writer-chain : (e : ℕ × Waiter) (j : ℕ) → e.1.writer ≡ true
        → (slice_index (side_of e.1.writer q).counts j ≢ 0) → slice_index q.writers.counts j ≢ 0
    writer-chain e j t h z = h (ap (λ k. slice_index (side_of k q).counts j) t ∙ z)

    -- the first writer of a queue that exists
    pub writer-there : (head : Option ℕ) → IsFirstWriter q head
        → option_map (λ e. e.1) (option_and_then (entry_in nodes) head)
        ≡ first_writer_of (queue_of o es)
    writer-there head (inl f) =
        let p = f.0 in
        let u = chain-head true p head f.1 f.2 f.4 in
        let none = any-each (λ (w : Waiter). w.writer && goes_ahead true (p + 1) w)
        (queue_of o es)
        (none-passes (λ w. w.writer && goes_ahead true (p + 1) w) (above p f.3)) in
        let writers = filter (λ (w : Waiter). w.writer) (queue_of o es) in
        let ordered = filter-in-order (λ w. w.writer) (queue_of o es) (queue_of-in-order o es) in
        let kinds = filter-within (is_kind true (p + 1)) (λ (w : Waiter). w.writer)
        (queue_of o es) (kind-writes (p + 1)) in
        ap (option_map (λ (e : ℕ × Waiter). e.1)) u.1
        ∙ sym (top-head true (p + 1) writers u.0.1 ordered
        (Each-passed (λ w. w.writer) (goes_ahead true (p + 1)) (queue_of o es) none)
        (ap head_of (kinds ∙ (sym (kind-of o true (p + 1) es) ∙ a.sorted o true (p + 1))) ∙ u.2))
      where
        kind-writes : (p : ℕ) (w : Waiter) → is_kind true p w ≡ true → w.writer ≡ true
        kind-writes p w h = go w.writer refl
          where
            go : (b : Bool) → w.writer ≡ b → w.writer ≡ true
            go true e = e
            go false e = absurd (grind (arith, nat_tests, e, h))

        above : (p : ℕ)
            → ((i : ℕ) → i < max_priority → p < i → slice_index q.writers.counts i ≡ 0)
            → (e : ℕ × Waiter) → In e es → (e.0 == o) ≡ true
            → (e.1.writer && goes_ahead true (p + 1) e.1) ≡ true → ⊥
        above p f e i h t =
            let both = and_parts e.1.writer (goes_ahead true (p + 1) e.1) t in
            let r = some-there e i h in
            let higher : p < r.0 = grind (arith, nat_tests, both.0, both.1, r.2) in
            writer-chain e r.0 both.0 r.3 (f r.0 r.1 higher)
    writer-there head (inr f) =
        let empty = filter-none (λ (w : Waiter). w.writer) (queue_of o es)
        (none-passes (λ w. w.writer) (λ e i h t.
        let r = some-there e i h in
        writer-chain e r.0 t r.3 (f.0 r.0 r.1))) in
        ap (λ x. option_map (λ (e : ℕ × Waiter). e.1) (option_and_then (entry_in nodes) x)) f.1
        ∙ sym (ap head_of empty)

    -- whether a writer there holds a reader back
    pub back-there : (b : Bool) (p prio : ℕ) → p + 1 ≡ prio → IsTrue b ↔ HasWriterFrom q p
        → b ≡ list_any (blocks_readers_from prio) (queue_of o es)
    back-there true p prio is h =
        let i = h.0 refl in
        let chain = a.chains o q at true i.0 i.2 in
        let count = chain.count in
        let u = chain-first (chain_of o true (i.0 + 1) es) (λ z. i.3 (count ∙ z)) in
        let e = In-filter (in_chain o true (i.0 + 1)) es u.0 u.1 in
        let back = back-by u.0 i.0 p prio is i.1 e.1 in
        sym (any-queue_of (blocks_readers_from prio) o es
        ∙ any-in (λ (x : ℕ × Waiter). (x.0 == o) && blocks_readers_from prio x.1) es u.0 e.0 back)
      where
        chain-first : (ds : List (ℕ × Waiter)) → length (nodes_of (index_of homes) ds) ≢ 0
            → (u : ℕ × Waiter) × In u ds
        chain-first [] h = absurd (h refl)
        chain-first (d ∷ ds) h = (d, inl refl)

        back-by : (u : ℕ × Waiter) (i p prio : ℕ) → p + 1 ≡ prio → p ≤ i
            → in_chain o true (i + 1) u ≡ true → ((u.0 == o) && blocks_readers_from prio u.1) ≡ true
        back-by u i p prio is le h = go u.1.writer refl
          where
            go : (b : Bool) → u.1.writer ≡ b → ((u.0 == o) && blocks_readers_from prio u.1) ≡ true
            go true e = grind (arith, nat_tests, e, h, is, le)
            go false e = absurd (grind (arith, nat_tests, e, h))
    back-there false p prio is h =
        sym (none-passes (blocks_readers_from prio) (λ e i own t.
        let both = and_parts e.1.writer (nat_le prio e.1.prio) t in
        let r = some-there e i own in
        let le : p ≤ r.0 = grind (arith, nat_tests, both.1, r.2, is) in
        absurd (false≢true (h.1 (r.0, le, r.1, writer-chain e r.0 both.0 r.3)))))

-- no chain of an empty queue has a waiter
pub no-waiter : (homes : List (ℕ × ℕ)) (nodes : List (Option Node)) (queues : List (ℕ × Queue))
    (es : List (ℕ × Waiter)) → AreChains homes nodes queues es → (o : ℕ) (q : Queue)
    → lookup (nat_eq o) queues ≡ Some q → q.len ≡ 0 → HasNoWaiter q
no-waiter homes nodes queues es a o q there none k p within =
    (a.chains o q there k p within).count
    ∙ (length-map chain (λ e. index_of homes e.1.client)
    ∙ (sym (length-map chain (λ e. e.1))
    ∙ (ap length (sym (a.sorted o k (p + 1)) ∙ kind-of o k (p + 1) es)
    ∙ passed (queue_of o es) (sym (a.len o q there) ∙ none))))
  where
    chain : List (ℕ × Waiter)
    chain = chain_of o k (p + 1) es

    passed : (ws : List Waiter) → length ws ≡ 0 → length (filter (is_kind k (p + 1)) ws) ≡ 0
    passed [] h = refl
    passed (w ∷ ws) h = absurd (omega (arith, h))

-- the same if the queue may not exist
module _ (homes : List (ℕ × ℕ)) (nodes : List (Option Node)) (queues : List (ℕ × Queue))
    (es : List (ℕ × Waiter)) (a : AreChains homes nodes queues es) (o : ℕ) where
  pub first-told : (head : Option ℕ) → (lookup (nat_eq o) queues ≡ None → head ≡ None)
      → ((q : Queue) → lookup (nat_eq o) queues ≡ Some q → IsFirst q head)
      → option_map (λ e. e.1) (option_and_then (entry_in nodes) head) ≡ head_of (queue_of o es)
  first-told head none some = go (lookup (nat_eq o) queues) refl
    where
      go : (x : Option Queue) → lookup (nat_eq o) queues ≡ x
          → option_map (λ e. e.1) (option_and_then (entry_in nodes) head)
          ≡ head_of (queue_of o es)
      go (Some q) e = first-there homes nodes queues es a o q e head (some q e)
      go None e =
          ap (λ x. option_map (λ (y : ℕ × Waiter). y.1) (option_and_then (entry_in nodes) x))
          (none e)
          ∙ sym (ap head_of (absent-empty homes nodes queues es a o e))

  pub first-known : (head : Option ℕ) → (lookup (nat_eq o) queues ≡ None → head ≡ None)
      → ((q : Queue) → lookup (nat_eq o) queues ≡ Some q → IsFirst q head)
      → IfSome head (λ n. IsSome (entry_in nodes n))
  first-known head none some = go (lookup (nat_eq o) queues) refl
    where
      go : (x : Option Queue) → lookup (nat_eq o) queues ≡ x
          → IfSome head (λ n. IsSome (entry_in nodes n))
      go (Some q) e = first-stands homes nodes queues es a o q e head (some q e)
      go None e = subst (λ h. IfSome h (λ n. IsSome (entry_in nodes n))) (sym (none e)) tt

  pub writer-known : (head : Option ℕ) → (lookup (nat_eq o) queues ≡ None → head ≡ None)
      → ((q : Queue) → lookup (nat_eq o) queues ≡ Some q → IsFirstWriter q head)
      → IfSome head (λ n. IsSome (entry_in nodes n))
  writer-known head none some = go (lookup (nat_eq o) queues) refl
    where
      go : (x : Option Queue) → lookup (nat_eq o) queues ≡ x
          → IfSome head (λ n. IsSome (entry_in nodes n))
      go (Some q) e = writer-stands homes nodes queues es a o q e head (some q e)
      go None e = subst (λ h. IfSome h (λ n. IsSome (entry_in nodes n))) (sym (none e)) tt

  pub writer-told : (head : Option ℕ) → (lookup (nat_eq o) queues ≡ None → head ≡ None)
      → ((q : Queue) → lookup (nat_eq o) queues ≡ Some q → IsFirstWriter q head)
      → option_map (λ e. e.1) (option_and_then (entry_in nodes) head)
      ≡ first_writer_of (queue_of o es)
  writer-told head none some = go (lookup (nat_eq o) queues) refl
    where
      go : (x : Option Queue) → lookup (nat_eq o) queues ≡ x
          → option_map (λ e. e.1) (option_and_then (entry_in nodes) head)
          ≡ first_writer_of (queue_of o es)
      go (Some q) e = writer-there homes nodes queues es a o q e head (some q e)
      go None e =
          ap (λ x. option_map (λ (y : ℕ × Waiter). y.1) (option_and_then (entry_in nodes) x))
          (none e)
          ∙ sym (ap first_writer_of (absent-empty homes nodes queues es a o e))

  pub back-told : (b : Bool) (p prio : ℕ) → p + 1 ≡ prio
      → (lookup (nat_eq o) queues ≡ None → b ≡ false)
      → ((q : Queue) → lookup (nat_eq o) queues ≡ Some q → IsTrue b ↔ HasWriterFrom q p)
      → b ≡ list_any (blocks_readers_from prio) (queue_of o es)
  back-told b p prio is none some = go (lookup (nat_eq o) queues) refl
    where
      go : (x : Option Queue) → lookup (nat_eq o) queues ≡ x
          → b ≡ list_any (blocks_readers_from prio) (queue_of o es)
      go (Some q) e = back-there homes nodes queues es a o q e b p prio is (some q e)
      go None e =
          none e ∙ sym (ap (list_any (blocks_readers_from prio))
          (absent-empty homes nodes queues es a o e))
