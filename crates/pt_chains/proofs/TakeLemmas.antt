-- A waiter is taken out: what is true of nodes, chains and queues stays true.
use Rattle.std.proofs.Common.{◌≡◌, ◌⊎◌, ℕ, ◌==◌, ◌<◌, ◌≤◌, ◌+◌, ◌-◌, Bool, true, false, cond, ◌&&◌}
use Rattle.std.proofs.Common.{◌||◌, not, List, [], ◌∷◌, map, length, filter, Option, Some, None}
use Rattle.std.proofs.Common.{is_some, unwrap_or, slice_index_or, nat_eq, inl, inr, refl, sym, ap}
use Rattle.std.proofs.Common.{◌∙◌, subst, arith, eq-eqb}
use Rattle.std.specs.Prelude.{slice_index}
use Rattle.std.specs.Option.{option_and_then}
use Rattle.std.specs.Map.{lookup}
use Rattle.std.proofs.lemmas.Bool.Decides.{nat_tests}
use Rattle.std.proofs.lemmas.Bool.{false≢true}
use Rattle.std.proofs.lemmas.List.Filters.{length-filter_both}
use Rattle.pt_types.specs.Limits.{max_priority}
use Rattle.pt_waitq.specs.declared.waiter.Waiter.{Waiter}
use Rattle.pt_chains.specs.declared.nodes.Node.{Node}
use Rattle.pt_chains.specs.declared.sides.Side.{Side}
use Rattle.pt_chains.specs.declared.sides.Queue.{Queue}
use Rattle.pt_waitq.specs.Queues.{In, of_client}
use Rattle.pt_waitq.specs.Waits.{is_listed, has_waiter, queue_of, AllQueued}
use Rattle.pt_waitq.specs.ListLemmas.{any-out, any-without, In-filter, Each-filter, filter-none}
use Rattle.pt_waitq.specs.ListLemmas.{filter-rest}
use Rattle.pt_waitq.specs.WaitingLemmas.{one_entry, only-waiter, queue_of-other_waiters}
use Rattle.pt_chains.specs.Chains.{numbers, first_entry, is_at, side_of, Links, IsChain, is_kind}
use Rattle.pt_chains.specs.Chains.{chain_of, in_chain, nodes_of, node_in, next_in, before_in}
use Rattle.pt_chains.specs.Chains.{entry_in, node_index_of, index_of, entry_of_client}
use Rattle.pt_chains.specs.Chains.{AreNodeIndexes, AreChains}
use Rattle.pt_chains.specs.Chains.{IsUnlinked}
use Rattle.pt_waitq.proofs.MemberLemmas.{filter-in}
use Rattle.pt_chains.proofs.LinkLemmas.{but, eq_true, listed_apart, next_apart, before_apart}
use Rattle.pt_chains.proofs.EndLemmas.{chain-removed, chain-kept}
use Rattle.pt_chains.proofs.SortedLemmas.{sorted-fewer}
use Rattle.pt_chains.proofs.ChainLemmas.{some_same, index-apart}
use Rattle.pt_chains.proofs.NodeIndexLemmas.{entry-changed}
use Rattle.pt_chains.proofs.InsertLemmas.{unique-chain}
use Rattle.pt_chains.proofs.PutLemmas.{other-chain, either, other-kind, other-level, other-queue}
use Rattle.pt_chains.proofs.PutLemmas.{own-kind}

-- two filters, in either order
filter-swap : {X : Type 0} (p q : X → Bool) (xs : List X)
    → filter p (filter q xs) ≡ filter q (filter p xs)
filter-swap p q [] = refl
filter-swap p q (x ∷ xs) = go (p x) (q x) refl refl (filter-swap p q xs)
  where
    go : (a b : Bool) → p x ≡ a → q x ≡ b → filter p (filter q xs) ≡ filter q (filter p xs)
        → filter p (cond b (x ∷ filter q xs) (filter q xs))
        ≡ filter q (cond a (x ∷ filter p xs) (filter p xs))
    go true true e h ih = rw (e, h) (ap (λ ys. x ∷ ys) ih)
    go true false e h ih = rw h ih
    go false true e h ih = rw e ih
    go false false e h ih = ih

-- the node ahead of a node of one chain is not in another
ahead_apart : (nx bf : ℕ → Option ℕ) (m n : ℕ) (ns : List ℕ) → Links nx bf None ns
    → is_listed n ns ≡ true → is_listed m ns ≡ false → is_at m (bf n) ≡ false
ahead_apart nx bf m n [] l i o = absurd (false≢true i)
ahead_apart nx bf m n (k ∷ ks) l i o = go (k == n) refl i
  where
    go : (t : Bool) → (k == n) ≡ t → (t || is_listed n ks) ≡ true → is_at m (bf n) ≡ false
    go true e i =
        let same : k ≡ n = grind (arith, nat_tests) in
        ap (is_at m) (ap bf (sym same) ∙ l.0)
    go false e i = before_apart nx bf m n k ks l.2 i o

-- the nodes of all waiters but one client's
nodes-but : (f : ℕ → ℕ) (c n : ℕ) (ds : List (ℕ × Waiter))
    → ((d : ℕ × Waiter) → In d ds → (f d.1.client == n) ≡ (d.1.client == c))
    → nodes_of f (filter (λ e. not (e.1.client == c)) ds) ≡ but n (nodes_of f ds)
nodes-but f c n [] h = refl
nodes-but f c n (d ∷ ds) h =
    go (f d.1.client == n) (d.1.client == c) (h d (inl refl))
    (nodes-but f c n ds (λ x i. h x (inr i)))
  where
    left : List (ℕ × Waiter)
    left = filter (λ e. not (e.1.client == c)) ds

    go : (a b : Bool) → a ≡ b → nodes_of f left ≡ but n (nodes_of f ds)
        → nodes_of f (cond (not b) (d ∷ left) left)
        ≡ cond (not a) (f d.1.client ∷ but n (nodes_of f ds)) (but n (nodes_of f ds))
    go true true e ih = ih
    go true false e ih = absurd (false≢true (sym e))
    go false true e ih = absurd (false≢true e)
    go false false e ih = ap (λ ns. f d.1.client ∷ ns) ih

listed-in : (f : ℕ → ℕ) (ds : List (ℕ × Waiter)) (d : ℕ × Waiter) → In d ds
    → is_listed (f d.1.client) (nodes_of f ds) ≡ true
listed-in f [] d i = absurd i
listed-in f (x ∷ ds) d (inl e) =
    ap (λ b. b || is_listed (f d.1.client) (nodes_of f ds))
    (eq-eqb (f x.1.client) (f d.1.client) (ap (λ (y : ℕ × Waiter). f y.1.client) (sym e)))
listed-in f (x ∷ ds) d (inr i) = later (f x.1.client == f d.1.client) (listed-in f ds d i)
  where
    later : (t : Bool) → is_listed (f d.1.client) (nodes_of f ds) ≡ true
        → (t || is_listed (f d.1.client) (nodes_of f ds)) ≡ true
    later true ih = refl
    later false ih = ih

module _ (homes : List (ℕ × ℕ)) (nodes nodes' : List (Option Node))
    (queues queues' : List (ℕ × Queue)) (es : List (ℕ × Waiter)) (o p n : ℕ) (w : Waiter)
    (node : Node) (q0 q1 : Queue) (a : AreChains homes nodes queues es)
    (there : In (o, w) es) (home : node_index_of homes w.client ≡ Some n)
    (is : node_in nodes n ≡ Some node) (level : p + 1 ≡ w.prio) (within : p < max_priority)
    (at : lookup (nat_eq o) queues ≡ Some q0) where
  abbrev fewer : List (ℕ × Waiter)
  fewer = filter (λ e. not (e.1.client == w.client)) es

  abbrev mine : List ℕ
  mine = nodes_of (index_of homes) (chain_of o w.writer (p + 1) es)

  its : index_of homes w.client ≡ n
  its = ap (λ x. unwrap_or x 0) home

  next_is : next_in nodes n ≡ node.next
  next_is = ap (option_and_then (λ (x : Node). x.next)) is

  before_is : before_in nodes n ≡ node.before
  before_is = ap (option_and_then (λ (x : Node). x.before)) is

  whole : IsChain (next_in nodes) (before_in nodes) (side_of w.writer q0) p
      (nodes_of (index_of homes) (chain_of o w.writer (p + 1) es))
  whole = a.chains o q0 at w.writer p within

  same-node : (d : ℕ × Waiter) → In d es
      → (index_of homes d.1.client == n) ≡ (d.1.client == w.client)
  same-node d i = go (d.1.client == w.client) refl
    where
      by : (d.1.client == w.client) ≡ false → (t : Bool) → (index_of homes d.1.client == n) ≡ t
          → t ≡ false
      by q false r = refl
      by q true r =
          let one : index_of homes d.1.client ≡ n = grind (arith, nat_tests) in
          let same = index-apart homes nodes queues es a d (o, w) i there (one ∙ sym its) in
          absurd (false≢true (sym q ∙ eq-eqb d.1.client w.client same))

      go : (t : Bool) → (d.1.client == w.client) ≡ t → (index_of homes d.1.client == n) ≡ t
      go true q =
          let same : d.1.client ≡ w.client = grind (arith, nat_tests) in
          eq-eqb (index_of homes d.1.client) n (ap (index_of homes) same ∙ its)
      go false q = by q (index_of homes d.1.client == n) refl

  own : in_chain o w.writer (p + 1) (o, w) ≡ true
  own = ap (λ b. b && is_kind w.writer (p + 1) w) (eq_true o o refl) ∙ own-kind p w level

  pub listed-own : is_listed n (nodes_of (index_of homes) (chain_of o w.writer (p + 1) es)) ≡ true
  listed-own =
      ap (λ m. is_listed m mine) (sym its)
      ∙ listed-in (index_of homes) (chain_of o w.writer (p + 1) es) (o, w)
      (filter-in (in_chain o w.writer (p + 1)) es (o, w) there own)

  pub count-own : 1 ≤ slice_index (side_of w.writer q0).counts p
  count-own = let h = whole.count in go mine listed-own h
    where
      go : (ns : List ℕ) → is_listed n ns ≡ true
          → slice_index (side_of w.writer q0).counts p ≡ length ns
          → 1 ≤ slice_index (side_of w.writer q0).counts p
      go [] i h = absurd (false≢true i)
      go (k ∷ ks) i h = omega (arith, h)

  one-fewer : (x : ℕ) → length (cond (o == x) (w ∷ []) []) + length (queue_of x fewer)
      ≡ length (queue_of x es)
  one-fewer x =
      let parts = length-filter_both (λ (v : Waiter). v.client == w.client)
      (λ v. not (v.client == w.client)) (λ v. refl) (queue_of x es) in
      let one = only-waiter w.client (o, w) es a.queued.once there refl x in
      ap (λ ws. length ws + length (queue_of x fewer)) (sym one)
      ∙ (ap (λ ws. length (of_client w.client (queue_of x es)) + length ws)
      (queue_of-other_waiters w.client x es) ∙ parts)

  pub len-own : 1 ≤ q0.len
  len-own =
      let e = ap (λ b. length (cond b (w ∷ []) []) + length (queue_of o fewer))
      (eq_true o o refl) in
      let h = one-fewer o in
      let l = a.len o q0 at in
      omega (arith, e, h, l)

  -- no other chain has this client
  other-whole : (x r : ℕ) (k : Bool) → in_chain x k r (o, w) ≡ false
      → has_waiter w.client (chain_of x k r es) ≡ false
  other-whole x r k out = go _ refl
    where
      go : (t : Bool) → has_waiter w.client (chain_of x k r es) ≡ t → t ≡ false
      go false h = refl
      go true h =
          let test = λ (e : ℕ × Waiter). e.1.client == w.client in
          let d = any-out test (chain_of x k r es) h in
          let i = In-filter (in_chain x k r) es d.0 d.1 in
          let one : d.0.1.client ≡ w.client = grind (arith, nat_tests, d.2) in
          let same = one_entry d.0 (o, w) es a.queued.once i.0 there one in
          absurd (false≢true (sym out ∙ (ap (in_chain x k r) (sym same) ∙ i.1)))

  module _ (rest : (x : ℕ) → lookup (nat_eq x) queues'
      ≡ cond (o == x) (Some q1) (lookup (nat_eq x) queues))
      (taken : IsUnlinked w.writer p node.before node.next q0 q1)
      (next : (c : ℕ) → next_in nodes' c
      ≡ cond (n == c) None (cond (is_at c node.before) node.next (next_in nodes c)))
      (before : (c : ℕ) → before_in nodes' c
      ≡ cond (n == c) None (cond (is_at c node.next) node.before (before_in nodes c))) where
    hn : (c : ℕ) → next_in nodes' c ≡ cond (n == c) None
        (cond (is_at c (before_in nodes n)) (next_in nodes n) (next_in nodes c))
    hn c =
        next c
        ∙ (ap (λ b. cond (n == c) None (cond (is_at c b) node.next (next_in nodes c)))
        (sym before_is)
        ∙ ap (λ u. cond (n == c) None
        (cond (is_at c (before_in nodes n)) u (next_in nodes c))) (sym next_is))

    hb : (c : ℕ) → before_in nodes' c ≡ cond (n == c) None
        (cond (is_at c (next_in nodes n)) (before_in nodes n) (before_in nodes c))
    hb c =
        before c
        ∙ (ap (λ b. cond (n == c) None (cond (is_at c b) node.before (before_in nodes c)))
        (sym next_is)
        ∙ ap (λ u. cond (n == c) None
        (cond (is_at c (next_in nodes n)) u (before_in nodes c))) (sym before_is))

    abbrev Whole : ℕ → Bool → Queue → ℕ → Type 0
    Whole y l u r =
        IsChain (next_in nodes') (before_in nodes') (side_of l u) r
        (nodes_of (index_of homes) (chain_of y l (r + 1) fewer))

    -- a chain to which the waiter does not belong
    other : (x r : ℕ) (k : Bool) (old new : Side) → in_chain x k (r + 1) (o, w) ≡ false
        → slice_index new.counts r ≡ slice_index old.counts r
        → slice_index_or new.tails r None ≡ slice_index_or old.tails r None
        → slice_index_or new.heads r None ≡ slice_index_or old.heads r None
        → IsChain (next_in nodes) (before_in nodes) old r
        (nodes_of (index_of homes) (chain_of x k (r + 1) es))
        → IsChain (next_in nodes') (before_in nodes') new r
        (nodes_of (index_of homes) (chain_of x k (r + 1) fewer))
    other x r k old new out hc ht hh chain =
        let test = λ (e : ℕ × Waiter). e.1.client == w.client in
        subst (λ ds. IsChain (next_in nodes') (before_in nodes') new r
        (nodes_of (index_of homes) ds))
        (sym (filter-swap (in_chain x k (r + 1)) (λ e. not (e.1.client == w.client)) es
        ∙ filter-rest test (chain_of x k (r + 1) es) (other-whole x (r + 1) k out)))
        (chain-kept (next_in nodes) (before_in nodes) (next_in nodes') (before_in nodes') old new
        r _ hc ht hh
        (λ m i.
        let disjoint = index-apart homes nodes queues es a in
        let away = other-chain (index_of homes) o x (p + 1) (r + 1) m k w.writer w es
        a.queued.once disjoint (own-kind p w level) out i in
        let self = listed_apart n m mine listed-own away in
        let ahead = ahead_apart (next_in nodes) (before_in nodes) m n mine whole.links
        listed-own away in
        let behind = next_apart (next_in nodes) (before_in nodes) m n None mine whole.links
        listed-own away in (
          hn m
              ∙ (ap (λ t. cond t None
              (cond (is_at m (before_in nodes n)) (next_in nodes n) (next_in nodes m))) self
              ∙ ap (λ t. cond t (next_in nodes n) (next_in nodes m)) ahead),
          hb m
              ∙ (ap (λ t. cond t None
              (cond (is_at m (next_in nodes n)) (before_in nodes n) (before_in nodes m))) self
              ∙ ap (λ t. cond t (before_in nodes n) (before_in nodes m)) behind),
        ))
        chain)

    level-own : (r : ℕ) → r < max_priority → (t : Bool) → (p == r) ≡ t → Whole o w.writer q1 r
    level-own r lt true e =
        let same : p ≡ r = grind (arith, nat_tests) in
        let disjoint = index-apart homes nodes queues es a in
        let old = side_of w.writer q0 in
        let chain = chain_of o w.writer (p + 1) es in
        let count = slice_index old.counts p in
        let head = slice_index_or old.heads p None in
        let tail = slice_index_or old.tails p None in
        let self = eq_true p p refl in
        subst (Whole o w.writer q1) same
        (subst (λ ns. IsChain (next_in nodes') (before_in nodes') (side_of w.writer q1) p ns)
        (sym (ap (nodes_of (index_of homes))
        (filter-swap (in_chain o w.writer (p + 1)) (λ d. not (d.1.client == w.client)) es)
        ∙ nodes-but (index_of homes) w.client n chain
        (λ d i. same-node d (In-filter (in_chain o w.writer (p + 1)) es d i).0)))
        (chain-removed (next_in nodes) (before_in nodes) (next_in nodes') (before_in nodes')
        (side_of w.writer q0) (side_of w.writer q1) p n mine
        (taken.counts p within ∙ ap (λ b. cond b (count - 1) count) self)
        (taken.tails p within
        ∙ (ap (λ b. cond (b && not (is_some node.next)) node.before tail) self
        ∙ (ap (λ x. cond (not (is_some x)) node.before tail) (sym next_is)
        ∙ ap (λ x. cond (not (is_some (next_in nodes n))) x tail) (sym before_is))))
        (taken.heads p within
        ∙ (ap (λ b. cond (b && not (is_some node.before)) node.next head) self
        ∙ (ap (λ x. cond (not (is_some x)) node.next head) (sym before_is)
        ∙ ap (λ x. cond (not (is_some (before_in nodes n))) x head) (sym next_is))))
        hn hb listed-own
        (unique-chain (index_of homes) (in_chain o w.writer (p + 1)) es a.queued.once disjoint)
        whole))
    level-own r lt false e =
        let old = side_of w.writer q0 in
        let count = slice_index old.counts p in
        other o r w.writer (side_of w.writer q0) (side_of w.writer q1)
        (other-level o p r w.writer w level e)
        (taken.counts r lt ∙ ap (λ b. cond b (count - 1) (slice_index old.counts r)) e)
        (taken.tails r lt
        ∙ ap (λ b. cond (b && not (is_some node.next)) node.before
        (slice_index_or old.tails r None)) e)
        (taken.heads r lt
        ∙ ap (λ b. cond (b && not (is_some node.before)) node.next
        (slice_index_or old.heads r None)) e)
        (a.chains o q0 at w.writer r lt)

    kinds : (r : ℕ) → r < max_priority → (l : Bool) → (l ≡ w.writer) ⊎ (l ≡ not w.writer)
        → Whole o l q1 r
    kinds r lt l (inl e) = subst (λ b. Whole o b q1 r) (sym e) (level-own r lt (p == r) refl)
    kinds r lt l (inr e) =
        subst (λ b. Whole o b q1 r) (sym e)
        (other o r (not w.writer) (side_of (not w.writer) q0) (side_of (not w.writer) q1)
        (other-kind o p (r + 1) w)
        (taken.other r lt).count (taken.other r lt).tail (taken.other r lt).head
        (a.chains o q0 at (not w.writer) r lt))

    -- all chains after a waiter is taken out
    take-chains : (x : ℕ) (q : Queue) → lookup (nat_eq x) queues' ≡ Some q → (k : Bool) (r : ℕ)
        → r < max_priority → Whole x k q r
    take-chains x q h k r lt = go (o == x) refl (sym (rest x) ∙ h)
      where
        go : (t : Bool) → (o == x) ≡ t → cond t (Some q1) (lookup (nat_eq x) queues) ≡ Some q
            → Whole x k q r
        go true e g =
            let same : o ≡ x = grind (arith, nat_tests) in
            subst (λ y. Whole y k q r) same
            (subst (λ u. Whole o k u r) (some_same q1 q g) (kinds r lt k (either k w.writer)))
        go false e g =
            other x r k (side_of k q) (side_of k q) (other-queue o x (r + 1) k w e) refl refl refl
            (a.chains x q g k r lt)

    len_in : (x : ℕ) (q : Queue) (t : Bool) → (o == x) ≡ t
        → cond t (Some q1) (lookup (nat_eq x) queues) ≡ Some q
        → q.len ≡ length (queue_of x fewer)
    len_in x q true e g =
        let same : o ≡ x = grind (arith, nat_tests) in
        let was = a.len o q0 at ∙ ap (λ y. length (queue_of y es)) same in
        let this = ap (λ (u : Queue). u.len) (some_same q1 q g) in
        let part = ap (λ b. length (cond b (w ∷ []) []) + length (queue_of x fewer)) e in
        let less = one-fewer x in
        let step = taken.len in
        omega (arith, was, this, part, less, step)
    len_in x q false e g =
        let part = ap (λ b. length (cond b (w ∷ []) []) + length (queue_of x fewer)) e in
        let less = one-fewer x in
        let was = a.len x q g in
        omega (arith, was, part, less)

    own-fewer : (d : ℕ) (t : Bool) → (w.client == d) ≡ t
        → cond t None (entry_of_client homes nodes d)
        ≡ first_entry (filter (λ e. e.1.client == d) fewer)
    own-fewer d true e =
        let test = λ (x : ℕ × Waiter). x.1.client == d in
        let gone = any-without (λ (x : ℕ × Waiter). x.1.client) w.client d es
        ∙ ap (λ b. not b && has_waiter d es) e in
        sym (ap first_entry (filter-none test fewer gone))
    own-fewer d false e =
        let test = λ (x : ℕ × Waiter). x.1.client == d in
        let left = filter-swap test (λ x. not (x.1.client == w.client)) es
        ∙ filter-rest (λ (x : ℕ × Waiter). x.1.client == w.client) (filter test es)
        (out _ refl) in
        a.own d ∙ sym (ap first_entry left)
      where
        out : (b : Bool) → has_waiter w.client (filter (λ x. x.1.client == d) es) ≡ b → b ≡ false
        out false h = refl
        out true h =
            let r = any-out (λ (x : ℕ × Waiter). x.1.client == w.client)
            (filter (λ x. x.1.client == d) es) h in
            let i = In-filter (λ (x : ℕ × Waiter). x.1.client == d) es r.0 r.1 in
            absurd (grind (arith, nat_tests, e, r.2, i.1))

    module _ (queued : AllQueued (numbers queues') fewer)
        (entries : (m : ℕ) → entry_in nodes' m ≡ cond (n == m) None (entry_in nodes m))
        (homed : AreNodeIndexes homes nodes') where
      -- and all else that is true of them
      pub chains-taken : AreChains homes nodes' queues' fewer
      chains-taken =
          record {
            queued = queued;
            homed = homed;
            own = λ d.
                entry-changed homes nodes nodes' w.client n None a.homed home entries d
                ∙ own-fewer d (w.client == d) refl;
            levels =
                Each-filter (λ (e : ℕ × Waiter). (1 ≤ e.1.prio) × (e.1.prio ≤ max_priority))
                (λ e. not (e.1.client == w.client)) es a.levels;
            len = λ x q h. len_in x q (o == x) refl (sym (rest x) ∙ h);
            sorted = λ x k r.
                subst (λ ds. queue_of x ds ≡ map (λ (e : ℕ × Waiter). e.1) ds)
                (sym (filter-swap (in_chain x k r) (λ e. not (e.1.client == w.client)) es))
                (sorted-fewer x (λ v. not (v.client == w.client)) (chain_of x k r es)
                (a.sorted x k r));
            chains = take-chains;
          }
