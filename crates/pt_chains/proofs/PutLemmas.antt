-- A waiter is put in: what is true of nodes, chains and queues stays true.
use Rattle.std.proofs.Common.{◌≡◌, ◌⊎◌, ℕ, suc, ◌==◌, ◌<◌, ◌≤◌, ◌+◌, Bool, true, false, cond, ◌&&◌}
use Rattle.std.proofs.Common.{not, List, [], ◌∷◌, ◌++◌, map, length, Option, Some, None, is_some}
use Rattle.std.proofs.Common.{slice_index_or, nat_eq, inl, inr, refl, sym, ap, ◌∙◌, subst, arith}
use Rattle.std.specs.Prelude.{slice_index}
use Rattle.std.specs.Map.{lookup}
use Rattle.std.proofs.lemmas.Bool.Decides.{nat_tests}
use Rattle.std.proofs.lemmas.Bool.{false≢true, and_parts}
use Rattle.pt_types.specs.Limits.{max_priority}
use Rattle.pt_waitq.specs.declared.waiter.Waiter.{Waiter}
use Rattle.pt_chains.specs.declared.nodes.Node.{Node}
use Rattle.pt_chains.specs.declared.sides.Side.{Side}
use Rattle.pt_chains.specs.declared.sides.Queue.{Queue}
use Rattle.pt_waitq.specs.Queues.{In, HasLatestArrival, insert_in_order}
use Rattle.pt_waitq.specs.QueueLemmas.{queue_of-more, length-insert}
use Rattle.pt_waitq.specs.Waits.{is_listed, has_waiter, queue_of, AllQueued, IsOnce}
use Rattle.pt_waitq.specs.ListLemmas.{Each-append}
use Rattle.pt_waitq.specs.WaitingLemmas.{one_entry}
use Rattle.pt_chains.specs.Chains.{numbers, is_at, last_in, side_of, IsChain, is_kind, chain_of}
use Rattle.pt_chains.specs.Chains.{in_chain, nodes_of, next_in, before_in, entry_in, node_index_of}
use Rattle.pt_chains.specs.Chains.{index_of, entry_of_client, AreNodeIndexes, AreChains, IsAppended}
use Rattle.pt_chains.proofs.LinkLemmas.{eq_true, last_apart}
use Rattle.pt_chains.proofs.EndLemmas.{chain-append, chain-kept}
use Rattle.pt_chains.proofs.SortedLemmas.{sorted-more}
use Rattle.pt_chains.proofs.ChainLemmas.{some_same, chain-member, index-apart, index-fresh}
use Rattle.pt_chains.proofs.NodeIndexLemmas.{entry-changed}
use Rattle.pt_chains.proofs.InsertLemmas.{own-inserted, unique-chain, chain-other, chain-own}

same-chain : (o x p r : ℕ) (k l : Bool) (d : ℕ × Waiter) (w : Waiter) → is_kind l p w ≡ true
    → in_chain x k r d ≡ true → in_chain o l p d ≡ true → in_chain x k r (o, w) ≡ true
same-chain o x p r k l d w a b c = grind (arith, nat_tests)

-- a node of another chain is not in this one
pub other-chain : (f : ℕ → ℕ) (o x p r m : ℕ) (k l : Bool) (w : Waiter) (es : List (ℕ × Waiter))
    → IsOnce es
    → ((d e : ℕ × Waiter) → In d es → In e es → f d.1.client ≡ f e.1.client
    → d.1.client ≡ e.1.client)
    → is_kind l p w ≡ true → in_chain x k r (o, w) ≡ false
    → is_listed m (nodes_of f (chain_of x k r es)) ≡ true
    → is_listed m (nodes_of f (chain_of o l p es)) ≡ false
other-chain f o x p r m k l w es once disjoint a b i = out _ refl
  where
    out : (t : Bool) → is_listed m (nodes_of f (chain_of o l p es)) ≡ t → t ≡ false
    out false h = refl
    out true h =
        let d = chain-member f (in_chain x k r) m es i in
        let e = chain-member f (in_chain o l p) m es h in
        let one = disjoint d.0 e.0 d.1 e.1 (d.3 ∙ sym e.3) in
        let same = one_entry d.0 e.0 es once d.1 e.1 one in
        let both = ap (in_chain o l p) same ∙ e.2 in
        absurd (false≢true (sym b ∙ same-chain o x p r k l d.0 w a d.2 both))

not-last : (m : ℕ) (ns : List ℕ) → is_listed m ns ≡ false → is_at m (last_in None ns) ≡ false
not-last m [] h = refl
not-last m (n ∷ ns) h = last_apart m n ns h

nodes-append : (f : ℕ → ℕ) (es : List (ℕ × Waiter)) (e : ℕ × Waiter)
    → nodes_of f (es ++ e ∷ []) ≡ nodes_of f es ++ f e.1.client ∷ []
nodes-append f [] e = refl
nodes-append f (x ∷ es) e = ap (λ ns. f x.1.client ∷ ns) (nodes-append f es e)

-- a node that is neither the new one nor the last of its chain keeps its link
kept-node : (new old : ℕ → Option ℕ) (n : ℕ) (last u : Option ℕ)
    → ((c : ℕ) → new c ≡ cond (n == c) None (cond (is_at c last) u (old c)))
    → (m : ℕ) → (n == m) ≡ false → is_at m last ≡ false → new m ≡ old m
kept-node new old n last u h m a b =
    h m ∙ (ap (λ t. cond t None (cond (is_at m last) u (old m))) a
    ∙ ap (λ t. cond t u (old m)) b)

module _ (f : ℕ → ℕ) (n : ℕ) (nodes nodes' : List (Option Node)) (es : List (ℕ × Waiter))
    (o p : ℕ) (w : Waiter) (side side' : Side) (its : f w.client ≡ n) (once : IsOnce es)
    (disjoint : (d e : ℕ × Waiter) → In d es → In e es → f d.1.client ≡ f e.1.client
    → d.1.client ≡ e.1.client)
    (fresh : (d : ℕ × Waiter) → In d es → (n == f d.1.client) ≡ false)
    (kind : is_kind w.writer (p + 1) w ≡ true)
    (whole : IsChain (next_in nodes) (before_in nodes) side p
    (nodes_of f (chain_of o w.writer (p + 1) es)))
    (hn : (c : ℕ) → next_in nodes' c ≡ cond (n == c) None
    (cond (is_at c (slice_index_or side.tails p None)) (Some n) (next_in nodes c)))
    (hb : (c : ℕ) → before_in nodes' c
    ≡ cond (n == c) (slice_index_or side.tails p None) (before_in nodes c)) where
  -- a chain to which the waiter does not belong
  put-other : (x r : ℕ) (k : Bool) (old new : Side) → in_chain x k (r + 1) (o, w) ≡ false
      → slice_index new.counts r ≡ slice_index old.counts r
      → slice_index_or new.tails r None ≡ slice_index_or old.tails r None
      → slice_index_or new.heads r None ≡ slice_index_or old.heads r None
      → IsChain (next_in nodes) (before_in nodes) old r (nodes_of f (chain_of x k (r + 1) es))
      → IsChain (next_in nodes') (before_in nodes') new r
      (nodes_of f (chain_of x k (r + 1) (es ++ (o, w) ∷ [])))
  put-other x r k old new out hc ht hh a =
      subst (λ ds. IsChain (next_in nodes') (before_in nodes') new r (nodes_of f ds))
      (sym (chain-other x k (r + 1) es (o, w) out))
      (chain-kept (next_in nodes) (before_in nodes) (next_in nodes') (before_in nodes') old new r
      _ hc ht hh
      (λ m i.
      let d = chain-member f (in_chain x k (r + 1)) m es i in
      let away = ap (λ j. n == j) (sym d.3) ∙ fresh d.0 d.1 in
      let out = other-chain f o x (p + 1) (r + 1) m k w.writer w es once disjoint kind out i in
      let last = ap (is_at m) whole.tail ∙ not-last m _ out in (
        kept-node (next_in nodes') (next_in nodes) n (slice_index_or side.tails p None) (Some n) hn
            m away last,
        hb m ∙ ap (λ t. cond t (slice_index_or side.tails p None) (before_in nodes m)) away,
      ))
      a)

  -- its own chain
  put-own : slice_index side'.counts p ≡ slice_index side.counts p + 1
      → slice_index_or side'.tails p None ≡ Some n
      → slice_index_or side'.heads p None
      ≡ cond (not (is_some (slice_index_or side.tails p None))) (Some n)
      (slice_index_or side.heads p None)
      → IsChain (next_in nodes') (before_in nodes') side' p
      (nodes_of f (chain_of o w.writer (p + 1) (es ++ (o, w) ∷ [])))
  put-own hc ht hh =
      let own : in_chain o w.writer (p + 1) (o, w) ≡ true =
      ap (λ b. b && is_kind w.writer (p + 1) w) (eq_true o o refl) ∙ kind in
      let chain = chain_of o w.writer (p + 1) es in
      subst (λ ns. IsChain (next_in nodes') (before_in nodes') side' p ns)
      (sym (ap (nodes_of f) (chain-own o w.writer (p + 1) es (o, w) own)
      ∙ (nodes-append f chain (o, w) ∙ ap (λ j. nodes_of f chain ++ j ∷ []) its)))
      (chain-append (next_in nodes) (before_in nodes) (next_in nodes') (before_in nodes') side
      side' p n _ hc ht hh hn hb (out _ refl)
      (unique-chain f (in_chain o w.writer (p + 1)) es once disjoint) whole)
    where
      out : (t : Bool) → is_listed n (nodes_of f (chain_of o w.writer (p + 1) es)) ≡ t
          → t ≡ false
      out false h = refl
      out true h =
          let d = chain-member f (in_chain o w.writer (p + 1)) n es h in
          absurd (false≢true (sym (ap (λ j. n == j) (sym d.3) ∙ fresh d.0 d.1)
          ∙ eq_true n n refl))

pub either : (k l : Bool) → (k ≡ l) ⊎ (k ≡ not l)
either true true = inl refl
either true false = inr refl
either false true = inr refl
either false false = inl refl

pub other-kind : (o p r : ℕ) (w : Waiter) → in_chain o (not w.writer) r (o, w) ≡ false
other-kind o p r w = go w.writer refl
  where
    go : (b : Bool) → w.writer ≡ b → in_chain o (not w.writer) r (o, w) ≡ false
    go true e = grind (arith, nat_tests, e)
    go false e = grind (arith, nat_tests, e)

pub other-level : (o p r : ℕ) (k : Bool) (w : Waiter) → p + 1 ≡ w.prio → (p == r) ≡ false
    → in_chain o k (r + 1) (o, w) ≡ false
other-level o p r k w e h = grind (arith, nat_tests)

pub other-queue : (o x r : ℕ) (k : Bool) (w : Waiter) → (o == x) ≡ false
    → in_chain x k r (o, w) ≡ false
other-queue o x r k w h = ap (λ b. b && is_kind k r w) h

pub own-kind : (p : ℕ) (w : Waiter) → p + 1 ≡ w.prio → is_kind w.writer (p + 1) w ≡ true
own-kind p w e = grind (arith, nat_tests)

plus_one : (m n : ℕ) → m ≡ suc n → m ≡ n + 1
plus_one m n e = omega (arith, e)

module _ (homes : List (ℕ × ℕ)) (nodes nodes' : List (Option Node))
    (queues queues' : List (ℕ × Queue)) (es : List (ℕ × Waiter)) (o p n : ℕ) (w : Waiter)
    (last : Option ℕ) (q0 q1 : Queue) (a : AreChains homes nodes queues es)
    (none : has_waiter w.client es ≡ false) (home : node_index_of homes w.client ≡ Some n)
    (its : index_of homes w.client ≡ n) (level : p + 1 ≡ w.prio) (within : p < max_priority)
    (at : lookup (nat_eq o) queues ≡ Some q0)
    (rest : (x : ℕ) → lookup (nat_eq x) queues'
    ≡ cond (o == x) (Some q1) (lookup (nat_eq x) queues))
    (put : IsAppended w.writer p n last q0 q1)
    (next : (c : ℕ) → next_in nodes' c
    ≡ cond (n == c) None (cond (is_at c last) (Some n) (next_in nodes c)))
    (before : (c : ℕ) → before_in nodes' c ≡ cond (n == c) last (before_in nodes c)) where
  abbrev side : Side
  side = side_of w.writer q0

  hn : (c : ℕ) → next_in nodes' c ≡ cond (n == c) None
      (cond (is_at c (slice_index_or (side_of w.writer q0).tails p None)) (Some n)
      (next_in nodes c))
  hn =
      subst (λ (l : Option ℕ). (c : ℕ) → next_in nodes' c
      ≡ cond (n == c) None (cond (is_at c l) (Some n) (next_in nodes c))) put.last next

  hb : (c : ℕ) → before_in nodes' c
      ≡ cond (n == c) (slice_index_or (side_of w.writer q0).tails p None) (before_in nodes c)
  hb =
      subst (λ (l : Option ℕ). (c : ℕ) → before_in nodes' c ≡ cond (n == c) l (before_in nodes c))
      put.last before

  abbrev Whole : ℕ → Bool → Queue → ℕ → Type 0
  Whole y l u r =
      IsChain (next_in nodes') (before_in nodes') (side_of l u) r
      (nodes_of (index_of homes) (chain_of y l (r + 1) (es ++ (o, w) ∷ [])))

  whole : IsChain (next_in nodes) (before_in nodes) (side_of w.writer q0) p
      (nodes_of (index_of homes) (chain_of o w.writer (p + 1) es))
  whole = a.chains o q0 at w.writer p within

  other : (x r : ℕ) (k : Bool) (old new : Side) → in_chain x k (r + 1) (o, w) ≡ false
      → slice_index new.counts r ≡ slice_index old.counts r
      → slice_index_or new.tails r None ≡ slice_index_or old.tails r None
      → slice_index_or new.heads r None ≡ slice_index_or old.heads r None
      → IsChain (next_in nodes) (before_in nodes) old r
      (nodes_of (index_of homes) (chain_of x k (r + 1) es))
      → IsChain (next_in nodes') (before_in nodes') new r
      (nodes_of (index_of homes) (chain_of x k (r + 1) (es ++ (o, w) ∷ [])))
  other =
      put-other (index_of homes) n nodes nodes' es o p w (side_of w.writer q0)
      (side_of w.writer q1) its a.queued.once (index-apart homes nodes queues es a)
      (index-fresh homes nodes queues es a w.client n home none) (own-kind p w level) whole hn hb

  level-own : (r : ℕ) → r < max_priority → (t : Bool) → (p == r) ≡ t → Whole o w.writer q1 r
  level-own r lt true e =
      let same : p ≡ r = grind (arith, nat_tests) in
      let count = slice_index side.counts p in
      let head = slice_index_or side.heads p None in
      let ahead = not (is_some (slice_index_or side.tails p None)) in
      let own = eq_true p p refl in
      subst (Whole o w.writer q1) same
      (put-own (index_of homes) n nodes nodes' es o p w (side_of w.writer q0)
      (side_of w.writer q1) its a.queued.once (index-apart homes nodes queues es a)
      (index-fresh homes nodes queues es a w.client n home none) (own-kind p w level) whole hn hb
      (put.counts p within ∙ ap (λ b. cond b (count + 1) count) own)
      (put.tails p within
      ∙ ap (λ b. cond b (Some n) (slice_index_or side.tails p None)) own)
      (put.heads p within ∙ ap (λ b. cond (b && ahead) (Some n) head) own))
  level-own r lt false e =
      let count = slice_index side.counts p in
      let ahead = not (is_some (slice_index_or side.tails p None)) in
      other o r w.writer (side_of w.writer q0) (side_of w.writer q1)
      (other-level o p r w.writer w level e)
      (put.counts r lt ∙ ap (λ b. cond b (count + 1) (slice_index side.counts r)) e)
      (put.tails r lt ∙ ap (λ b. cond b (Some n) (slice_index_or side.tails r None)) e)
      (put.heads r lt
      ∙ ap (λ b. cond (b && ahead) (Some n) (slice_index_or side.heads r None)) e)
      (a.chains o q0 at w.writer r lt)

  kinds : (r : ℕ) → r < max_priority → (l : Bool) → (l ≡ w.writer) ⊎ (l ≡ not w.writer)
      → Whole o l q1 r
  kinds r lt l (inl e) = subst (λ b. Whole o b q1 r) (sym e) (level-own r lt (p == r) refl)
  kinds r lt l (inr e) =
      subst (λ b. Whole o b q1 r) (sym e)
      (other o r (not w.writer) (side_of (not w.writer) q0) (side_of (not w.writer) q1)
      (other-kind o p (r + 1) w)
      (put.other r lt).count (put.other r lt).tail (put.other r lt).head
      (a.chains o q0 at (not w.writer) r lt))

  -- all chains after a waiter is put in
  put-chains : (x : ℕ) (q : Queue) → lookup (nat_eq x) queues' ≡ Some q → (k : Bool) (r : ℕ)
      → r < max_priority → Whole x k q r
  put-chains x q h k r lt = go (o == x) refl (sym (rest x) ∙ h)
    where
      go : (t : Bool) → (o == x) ≡ t → cond t (Some q1) (lookup (nat_eq x) queues) ≡ Some q
          → Whole x k q r
      go true e g =
          let same : o ≡ x = grind (arith, nat_tests) in
          subst (λ y. Whole y k q r) same
          (subst (λ u. Whole o k u r) (some_same q1 q g) (kinds r lt k (either k w.writer)))
      go false e g =
          other x r k (side_of k q) (side_of k q) (other-queue o x (r + 1) k w e) refl refl refl
          (a.chains x q g k r lt)

  module _ (bounds : (1 ≤ w.prio) × (w.prio ≤ max_priority))
      (queued : AllQueued (numbers queues') (es ++ (o, w) ∷ []))
      (entries : (m : ℕ) → entry_in nodes' m ≡ cond (n == m) (Some (o, w)) (entry_in nodes m))
      (homed : AreNodeIndexes homes nodes') (latest : HasLatestArrival w (queue_of o es)) where
    len_in : (x : ℕ) (q : Queue) (t : Bool) → (o == x) ≡ t
        → cond t (Some q1) (lookup (nat_eq x) queues) ≡ Some q
        → q.len ≡ length (queue_of x (es ++ (o, w) ∷ []))
    len_in x q true e g =
        let same : o ≡ x = grind (arith, nat_tests) in
        let more = queue_of-more x es (o, w)
        ∙ ap (λ b. cond b (insert_in_order w (queue_of x es)) (queue_of x es)) e in
        let one = length-insert w (queue_of x es) in
        let was = a.len o q0 at ∙ ap (λ y. length (queue_of y es)) same in
        sym (ap (λ (u : Queue). u.len) (some_same q1 q g))
        ∙ (put.len ∙ (ap (λ m. m + 1) was ∙ (sym (plus_one _ _ one) ∙ sym (ap length more))))
    len_in x q false e g =
        a.len x q g
        ∙ sym (ap length (queue_of-more x es (o, w)
        ∙ ap (λ b. cond b (insert_in_order w (queue_of x es)) (queue_of x es)) e))

    order : (x : ℕ) (k : Bool) (r : ℕ) (t : Bool) → in_chain x k r (o, w) ≡ t
        → queue_of x (chain_of x k r (es ++ (o, w) ∷ []))
        ≡ map (λ e. e.1) (chain_of x k r (es ++ (o, w) ∷ []))
    order x k r true e =
        let both = and_parts (o == x) (is_kind k r w) e in
        let same : o ≡ x = grind (arith, nat_tests, both.0) in
        let at_x = subst (λ y. queue_of y (chain_of y k r es ++ (o, w) ∷ [])
        ≡ map (λ (d : ℕ × Waiter). d.1) (chain_of y k r es ++ (o, w) ∷ [])) same
        (sorted-more o k r es w both.1 latest (a.sorted o k r)) in
        subst (λ ds. queue_of x ds ≡ map (λ (d : ℕ × Waiter). d.1) ds)
        (sym (chain-own x k r es (o, w) e)) at_x
    order x k r false e =
        subst (λ ds. queue_of x ds ≡ map (λ (d : ℕ × Waiter). d.1) ds)
        (sym (chain-other x k r es (o, w) e)) (a.sorted x k r)

    -- and all else that is true of them
    pub chains-put : AreChains homes nodes' queues' (es ++ (o, w) ∷ [])
    chains-put =
        record {
          queued = queued;
          homed = homed;
          own =
              own-inserted (entry_of_client homes nodes) (entry_of_client homes nodes') o w es
              (entry-changed homes nodes nodes' w.client n (Some (o, w)) a.homed home entries)
              a.own none;
          levels =
              Each-append (λ (e : ℕ × Waiter). (1 ≤ e.1.prio) × (e.1.prio ≤ max_priority)) es
              ((o, w) ∷ []) a.levels (bounds, tt);
          len = λ x q h. len_in x q (o == x) refl (sym (rest x) ∙ h);
          sorted = λ x k r. order x k r (in_chain x k r (o, w)) refl;
          chains = put-chains;
        }
