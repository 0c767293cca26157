-- Nodes as clients come and go.
use Rattle.std.proofs.Common.{◌≡◌, ◌≢◌, ℕ, ◌==◌, ◌<◌, ◌≤◌, ◌+◌, ◌^◌, Bool, true, false, cond, ◌&&◌}
use Rattle.std.proofs.Common.{◌||◌, not, List, [], ◌∷◌, ◌++◌, length, Option, Some, None, is_some}
use Rattle.std.proofs.Common.{refl, sym, ap, ◌∙◌, arith, eq-eqb}
use Rattle.std.specs.Prelude.{IsSome, IfSome}
use Rattle.std.specs.Option.{option_and_then, option_map}
use Rattle.std.proofs.lemmas.Bool.Decides.{nat_tests}
use Rattle.std.proofs.lemmas.Bool.{false≢true}
use Rattle.pt_waitq.specs.declared.waiter.Waiter.{Waiter}
use Rattle.pt_chains.specs.declared.nodes.Node.{Node}
use Rattle.pt_chains.specs.declared.sides.Queue.{Queue}
use Rattle.pt_waitq.specs.Queues.{In}
use Rattle.pt_waitq.specs.Waits.{is_listed, has_waiter}
use Rattle.pt_waitq.specs.ListLemmas.{any-in, filter-none}
use Rattle.pt_chains.specs.Chains.{numbers, first_entry, is_at, node_in, entry_in, node_index_of}
use Rattle.pt_chains.specs.Chains.{entry_of_client, AreNodeIndexes, AreChains, AreOwn}
use Rattle.pt_chains.specs.Chains.{client_of_node, entry_at}
use Rattle.pt_chains.proofs.ChainLemmas.{some_same, listed-lookup, home-there, chains-agree}

none_some : {X : Type 0} (x : X) → None ≡ Some x → ⊥
none_some x e = cc

none_is : {X : Type 0} (o : Option X) → o ≡ None → IsSome o → ⊥
none_is None e s = cc
none_is (Some x) e s = cc

is_some-map : {X Y : Type 0} (f : X → Y) (o : Option X) → is_some (option_map f o) ≡ is_some o
is_some-map f None = refl
is_some-map f (Some x) = refl

-- a client whose node's entry changes
pub entry-changed : (homes : List (ℕ × ℕ)) (nodes nodes' : List (Option Node)) (c n : ℕ)
    (x : Option (ℕ × Waiter)) → AreNodeIndexes homes nodes → node_index_of homes c ≡ Some n
    → ((m : ℕ) → entry_in nodes' m ≡ cond (n == m) x (entry_in nodes m))
    → (d : ℕ) → entry_of_client homes nodes' d ≡ cond (c == d) x (entry_of_client homes nodes d)
entry-changed homes nodes nodes' c n x a at h d = go (node_index_of homes d) refl (c == d) refl
  where
    disjoint : (m : ℕ) → node_index_of homes d ≡ Some m → (c == d) ≡ false → (b : Bool) → (n == m) ≡ b
        → b ≡ false
    disjoint m e q false r = refl
    disjoint m e q true r =
        let same : n ≡ m = grind (arith, nat_tests) in
        let one = a.disjoint c d m (at ∙ ap (λ k. Some k) same) e in
        absurd (false≢true (sym q ∙ eq-eqb c d one))

    go : (o : Option ℕ) → node_index_of homes d ≡ o → (b : Bool) → (c == d) ≡ b
        → option_and_then (entry_in nodes') o ≡ cond b x (option_and_then (entry_in nodes) o)
    go None e true q =
        let same : c ≡ d = grind (arith, nat_tests) in
        absurd (none_some n (sym e ∙ (ap (node_index_of homes) (sym same) ∙ at)))
    go None e false q = refl
    go (Some m) e true q =
        let same : c ≡ d = grind (arith, nat_tests) in
        let one = some_same n m (sym at ∙ (ap (node_index_of homes) same ∙ e)) in
        h m ∙ ap (λ b. cond b x (entry_in nodes m)) (eq-eqb n m one)
    go (Some m) e false q =
        h m ∙ ap (λ b. cond b x (entry_in nodes m)) (disjoint m e q (n == m) refl)

pub length-more : {X : Type 0} (es : List X) (e : X) → length (es ++ e ∷ []) ≡ length es + 1
length-more [] e = refl
length-more (x ∷ es) e = let h = length-more es e in omega (arith, h)

-- a client comes, whose node is in no chain
module _ (homes homes' : List (ℕ × ℕ)) (nodes nodes' : List (Option Node))
    (queues : List (ℕ × Queue)) (es : List (ℕ × Waiter)) (c n : ℕ)
    (a : AreChains homes nodes queues es) (none : node_index_of homes c ≡ None)
    (now : (d : ℕ) → node_index_of homes' d ≡ cond (c == d) (Some n) (node_index_of homes d))
    (longer : length homes' ≡ length homes + 1) (vacant : node_in nodes n ≡ None)
    (idle : entry_in nodes' n ≡ None) (its : client_of_node nodes' n ≡ Some c)
    (others : (m : ℕ) → m ≢ n → node_in nodes' m ≡ node_in nodes m)
    (bounded : length homes + 1 < 2 ^ 32) where
  older : (d m : ℕ) → node_index_of homes d ≡ Some m → m ≢ n
  older d m e same =
      none_is (node_in nodes m) (ap (node_in nodes) same ∙ vacant) (a.homed.there d m e)

  come-kept : (d : ℕ × Waiter) → In d es
      → node_index_of homes' d.1.client ≡ node_index_of homes d.1.client
  come-kept d i = now d.1.client ∙ go (c == d.1.client) refl
    where
      go : (b : Bool) → c == d.1.client ≡ b
          → cond b (Some n) (node_index_of homes d.1.client) ≡ node_index_of homes d.1.client
      go false q = refl
      go true q =
          let same : d.1.client ≡ c = grind (arith, nat_tests) in
          let r = home-there homes nodes queues es a d i in
          absurd (none_some r.0 (sym none ∙ (ap (node_index_of homes) (sym same) ∙ r.1)))

  come-own : (d : ℕ) → entry_of_client homes' nodes' d ≡ entry_of_client homes nodes d
  come-own d =
      ap (option_and_then (entry_in nodes')) (now d) ∙ go (c == d) refl (node_index_of homes d) refl
    where
      go : (b : Bool) → c == d ≡ b → (o : Option ℕ) → node_index_of homes d ≡ o
          → option_and_then (entry_in nodes') (cond b (Some n) o)
          ≡ option_and_then (entry_in nodes) o
      go true q None e = idle
      go true q (Some m) e =
          let same : d ≡ c = grind (arith, nat_tests) in
          absurd (none_some m (sym none ∙ (ap (node_index_of homes) (sym same) ∙ e)))
      go false q None e = refl
      go false q (Some m) e =
          ap (option_and_then entry_at) (others m (older d m e))

  come-there : (d m : ℕ) → node_index_of homes' d ≡ Some m → IsSome (node_in nodes' m)
  come-there d m h = go (c == d) (sym (now d) ∙ h)
    where
      go : (b : Bool) → cond b (Some n) (node_index_of homes d) ≡ Some m → IsSome (node_in nodes' m)
      go true e =
          ap (λ k. is_some (node_in nodes' k)) (sym (some_same n m e))
          ∙ (sym (is_some-map (λ (v : Node). v.waiter.client) (node_in nodes' n)) ∙ ap is_some its)
      go false e = ap is_some (others m (older d m e)) ∙ a.homed.there d m e

  come-apart : (d e m : ℕ) → node_index_of homes' d ≡ Some m → node_index_of homes' e ≡ Some m → d
      ≡ e
  come-apart d e m h k =
      go (c == d) (c == e) refl refl (sym (now d) ∙ h) (sym (now e) ∙ k)
    where
      go : (s t : Bool) → c == d ≡ s → c == e ≡ t
          → cond s (Some n) (node_index_of homes d) ≡ Some m
          → cond t (Some n) (node_index_of homes e) ≡ Some m → d ≡ e
      go true true p q u v = grind (arith, nat_tests)
      go true false p q u v = absurd (older e m v (sym (some_same n m u)))
      go false true p q u v = absurd (older d m u (sym (some_same n m v)))
      go false false p q u v = a.homed.disjoint d e m u v

  come-mine : AreOwn homes' nodes'
  come-mine m d e = now d ∙ go (m == n) refl
    where
      old : (m == n) ≡ false → node_index_of homes d ≡ Some m
      old q =
          a.homed.own m d
          (sym (ap (option_map (λ (v : Node). v.waiter.client))
          (others m (λ same. false≢true (sym q ∙ eq-eqb m n same))))
          ∙ e)

      by : (m == n) ≡ false → (b : Bool) → c == d ≡ b
          → cond b (Some n) (node_index_of homes d) ≡ Some m
      by q false r = old q
      by q true r =
          let same : d ≡ c = grind (arith, nat_tests) in
          absurd (none_some m (sym none ∙ (ap (node_index_of homes) (sym same) ∙ old q)))

      go : (b : Bool) → (m == n) ≡ b → cond (c == d) (Some n) (node_index_of homes d) ≡ Some m
      go true q =
          let same : m ≡ n = grind (arith, nat_tests) in
          let one = some_same c d (sym its ∙ (ap (client_of_node nodes') (sym same) ∙ e)) in
          ap (λ b. cond b (Some n) (node_index_of homes d)) (eq-eqb c d one)
          ∙ ap (λ k. Some k) (sym same)
      go false q = by q (c == d) refl

  pub chains-admitted : AreChains homes' nodes' queues es
  chains-admitted =
      chains-agree homes homes' nodes nodes' queues es come-kept
      (λ d i m e. others m (older d.1.client m e)) come-own
      (record {
        there = come-there;
        disjoint = come-apart;
        own = come-mine;
        bounded = omega (arith, longer);
      })
      a

-- a client goes that waits nowhere
module _ (homes homes' : List (ℕ × ℕ)) (nodes nodes' : List (Option Node))
    (queues : List (ℕ × Queue)) (es : List (ℕ × Waiter)) (c : ℕ)
    (a : AreChains homes nodes queues es)
    (now : (d : ℕ) → node_index_of homes' d ≡ cond (c == d) None (node_index_of homes d))
    (others : (m : ℕ) → is_at m (node_index_of homes c) ≡ false → node_in nodes' m
    ≡ node_in nodes m)
    (gone : IfSome (node_index_of homes c) (λ m. node_in nodes' m ≡ None))
    (fewer : length homes' ≤ length homes) (none : has_waiter c es ≡ false) where
  left : (d m : ℕ) → node_index_of homes' d ≡ Some m
      → (node_index_of homes d ≡ Some m) × ((c == d) ≡ false)
  left d m h = go (c == d) refl (sym (now d) ∙ h)
    where
      go : (b : Bool) → (c == d) ≡ b → cond b None (node_index_of homes d) ≡ Some m
          → (node_index_of homes d ≡ Some m) × ((c == d) ≡ false)
      go true q e = absurd (none_some m e)
      go false q e = (e, q)

  node-left : (d m : ℕ) → node_index_of homes d ≡ Some m → (c == d) ≡ false
      → node_in nodes' m ≡ node_in nodes m
  node-left d m h q = others m (go (node_index_of homes c) refl)
    where
      go : (o : Option ℕ) → node_index_of homes c ≡ o → is_at m o ≡ false
      go None e = refl
      go (Some k) e = by (k == m) refl
        where
          by : (b : Bool) → (k == m) ≡ b → b ≡ false
          by false r = refl
          by true r =
              let same : k ≡ m = grind (arith, nat_tests) in
              let one = a.homed.disjoint c d m (e ∙ ap (λ x. Some x) same) h in
              absurd (false≢true (sym q ∙ eq-eqb c d one))

  other : (d : ℕ × Waiter) → In d es → (b : Bool) → (c == d.1.client) ≡ b → b ≡ false
  other d i false q = refl
  other d i true q =
      let same : d.1.client ≡ c = grind (arith, nat_tests) in
      let test = λ (x : ℕ × Waiter). x.1.client == c in
      absurd (false≢true (sym none ∙ any-in test es d i (eq-eqb d.1.client c same)))

  go-own : (d : ℕ) → entry_of_client homes' nodes' d ≡ entry_of_client homes nodes d
  go-own d =
      ap (option_and_then (entry_in nodes')) (now d) ∙ go (c == d) refl (node_index_of homes d) refl
    where
      go : (b : Bool) → (c == d) ≡ b → (o : Option ℕ) → node_index_of homes d ≡ o
          → option_and_then (entry_in nodes') (cond b None o)
          ≡ option_and_then (entry_in nodes) o
      go true q o e =
          let same : c ≡ d = grind (arith, nat_tests) in
          let test = λ (x : ℕ × Waiter). x.1.client == d in
          let gone = filter-none test es (ap (λ k. has_waiter k es) (sym same) ∙ none) in
          sym (ap (option_and_then (entry_in nodes)) (sym e) ∙ (a.own d ∙ ap first_entry gone))
      go false q None e = refl
      go false q (Some m) e =
          ap (option_and_then entry_at) (node-left d m e q)

  left-mine : AreOwn homes' nodes'
  left-mine m d e = go (node_index_of homes c) refl gone
    where
      still : is_at m (node_index_of homes c) ≡ false → node_index_of homes d ≡ Some m
      still q =
          a.homed.own m d
          (sym (ap (option_map (λ (v : Node). v.waiter.client)) (others m q)) ∙ e)

      other-one : (b : Bool) → (c == d) ≡ b → is_at m (node_index_of homes c) ≡ false → b ≡ false
      other-one false r q = refl
      other-one true r q =
          let same : c ≡ d = grind (arith, nat_tests) in
          let at = ap (is_at m) (ap (node_index_of homes) same ∙ still q) in
          absurd (false≢true (sym q ∙ (at ∙ eq-eqb m m refl)))

      kept : is_at m (node_index_of homes c) ≡ false → node_index_of homes' d ≡ Some m
      kept q =
          now d
          ∙ (ap (λ b. cond b None (node_index_of homes d)) (other-one (c == d) refl q) ∙ still q)

      go : (o : Option ℕ) → node_index_of homes c ≡ o → IfSome o (λ k. node_in nodes' k ≡ None)
          → node_index_of homes' d ≡ Some m
      go None h f = kept (ap (is_at m) h)
      go (Some k) h f = by (k == m) refl
        where
          by : (b : Bool) → (k == m) ≡ b → node_index_of homes' d ≡ Some m
          by true r =
              let same : k ≡ m = grind (arith, nat_tests) in
              let empty = ap (option_map (λ (v : Node). v.waiter.client))
              (ap (node_in nodes') (sym same) ∙ f) in
              absurd (none_some d (sym empty ∙ e))
          by false r = kept (ap (is_at m) h ∙ r)

  pub chains-dismissed : AreChains homes' nodes' queues es
  chains-dismissed =
      chains-agree homes homes' nodes nodes' queues es
      (λ d i.
      now d.1.client ∙ ap (λ b. cond b None (node_index_of homes d.1.client)) (other d i _ refl))
      (λ d i m e. node-left d.1.client m e (other d i _ refl)) go-own
      (record {
        there = λ d m h. let r = left d m h in
            ap is_some (node-left d m r.0 r.1) ∙ a.homed.there d m r.0;
        disjoint = λ d e m h k. a.homed.disjoint d e m (left d m h).0 (left e m k).0;
        own = left-mine;
        bounded = let was = a.homed.bounded in omega (arith, was, fewer);
      })
      a

  pub dismissed-admits : (d : ℕ) → (is_listed d (numbers homes') || has_waiter d es)
      ≡ (not (c == d) && (is_listed d (numbers homes) || has_waiter d es))
  dismissed-admits d =
      ap (λ b. b || has_waiter d es) (listed-lookup d homes' ∙ ap is_some (now d))
      ∙ go (c == d) refl
    where
      go : (b : Bool) → (c == d) ≡ b
          → (is_some (cond b None (node_index_of homes d)) || has_waiter d es)
          ≡ (not b && (is_listed d (numbers homes) || has_waiter d es))
      go true e =
          let same : c ≡ d = grind (arith, nat_tests) in
          ap (λ n. has_waiter n es) (sym same) ∙ none
      go false e = ap (λ b. b || has_waiter d es) (sym (listed-lookup d homes))

-- a client comes, after room was made for it
pub chains-joined : (homes room homes' : List (ℕ × ℕ))
    (nodes roomy nodes' : List (Option Node)) (queues : List (ℕ × Queue)) (es : List (ℕ × Waiter))
    (c n : ℕ) → AreChains homes nodes queues es → node_index_of homes c ≡ None
    → length homes + 1 < 2 ^ 32 → ((d : ℕ) → node_index_of room d ≡ node_index_of homes d)
    → length room ≡ length homes → roomy ≡ nodes
    → ((d : ℕ) → node_index_of homes' d ≡ cond (c == d) (Some n) (node_index_of room d))
    → length homes' ≡ length room + 1 → node_in roomy n ≡ None
    → entry_in nodes' n ≡ None → client_of_node nodes' n ≡ Some c
    → ((m : ℕ) → m ≢ n → node_in nodes' m ≡ node_in roomy m)
    → AreChains homes' nodes' queues es
chains-joined homes room homes' nodes roomy nodes' queues es c n a none bounded same count still now
    longer vacant idle its others =
    chains-admitted homes homes' nodes nodes' queues es c n a none
    (λ d. now d ∙ ap (cond (c == d) (Some n)) (same d)) (longer ∙ ap (λ l. l + 1) count)
    (ap (λ ns. node_in ns n) (sym still) ∙ vacant) idle its
    (λ m h. others m h ∙ ap (λ ns. node_in ns m) still) bounded
