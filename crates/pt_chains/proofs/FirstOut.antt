-- The first of a queue, as it is taken out.
use Rattle.std.proofs.Common.{◌≡◌, ◌+◌, ℕ, List, [], ◌∷◌, Option, Some, None, inl, inr, nat_eq}
use Rattle.std.proofs.Common.{refl, sym, ap, ◌∙◌, subst, eq-eqb}
use Rattle.std.specs.Prelude.{◌==◌}
use Rattle.std.specs.Option.{option_and_then, option_map}
use Rattle.std.specs.Map.{lookup}
use Rattle.pt_waitq.specs.declared.waiter.Waiter.{Waiter}
use Rattle.pt_chains.specs.declared.nodes.Node.{Node}
use Rattle.pt_chains.specs.declared.sides.Queue.{Queue}
use Rattle.pt_waitq.specs.Queues.{In, head_of}
use Rattle.pt_waitq.specs.Waits.{queue_of}
use Rattle.pt_waitq.specs.ListLemmas.{any-in}
use Rattle.pt_waitq.specs.WaitingLemmas.{one_entry, queued-entry}
use Rattle.pt_chains.specs.Chains.{node_in, before_in, next_in, entry_at, node_index_of, index_of}
use Rattle.pt_chains.specs.Chains.{nodes_of}
use Rattle.pt_chains.specs.Chains.{chain_of, first_in, AreChains, IsFirst, Links}
use Rattle.pt_chains.proofs.ChainLemmas.{entry-there}
use Rattle.pt_chains.proofs.StepLemmas.{place-entry}
use Rattle.pt_waitq.proofs.MemberLemmas.{head-in}
use Rattle.pt_chains.proofs.FirstLemmas.{first-told}

-- the content of the node of the first of a queue
pub record IsHead (homes : List (ℕ × ℕ)) (nodes : List (Option Node)) (es : List (ℕ × Waiter))
    (o n : ℕ) (w : Waiter) (next before : Option ℕ) : Type 0 where
  pub node : node_in nodes n
      ≡ Some (record { object = Some o; waiter = w; next = next; before = before })
  pub home : node_index_of homes w.client ≡ Some n
  pub there : In (o, w) es
  pub first : Some w ≡ head_of (queue_of o es)

-- the first of a chain leads back to none
head-alone : (homes : List (ℕ × ℕ)) (nodes : List (Option Node)) (queues : List (ℕ × Queue))
    (es : List (ℕ × Waiter)) (a : AreChains homes nodes queues es) (o n : ℕ) (q : Queue)
    → lookup (nat_eq o) queues ≡ Some q → IsFirst q (Some n) → before_in nodes n ≡ None
head-alone homes nodes queues es a o n q at (inr none) = absurd cc
head-alone homes nodes queues es a o n q at (inl (k, p, chain, head)) =
    let whole = a.chains o q at k p chain.within in
    go (nodes_of (index_of homes) (chain_of o k (p + 1) es)) whole.links (head ∙ whole.head)
  where
    go : (ns : List ℕ) → Links (next_in nodes) (before_in nodes) None ns → Some n ≡ first_in ns
        → before_in nodes n ≡ None
    go [] links e = absurd cc
    go (m ∷ ms) links e = let same : n ≡ m = cc in ap (before_in nodes) same ∙ links.0

-- so does the first of a queue
first-alone : (homes : List (ℕ × ℕ)) (nodes : List (Option Node)) (queues : List (ℕ × Queue))
    (es : List (ℕ × Waiter)) (a : AreChains homes nodes queues es) (o n : ℕ)
    → (lookup (nat_eq o) queues ≡ None → Some n ≡ None)
    → ((q : Queue) → lookup (nat_eq o) queues ≡ Some q → IsFirst q (Some n))
    → before_in nodes n ≡ None
first-alone homes nodes queues es a o n none some = go (lookup (nat_eq o) queues) refl
  where
    go : (found : Option Queue) → lookup (nat_eq o) queues ≡ found → before_in nodes n ≡ None
    go None e = let wrong : ◌≡◌ {A = Option ℕ} (Some n) None = none e in absurd cc
    go (Some q) e = head-alone homes nodes queues es a o n q e (some q e)

pub head-out : (homes : List (ℕ × ℕ)) (nodes : List (Option Node)) (queues : List (ℕ × Queue))
    (es : List (ℕ × Waiter)) (a : AreChains homes nodes queues es) (o at n : ℕ) (w : Waiter)
    (next before alone : Option ℕ)
    → (lookup (nat_eq o) queues ≡ None → Some n ≡ None)
    → ((q : Queue) → lookup (nat_eq o) queues ≡ Some q → IsFirst q (Some n))
    → node_in nodes n
    ≡ Some (record { object = Some at; waiter = w; next = next; before = before })
    → alone ≡ None
    → IsHead homes nodes es o n w next alone
head-out homes nodes queues es a o at n w next before alone none some is lone =
    record {
      node = is ∙ (ap (λ k. Some (node_of k before)) same ∙ ap (λ b. Some (node_of o b)) ahead);
      home = home;
      there = subst (λ k. In (k, w) es) same there;
      first = first;
    }
  where
    node_of : ℕ → Option ℕ → Node
    node_of k b = record { object = Some k; waiter = w; next = next; before = b }

    ahead : before ≡ alone
    ahead =
        sym (ap (option_and_then (λ (k : Node). k.before)) is)
        ∙ (first-alone homes nodes queues es a o n none some ∙ sym lone)

    home : node_index_of homes w.client ≡ Some n
    home = a.homed.own n w.client (ap (option_map (λ (k : Node). k.waiter.client)) is)

    there : In (at, w) es
    there =
        (entry-there w.client es (Some (at, w))
        (sym (place-entry homes nodes w.client n (node_of at before) home is) ∙ a.own w.client)).0

    first : Some w ≡ head_of (queue_of o es)
    first =
        sym (ap (λ k. option_map (λ (e : ℕ × Waiter). e.1) (option_and_then entry_at k)) is)
        ∙ first-told homes nodes queues es a o (Some n) none some

    same : at ≡ o
    same =
        let stands = any-in (λ (v : Waiter). v.client == w.client) (queue_of o es) w
        (head-in (queue_of o es) w (sym first)) (eq-eqb w.client w.client refl) in
        let d = queued-entry w.client o es stands in
        let one = one_entry (at, w) d.0 es a.queued.once there d.1 (sym d.3) in
        ap (λ (e : ℕ × Waiter). e.0) one ∙ d.2
