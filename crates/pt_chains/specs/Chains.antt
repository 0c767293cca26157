-- Chains: what nodes and the ends of chains say about the queued waiters.
use Rattle.std.specs.Prelude.{ℕ, ◌≡◌, ◌≢◌, ◌⊎◌, ◌==◌, ◌+◌, ◌-◌, ◌<◌, ◌≤◌, ◌^◌, Bool, true, false}
use Rattle.std.specs.Prelude.{◌&&◌, not, List, [], ◌∷◌, ◌++◌, Option, Some, None, is_some, IsSome}
use Rattle.std.specs.Prelude.{filter, map, length, slice_index, slice_index_or, unwrap_or, nat_eq}
use Rattle.std.specs.Prelude.{if◌then◌else◌}
use Rattle.std.specs.Option.{option_and_then, option_map}
use Rattle.std.specs.Map.{lookup}
use Rattle.std.specs.List.{AllByRecursion as Each}
use Rattle.pt_types.specs.KeyOrder.{kind_rank}
use Rattle.pt_types.specs.Limits.{max_priority}
use Rattle.pt_waitq.specs.declared.waiter.Waiter.{Waiter}
use Rattle.pt_chains.specs.declared.nodes.Node.{Node}
use Rattle.pt_chains.specs.declared.sides.Side.{Side}
use Rattle.pt_chains.specs.declared.sides.Queue.{Queue}
use Rattle.pt_waitq.specs.Waits.{queue_of, is_listed, AllQueued}

-- the keys of a map
abbrev pub numbers : {X : Type 0} → List (ℕ × X) → List ℕ
numbers es = map (λ e. e.0) es

-- the waiters after one is put in, given its queue's number, or removed, given none
abbrev pub waiters_after : List (ℕ × Waiter) → Option ℕ → Waiter → List (ℕ × Waiter)
waiters_after es (Some o) w = es ++ (o, w) ∷ []
waiters_after es None w = filter (λ e. not (e.1.client == w.client)) es

abbrev pub waiting_from : List (ℕ × Waiter) → List (Option ℕ × Waiter) → List (ℕ × Waiter)
waiting_from es [] = es
waiting_from es (a ∷ log) = waiting_from (waiters_after es a.0 a.1) log

-- the queued waiters, in the order in which they were put in
abbrev pub queued_waiters : List (Option ℕ × Waiter) → List (ℕ × Waiter)
queued_waiters log = waiting_from [] log

-- whether a waiter has this kind and priority
abbrev pub is_kind : Bool → ℕ → Waiter → Bool
is_kind k p w = (w.prio == p) && (kind_rank w.writer == kind_rank k)

abbrev pub in_chain : ℕ → Bool → ℕ → ℕ × Waiter → Bool
in_chain o k p e = (e.0 == o) && is_kind k p e.1

-- the waiters of one chain, in the order in which they were put in
abbrev pub chain_of : ℕ → Bool → ℕ → List (ℕ × Waiter) → List (ℕ × Waiter)
chain_of o k p es = filter (in_chain o k p) es

abbrev pub first_in : List ℕ → Option ℕ
first_in [] = None
first_in (n ∷ ns) = Some n

abbrev pub last_in : Option ℕ → List ℕ → Option ℕ
last_in b [] = b
last_in b (n ∷ ns) = last_in (Some n) ns

abbrev pub is_at : ℕ → Option ℕ → Bool
is_at c None = false
is_at c (Some n) = n == c

-- each number leads to the one after it, and back to the one before it
abbrev pub Links : (ℕ → Option ℕ) → (ℕ → Option ℕ) → Option ℕ → List ℕ → Type 0
Links next before b [] = Unit {0}
Links next before b (n ∷ ns) =
    (before n ≡ b) × (next n ≡ first_in ns) × Links next before (Some n) ns

-- the node at an index
abbrev pub node_in : List (Option Node) → ℕ → Option Node
node_in nodes n = slice_index_or nodes n None

abbrev pub next_in : List (Option Node) → ℕ → Option ℕ
next_in nodes n = option_and_then (λ node. node.next) (node_in nodes n)

abbrev pub before_in : List (Option Node) → ℕ → Option ℕ
before_in nodes n = option_and_then (λ node. node.before) (node_in nodes n)

-- the waiter of a node that is in a chain, with its queue's number
abbrev pub entry_at : Node → Option (ℕ × Waiter)
entry_at node = option_map (λ o. (o, node.waiter)) node.object

abbrev pub entry_in : List (Option Node) → ℕ → Option (ℕ × Waiter)
entry_in nodes n = option_and_then entry_at (node_in nodes n)

-- the client whose node is at an index
abbrev pub client_of_node : List (Option Node) → ℕ → Option ℕ
client_of_node nodes n = option_map (λ node. node.waiter.client) (node_in nodes n)

-- the index of a client's node, and the entry in that node
abbrev pub node_index_of : List (ℕ × ℕ) → ℕ → Option ℕ
node_index_of homes c = lookup (nat_eq c) homes

abbrev pub index_of : List (ℕ × ℕ) → ℕ → ℕ
index_of homes c = unwrap_or (node_index_of homes c) 0

abbrev pub entry_of_client : List (ℕ × ℕ) → List (Option Node) → ℕ → Option (ℕ × Waiter)
entry_of_client homes nodes c = option_and_then (entry_in nodes) (node_index_of homes c)

-- the indices of the nodes of these waiters
abbrev pub nodes_of : (ℕ → ℕ) → List (ℕ × Waiter) → List ℕ
nodes_of index es = map (λ e. index e.1.client) es

abbrev pub first_entry : List (ℕ × Waiter) → Option (ℕ × Waiter)
first_entry [] = None
first_entry (e ∷ es) = Some e

abbrev pub side_of : Bool → Queue → Side
side_of true q = q.writers
side_of false q = q.readers

-- no number occurs twice
abbrev pub Unique : List ℕ → Type 0
Unique [] = Unit {0}
Unique (n ∷ ns) = (is_listed n ns ≡ false) × Unique ns

-- the chain with this index has exactly these nodes, by its count, its ends and the links
pub record IsChain (next before : ℕ → Option ℕ) (side : Side) (p : ℕ) (ns : List ℕ) : Type 0 where
  pub count : slice_index side.counts p ≡ length ns
  pub head : slice_index_or side.heads p None ≡ first_in ns
  pub tail : slice_index_or side.tails p None ≡ last_in None ns
  pub links : Links next before None ns

-- a node with a client's number is that client's node
abbrev pub AreOwn : List (ℕ × ℕ) → List (Option Node) → Type 0
AreOwn homes nodes = (n c : ℕ) → client_of_node nodes n ≡ Some c → node_index_of homes c ≡ Some n

-- each client has a separate node, and there are fewer than 2^32 clients
pub record AreNodeIndexes (homes : List (ℕ × ℕ)) (nodes : List (Option Node)) : Type 0 where
  pub there : (c n : ℕ) → node_index_of homes c ≡ Some n → IsSome (node_in nodes n)
  pub disjoint : (c d n : ℕ) → node_index_of homes c ≡ Some n → node_index_of homes d ≡ Some n
      → c ≡ d
  pub own : AreOwn homes nodes
  pub bounded : length homes < 2 ^ 32

-- the nodes and the ends of the chains are those of the queued waiters
pub record AreChains (homes : List (ℕ × ℕ)) (nodes : List (Option Node))
    (queues : List (ℕ × Queue)) (es : List (ℕ × Waiter)) : Type 0 where
  pub queued : AllQueued (numbers queues) es
  pub homed : AreNodeIndexes homes nodes
  -- a client's node has the client's entry
  pub own : (c : ℕ) → entry_of_client homes nodes c ≡ first_entry (filter (λ e. e.1.client == c) es)
  pub levels : Each (λ e. (1 ≤ e.1.prio) × (e.1.prio ≤ max_priority)) es
  -- a queue's length is the number of its waiters
  pub len : (o : ℕ) (q : Queue) → lookup (nat_eq o) queues ≡ Some q
      → q.len ≡ length (queue_of o es)
  -- each chain is in the order of arrival
  pub sorted : (o : ℕ) (k : Bool) (p : ℕ)
      → queue_of o (chain_of o k p es) ≡ map (λ e. e.1) (chain_of o k p es)
  pub chains : (o : ℕ) (q : Queue) → lookup (nat_eq o) queues ≡ Some q → (k : Bool) (p : ℕ)
      → p < max_priority
      → IsChain (next_in nodes) (before_in nodes) (side_of k q) p
      (nodes_of (index_of homes) (chain_of o k (p + 1) es))

-- the chain with this index has the same count and ends as before
pub record IsSameChain (old new : Side) (p : ℕ) : Type 0 where
  pub count : slice_index new.counts p ≡ slice_index old.counts p
  pub tail : slice_index_or new.tails p None ≡ slice_index_or old.tails p None
  pub head : slice_index_or new.heads p None ≡ slice_index_or old.heads p None

-- a node was made the tail of a chain
pub record IsAppended (k : Bool) (p node : ℕ) (tail : Option ℕ) (old new : Queue) : Type 0 where
  pub len : new.len ≡ old.len + 1
  pub other : (i : ℕ) → i < max_priority
      → IsSameChain (side_of (not k) old) (side_of (not k) new) i
  pub last : tail ≡ slice_index_or (side_of k old).tails p None
  pub counts : (i : ℕ) → i < max_priority → slice_index (side_of k new).counts i
      ≡ (if p == i then slice_index (side_of k old).counts p + 1 else slice_index
      (side_of k old).counts i)
  pub tails : (i : ℕ) → i < max_priority → slice_index_or (side_of k new).tails i None
      ≡ (if p == i then Some node else slice_index_or (side_of k old).tails i None)
  pub heads : (i : ℕ) → i < max_priority → slice_index_or (side_of k new).heads i None
      ≡ (if (p == i) && not (is_some (slice_index_or (side_of k old).tails p None))
      then Some node
      else slice_index_or (side_of k old).heads i None)

-- a node was removed from a chain
pub record IsUnlinked (k : Bool) (p : ℕ) (before next : Option ℕ) (old new : Queue) : Type 0 where
  pub len : new.len + 1 ≡ old.len
  pub other : (i : ℕ) → i < max_priority
      → IsSameChain (side_of (not k) old) (side_of (not k) new) i
  pub counts : (i : ℕ) → i < max_priority → slice_index (side_of k new).counts i
      ≡ (if p == i then slice_index (side_of k old).counts p - 1 else slice_index
      (side_of k old).counts i)
  pub tails : (i : ℕ) → i < max_priority → slice_index_or (side_of k new).tails i None
      ≡ (if (p == i) && not (is_some next) then before else slice_index_or
      (side_of k old).tails i None)
  pub heads : (i : ℕ) → i < max_priority → slice_index_or (side_of k new).heads i None
      ≡ (if (p == i) && not (is_some before) then next else slice_index_or
      (side_of k old).heads i None)

-- the queue has no waiter
pub record HasNone (q : Queue) : Type 0 where
  pub len : q.len ≡ 0
  pub counts : (k : Bool) (p : ℕ) → p < max_priority → slice_index (side_of k q).counts p ≡ 0
  pub heads : (k : Bool) (p : ℕ) → p < max_priority
      → slice_index_or (side_of k q).heads p None ≡ None
  pub tails : (k : Bool) (p : ℕ) → p < max_priority
      → slice_index_or (side_of k q).tails p None ≡ None

-- each chain of the queue is empty
abbrev pub HasNoWaiter : Queue → Type 0
HasNoWaiter q = (k : Bool) (p : ℕ) → p < max_priority → slice_index (side_of k q).counts p ≡ 0

-- the chain is not empty, and no chain of another kind or priority that goes ahead of it has a
-- waiter  [XSH pthread_rwlock_unlock, 2.8.4]
pub record IsFirstChain (q : Queue) (k : Bool) (p : ℕ) : Type 0 where
  pub within : p < max_priority
  pub some : slice_index (side_of k q).counts p ≢ 0
  pub above : (l : Bool) (i : ℕ) → i < max_priority → p < i
      → slice_index (side_of l q).counts i ≡ 0
  pub beside : (l : Bool) → kind_rank l < kind_rank k → slice_index (side_of l q).counts p ≡ 0

-- it is the head of the first chain, or none if all chains are empty
-- [XSH pthread_rwlock_unlock, 2.8.4]
abbrev pub IsFirst : Queue → Option ℕ → Type 0
IsFirst q head =
    ((k : Bool) × (p : ℕ) × IsFirstChain q k p
    × (head ≡ slice_index_or (side_of k q).heads p None))
    ⊎ (HasNoWaiter q × (head ≡ None))

-- it is the head of the first chain of writers, or none if all of these are empty
-- [XSH pthread_rwlock_unlock]
abbrev pub IsFirstWriter : Queue → Option ℕ → Type 0
IsFirstWriter q head =
    ((p : ℕ) × (p < max_priority) × (slice_index q.writers.counts p ≢ 0)
    × ((i : ℕ) → i < max_priority → p < i → slice_index q.writers.counts i ≡ 0)
    × (head ≡ slice_index_or q.writers.heads p None))
    ⊎ (((p : ℕ) → p < max_priority → slice_index q.writers.counts p ≡ 0) × (head ≡ None))

-- a chain of writers of this priority or a higher one is not empty  [XSH pthread_rwlock_rdlock]
abbrev pub HasWriterFrom : Queue → ℕ → Type 0
HasWriterFrom q p =
    (i : ℕ) × (p ≤ i) × (i < max_priority) × (slice_index q.writers.counts i ≢ 0)
