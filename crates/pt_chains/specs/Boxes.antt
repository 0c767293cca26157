-- Boxes: which queues have a box, and the number of boxes.
use Rattle.std.specs.Prelude.{ℕ, ◌≡◌, ◌≢◌, ◌+◌, ◌<◌, ◌≤◌, Bool, List, [], ◌∷◌, Option, Some, None}
use Rattle.std.specs.Prelude.{min, replicate, slice_set, unwrap_or, IfSome, IfNone, IsSome}
use Rattle.std.specs.Prelude.{MatchOption, if◌then◌else◌, ◌==◌, not, slice_index, slice_index_or}
use Rattle.pt_types.specs.Limits.{max_priority}
use Rattle.pt_waitq.specs.declared.waiter.Waiter.{Waiter}
use Rattle.pt_chains.specs.declared.sides.Side.{Side}
use Rattle.pt_chains.specs.declared.sides.Queue.{Queue}
use Rattle.pt_waitq.specs.Waits.{is_listed}
use Rattle.pt_chains.specs.Chains.{numbers, side_of, HasNone, IsSameChain, IsUnlinked}

-- empty chains of one kind
abbrev pub no_side : Side
no_side =
    record {
      counts = replicate max_priority 0;
      heads = replicate max_priority None;
      tails = replicate max_priority None;
    }

-- a queue with no box
abbrev pub no_queue : Queue
no_queue = record { writers = no_side; readers = no_side; len = 0 }

-- the chain with this index is empty
pub record IsNoChain (side : Side) (i : ℕ) : Type 0 where
  pub count : slice_index side.counts i ≡ 0
  pub tail : slice_index_or side.tails i None ≡ None
  pub head : slice_index_or side.heads i None ≡ None

-- the chain of this kind and index has `n` waiters and these ends, and no other chain has a waiter
pub record IsLone (k : Bool) (p : ℕ) (first last : Option ℕ) (n : ℕ) (q : Queue) : Type 0 where
  pub len : q.len ≡ n
  pub count : (i : ℕ) → i < max_priority
      → slice_index (side_of k q).counts i ≡ (if p == i then n else 0)
  pub tail : (i : ℕ) → i < max_priority
      → slice_index_or (side_of k q).tails i None ≡ (if p == i then last else None)
  pub head : (i : ℕ) → i < max_priority
      → slice_index_or (side_of k q).heads i None ≡ (if p == i then first else None)
  pub other : (i : ℕ) → i < max_priority → IsNoChain (side_of (not k) q) i

-- the chains of one kind if all but this one are empty
abbrev pub lone_side : ℕ → Option ℕ → Option ℕ → ℕ → Side
lone_side p head tail n =
    record {
      counts = slice_set no_side.counts p n;
      heads = slice_set no_side.heads p head;
      tails = slice_set no_side.tails p tail;
    }

-- a queue with a single chain
abbrev pub lone_queue : Option ℕ → Option ℕ → ℕ → Bool → ℕ → Queue
lone_queue head tail n k p =
    record {
      writers = if k then lone_side p head tail n else no_side;
      readers = if k then no_side else lone_side p head tail n;
      len = n;
    }

-- the queue of a lone chain that is not in the box, or else the queue in the box, if any
abbrev pub queue_by : Option Queue → Option ℕ → Option ℕ → ℕ → Bool → ℕ → Queue
queue_by box None tail n k p = unwrap_or box no_queue
queue_by box (Some head) tail n k p = lone_queue (Some head) tail n k p

-- a queue has a box only while a call waits in it, and the box is empty while a lone chain is not
-- in it
abbrev pub IsBoxRule : Option Queue → Option ℕ → Option ℕ → ℕ → ℕ → Type 0
IsBoxRule box None tail n p = IfSome box (λ q. q.len ≢ 0)
IsBoxRule box (Some head) tail n p =
    (p < max_priority) × (n ≢ 0) × IsSome tail × MatchOption box ⊥ HasNone

-- the two queues have the same length and the same chains
pub record IsSame (a b : Queue) : Type 0 where
  pub len : b.len ≡ a.len
  pub chains : (k : Bool) (i : ℕ) → i < max_priority → IsSameChain (side_of k a) (side_of k b) i

-- a node was removed from a chain, and then the box from the queue if no waiter is left
pub record IsEmptied (k : Bool) (p : ℕ) (before next : Option ℕ) (old new : Queue)
    (box : Option Queue) : Type 0 where
  pub taken : IsUnlinked k p before next old (unwrap_or box new)
  pub emptied : IfSome box (λ q. (q.len ≡ 0) × (new ≡ no_queue))
  pub left : IfNone box (new.len ≢ 0)

-- the number of queues that have a waiter
abbrev pub busy_queue_count : List (ℕ × Waiter) → ℕ
busy_queue_count [] = 0
busy_queue_count (e ∷ es) = if is_listed e.0
    (numbers es) then busy_queue_count es else busy_queue_count es + 1

-- each queue with a waiter has a box, the boxes suffice for all queues that can have a waiter at
-- once, and the spares have room for all boxes
pub record AreBoxes (clients objects : ℕ) (es : List (ℕ × Waiter)) (spares room boxes : ℕ)
    : Type 0 where
  pub count : boxes ≡ busy_queue_count es + spares
  pub enough : min clients objects ≤ boxes
  pub fit : boxes ≤ room
