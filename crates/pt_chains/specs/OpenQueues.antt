-- OpenQueues: the queues that exist, each with the chains of its row, if it has one.
use Rattle.std.specs.Prelude.{ℕ, ◌≡◌, ◌==◌, ◌+◌, ◌<◌, ◌≤◌, ◌^◌, ◌%◌, Bool, true, false, not, List}
use Rattle.std.specs.Prelude.{[], ◌∷◌, ◌++◌, filter, map, length, slice_index_or, unwrap_or, nat_eq}
use Rattle.std.specs.Map.{lookup}
use Rattle.pt_chains.specs.declared.sides.Queue.{Queue}
use Rattle.pt_waitq.specs.Waits.{is_listed}
use Rattle.pt_chains.specs.Chains.{numbers, Unique}
use Rattle.pt_chains.specs.Boxes.{no_queue}

-- the queues' numbers after one is made (true) or discarded (false)
abbrev pub with_existing : List ℕ → Bool → ℕ → List ℕ
with_existing os true o = os ++ o ∷ []
with_existing os false o = filter (λ n. not (n == o)) os

abbrev pub existing_from : List ℕ → List (Bool × ℕ) → List ℕ
existing_from os [] = os
existing_from os (a ∷ log) = existing_from (with_existing os a.0 a.1) log

-- the numbers of the queues that exist, in the order in which they were made
abbrev pub existing_by : List (Bool × ℕ) → List ℕ
existing_by log = existing_from [] log

-- the chains in a queue's row, or empty chains if it has no row
abbrev pub queue_at : List (ℕ × Queue) → ℕ → Queue
queue_at rows o = unwrap_or (lookup (nat_eq o) rows) no_queue

-- the queues of these numbers, with the chains of their rows
abbrev pub queues_by : List ℕ → List (ℕ × Queue) → List (ℕ × Queue)
queues_by os rows = map (λ o. (o, queue_at rows o)) os

-- whether it is noted that a queue with the same low bits of its number has had a row
abbrev pub is_open : List Bool → ℕ → Bool
is_open open_flags o = slice_index_or open_flags (o % 4096) false

-- each row is that of a queue that exists and is noted, and there is room for a row of each queue
pub record AreQueues (os : List ℕ) (rows : List (ℕ × Queue)) (spare : ℕ) (open_flags : List Bool)
    (len : ℕ) : Type 0 where
  pub once : Unique os
  pub is_queue : (o : ℕ) → is_listed o (numbers rows) ≡ true → is_listed o os ≡ true
  pub noted : (o : ℕ) → is_listed o (numbers rows) ≡ true → is_open open_flags o ≡ true
  pub count : len ≡ length os
  pub bounded : len < 2 ^ 32
  pub room : len ≤ length rows + spare
