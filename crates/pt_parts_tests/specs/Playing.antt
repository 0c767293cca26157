-- Playing: lists of waiters on which each drawn call may be made.
use Rattle.std.specs.Prelude.{ℕ, ◌≡◌, ◌<◌, true}
use Rattle.std.specs.List.{AllByRecursion as Each}
use Rattle.pt_waitq.specs.Queues.{QueuesView}

-- the number of clients that are admitted, and the number of queues that are made
abbrev pub clients_in_play : ℕ
clients_in_play = 40

abbrev pub queues_in_play : ℕ
queues_in_play = 2

-- the clients are admitted, the queues are made, and all waiters came before this place
pub record IsInPlay (v : QueuesView) (place : ℕ) : Type 0 where
  pub clients : (c : ℕ) → c < clients_in_play → v.admitted c ≡ true
  pub queues : (q : ℕ) → q < queues_in_play → v.is_queue q ≡ true
  pub earlier : (q : ℕ) → Each (λ w. w.moved < place) (v.queue q)
