-- CallQueues: the queues of waiting calls, as they are read off a history.
use Rattle.std.specs.Prelude.{ℕ, ◌≡◌, true, false, Option, is_some, if◌then◌else◌}
use Rattle.pt_types.specs.Limits.{max_priority}
use Rattle.pt_waitq.specs.declared.waiter.Waiter.{Waiter}
use Rattle.pt_waitq.specs.Members.{Members}
use Rattle.pt_waitq.specs.Queues.{QueuesView, is_queued_in, HasLatestArrival}
use Rattle.pt_model.specs.Histories.{History}
use Rattle.pt_model.specs.Searches.{In}
use Rattle.pt_model.specs.Clients.{is_alive}
use Rattle.pt_model.specs.Objects.{kind_of}
use Rattle.pt_model.specs.declared.waiting_call.WaitingCall.{WaitingCall}
use Rattle.pt_model.specs.declared.waiting_call.Move.{Move}
use Rattle.pt_model.specs.declared.waiting_call.Role.{Role}
use Rattle.pt_model.specs.WaitingCall.{is_barrier_wait, is_write_lock}
use Rattle.pt_model.specs.Answers.{open_calls}
use Rattle.pt_model.specs.Moves.{wait_move, arrival_by, wait_object}

-- the priority with which a call of this role waits; at a barrier, where all calls go on at once,
-- each has the highest, so that they wait in order of their arrival  [XSH pthread_barrier_wait]
abbrev pub queue_priority : Role → ℕ → ℕ
queue_priority role priority = if is_barrier_wait role then max_priority else priority

-- a call as it waits, after this move if it was moved  [XSH 2.8.4]
abbrev pub waiter_by : Option Move → WaitingCall → Waiter
waiter_by move w =
    record {
      client = w.client;
      place = w.place;
      prio = queue_priority w.role w.priority;
      writer = is_write_lock w.role;
      moved = (arrival_by move w.place).0;
    }

-- an open call as it waits, with what decides its turn  [XSH 2.8.4]
abbrev pub waiter : History → WaitingCall → Waiter
waiter h w = waiter_by (wait_move h w.place) w

-- an arrival as it waits, given its client and its place  [XSH pthread_barrier_wait]
abbrev pub barrier_waiter : ℕ → ℕ → Waiter
barrier_waiter c j = record {
  client = c;
  place = j;
  prio = max_priority;
  writer = false;
  moved = j;
}

-- the queues have the open calls, each at the object where it waits, and no others; there is room
-- for each living client's call, and a queue for each object  [XSH 2.8.4]
pub record IsQueued (h : History) (v : QueuesView) : Type 0 where
  pub members : Members (wait_object h) (waiter h) (open_calls h) v.queue
  pub admits : (c : ℕ) → v.admitted c ≡ is_alive h c
  pub makes : (o : ℕ) → v.is_queue o ≡ is_some (kind_of h o)

-- a client's open call may take its place: it is in no queue, there is room for it, its object has
-- a queue, and its arrival is the greatest of its priority and kind  [XSH 2.8.4]
pub record CanEnqueue (h : History) (c : ℕ) (v : QueuesView) : Type 0 where
  pub call : WaitingCall
  pub «open» : In call (open_calls h)
  pub its : call.client ≡ c
  pub room : v.admitted c ≡ true
  pub nowhere : (q : ℕ) → is_queued_in c (v.queue q) ≡ false
  pub there : v.is_queue (wait_object h call) ≡ true
  pub latest : HasLatestArrival (waiter h call) (v.queue (wait_object h call))
