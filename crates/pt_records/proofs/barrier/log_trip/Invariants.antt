use Rattle.std.proofs.Common.{ℕ, ◌≡◌, ◌≤◌, ◌+◌, ◌++◌, ◌==◌, false, length, map}
use Rattle.pt_records.specs.Arrivals.{answer_to_earlier, with_serial}
use Rattle.pt_records.proofs.TripLemmas.{ClosedSoFar}
use Rattle.pt_records.proofs.barrier.log_trip.Given as goal

abbrev pub invariant-loop-left : goal.invariant-loop-left
invariant-loop-left g l =
    record {
      replies : l.answers.items
          ++ with_serial (map (answer_to_earlier l.at) ((g.Q.WaitList.seen l.queues).queue l.b))
          ≡ l.fn.answers.items
          ++ with_serial (map (answer_to_earlier l.at) ((g.Q.WaitList.seen l.fn.queues).queue l.b));
      room : length l.answers.items + length ((g.Q.WaitList.seen l.queues).queue l.b)
          ≤ l.fn.answers.capacity;
      capacity : l.answers.capacity ≡ l.fn.answers.capacity;
      left : l.left ≡ length ((g.Q.WaitList.seen l.queues).queue l.b);
      closed : ClosedSoFar l.fn.clients l.clients
          (with_serial (map (answer_to_earlier l.at) ((g.Q.WaitList.seen l.fn.queues).queue l.b)))
          (with_serial (map (answer_to_earlier l.at) ((g.Q.WaitList.seen l.queues).queue l.b)));
      others : (q : ℕ) → (l.b == q) ≡ false
          → (g.Q.WaitList.seen l.queues).queue q ≡ (g.Q.WaitList.seen l.fn.queues).queue q;
      admitted : (c : ℕ)
          → (g.Q.WaitList.seen l.queues).admitted c ≡ (g.Q.WaitList.seen l.fn.queues).admitted c;
      is_queue : (o : ℕ)
          → (g.Q.WaitList.seen l.queues).is_queue o ≡ (g.Q.WaitList.seen l.fn.queues).is_queue o;
    }

abbrev pub decreases-loop-left : goal.decreases-loop-left
decreases-loop-left g l = length ((g.Q.WaitList.seen l.queues).queue l.b)
