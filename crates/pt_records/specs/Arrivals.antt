-- Arrivals: the calls that wait at a barrier, as its queue has them, and the answers of a Trip.
use Rattle.std.specs.Prelude.{ℕ, ◌≡◌, ◌==◌, List, [], ◌∷◌, Some, length, option_map, if◌then◌else◌}
use Rattle.std.specs.Prelude.{None, Bool, ◌≤◌}
use Rattle.std.specs.List.{AllByRecursion as Each}
use Rattle.pt_table.specs.declared.clients.ClientRow.{ClientRow}
use Rattle.pt_table.specs.ClientRows.{client_value}
use Rattle.pt_types.specs.declared.outcome.Outcome.TheVariants.{Done, Serial}
use Rattle.pt_types.specs.declared.time.Clock.{Clock}
use Rattle.pt_waitq.specs.declared.waiter.Waiter.{Waiter}
use Rattle.pt_waitq.specs.Queues.{QueuesView}
use Rattle.pt_model.specs.Searches.{In}
use Rattle.pt_model.specs.Histories.{History}
use Rattle.pt_model.specs.declared.waiting_call.Role.TheVariants.{ForBarrier}
use Rattle.pt_model.specs.declared.waiting_call.WaitingCall.{WaitingCall}
use Rattle.pt_model.specs.Answers.{at_barrier, open_calls}
use Rattle.pt_records.specs.declared.answers.Answered.{Answered}
use Rattle.pt_records.specs.declared.clients.Caller.{Caller}
use Rattle.pt_records.specs.Callers.{HasDistinctNumbers, caller_after_answer}

-- the answer that the entry at place k gives to a call that another call follows
-- [XSH pthread_barrier_wait]
abbrev pub answer_before_last : ℕ → WaitingCall → Answered
answer_before_last k w = record { at = k; client = w.client; place = w.place; outcome = Done }

-- the answer that the entry at place k gives to a waiter's call that another call follows
-- [XSH pthread_barrier_wait]
abbrev pub answer_to_earlier : ℕ → Waiter → Answered
answer_to_earlier k v = record { at = k; client = v.client; place = v.place; outcome = Done }

-- the answer that the entry at place k gives to a waiter's call: SERIAL for the last one, 0 for
-- others  [XSH pthread_barrier_wait, which one is profile]
abbrev pub answer_to : ℕ → Bool → Waiter → Answered
answer_to k last v =
    record {
      at = k;
      client = v.client;
      place = v.place;
      outcome = if last then Serial else Done;
    }

-- the waiter has the client and the place of the call
abbrev pub WaitsAs : WaitingCall → Waiter → Type 0
WaitsAs w v = (v.client ≡ w.client) × (v.place ≡ w.place)

-- no waiter has a lower place than one ahead of it
abbrev pub AreInOrder : List Waiter → Type 0
AreInOrder [] = Unit {0}
AreInOrder (v ∷ vs) = Each (λ u. v.place ≤ u.place) vs × AreInOrder vs

-- the waiters are those of the calls that wait at the barrier, in order of their places
-- [XSH pthread_barrier_wait]
pub record AreArrivals (h : History) (b : ℕ) (vs : List Waiter) : Type 0 where
  pub has_call : (v : Waiter) → In v vs
      → (w : WaitingCall) × (In w (at_barrier b (open_calls h)) × WaitsAs w v)
  pub in_queue : (w : WaitingCall) → In w (at_barrier b (open_calls h))
      → (v : Waiter) × (In v vs × WaitsAs w v)
  pub in_order : AreInOrder vs

-- the barrier's queue is empty, and nothing else has changed  [XSH pthread_barrier_wait]
pub record Empties (b : ℕ) (old new : QueuesView) : Type 0 where
  pub queues : (q : ℕ) → new.queue q ≡ if b == q then [] else old.queue q
  pub admitted : (c : ℕ) → new.admitted c ≡ old.admitted c
  pub is_queue : (o : ℕ) → new.is_queue o ≡ old.is_queue o

-- these answers, with SERIAL as the outcome of the last one
abbrev pub with_serial : List Answered → List Answered
with_serial [] = []
with_serial (a ∷ []) = record a { outcome = Serial } ∷ []
with_serial (a ∷ b ∷ ts) = a ∷ with_serial (b ∷ ts)

-- a row after its client's open call got this answer
abbrev pub caller_after_reply : Answered → Caller → Caller
caller_after_reply a v = caller_after_answer (Some a.outcome) v

-- a row of client d after these answers
abbrev pub caller_after_replies : ℕ → List Answered → Caller → Caller
caller_after_replies d [] v = v
caller_after_replies d (a ∷ ts) v = caller_after_replies d ts
    (if a.client == d then caller_after_reply a v else v)

-- each client's row is closed by the answers to that client, and the other rows stay the same
pub record ClosesBy (old new : List (ClientRow Caller)) (answers : List Answered) : Type 0 where
  pub look : (d : ℕ) → client_value new d
      ≡ option_map (caller_after_replies d answers) (client_value old d)
  pub many : length new ≡ length old
  pub once : HasDistinctNumbers old → HasDistinctNumbers new

-- a row after its client's call at place j began to wait at barrier b  [XSH pthread_barrier_wait]
abbrev pub caller_after_arrival : ℕ → ℕ → ℕ → Clock → Caller → Caller
caller_after_arrival j c b k v =
    record v {
      «open» = Some (record {
        call = record {
          place = j;
          client = c;
          priority = v.priority;
          object = b;
          role = ForBarrier;
          clock = k;
          deadline = None;
        };
        moved = None;
      });
      latest = Some j;
      answer = None;
    }
