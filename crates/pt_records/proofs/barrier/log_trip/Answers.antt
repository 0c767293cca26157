use Rattle.std.proofs.Common.{◌≡◌, ℕ, ◌<◌, ◌∷◌, ◌++◌, [], length, map, append-nil, ap, sym, ◌∙◌}
use Rattle.std.proofs.Common.{subst, arith, length-append, ◌-◌, ◌==◌, ◌+◌, ◌≤◌, List, refl}
use Rattle.std.specs.Prelude.{IsSome}
use Rattle.std.proofs.lemmas.Bool.Decides.{nat_tests}
use Rattle.pt_waitq.specs.declared.waiter.Waiter.{Waiter}
use Rattle.pt_records.specs.declared.answers.Answered.{Answered}
use Rattle.pt_records.specs.Arrivals.{answer_to, answer_to_earlier, with_serial}
use Rattle.pt_records.proofs.QueueClears.{emptied-one, first-out, first-split, none-left}
use Rattle.pt_records.proofs.QueueClears.{others-stay, serial-first, some-first, told-first, taken}
use Rattle.pt_records.proofs.TripLemmas.{caller_after_answer-end, caller_after_answer-more}
use Rattle.pt_records.proofs.barrier.log_trip.Goals as goal

one-fewer : (left : ℕ) (old new : List Waiter) (first : Waiter) → left ≡ length old
    → old ≡ first ∷ new → left - 1 ≡ length new
one-fewer left old new first is split = omega (arith, is, ap length split)

room-told : (xs ys : List Answered) (a : Answered) (old new : List Waiter) (first : Waiter)
    (room : ℕ) → length xs + length old ≤ room → ys ≡ xs ++ a ∷ [] → old ≡ first ∷ new
    → length ys + length new ≤ room
room-told xs ys a old new first room less replies split =
    omega (arith, less, ap length replies, length-append xs (a ∷ []), ap length split)

-- at least one waiter is left, so there is a first one
pub unwrap-first-requires : goal.unwrap-first-requires
unwrap-first-requires g c =
    let queue = (g.Q.WaitList.seen c.loop-left.queues).queue in
    let some : 0 < c.loop-left.left = grind (arith, nat_tests, c.loop-left-test.true) in
    subst (λ o. IsSome o) (sym c.take_first.ensures.first)
    (some-first (queue c.args.b) (omega (arith, some, c.loop-left.invariant.left)))

-- there is room for the answer to the first one
pub push-requires : goal.push-requires
push-requires g c =
    let queue = (g.Q.WaitList.seen c.loop-left.queues).queue in
    omega (
      arith,
      c.loop-left.invariant.room,
      c.loop-left.invariant.capacity,
      first-out (queue c.args.b) c.unwrap-first.result
          (sym c.take_first.ensures.first ∙ c.unwrap-first.ensures),
    )

-- the first one is removed from its queue
pub loop-left-smaller : goal.loop-left-smaller
loop-left-smaller g c =
    let queue = (g.Q.WaitList.seen c.loop-left.queues).queue in
    let out = taken queue (g.Q.WaitList.seen c.take_first.new.self).queue _ c.unwrap-first.result
    c.unwrap-first.ensures c.take_first.ensures.taken in
    subst (λ (n : ℕ). n < length (queue c.args.b)) (sym (ap length (out c.args.b)))
    (first-out (queue c.args.b) c.unwrap-first.result
    (sym c.take_first.ensures.first ∙ c.unwrap-first.ensures))

-- no other queue changes
pub loop-left-preserved : goal.loop-left-preserved
loop-left-preserved g c =
    let queue = (g.Q.WaitList.seen c.loop-left.queues).queue in
    let queue' = (g.Q.WaitList.seen c.take_first.new.self).queue in
    let b = c.args.b in
    let at = c.args.at in
    let first = c.unwrap-first.result in
    let a = c.answer_to-answer.result in
    let head = sym c.take_first.ensures.first ∙ c.unwrap-first.ensures in
    let kept = c.loop-left.invariant in
    let out = taken queue queue' _ first c.unwrap-first.ensures c.take_first.ensures.taken in
    let split : queue b ≡ first ∷ queue' b =
    first-split (queue b) first head
    (g.met.Q.WaitList.once c.loop-left.queues first.client b)
    ∙ ap (λ vs. first ∷ vs) (sym (out b)) in
    let fewer : c.loop-left.left - 1 ≡ length (queue' b) =
    one-fewer c.loop-left.left (queue b) (queue' b) first kept.left split in
    let last : (c.loop-left.left - 1 == 0) ≡ (length (queue' b) == 0) =
    ap (λ n. n == 0) fewer in
    let rest = with_serial (map (answer_to_earlier at) (queue' b)) in
    let next : with_serial (map (answer_to_earlier at) (queue b)) ≡ a ∷ rest =
    ap (λ vs. with_serial (map (answer_to_earlier at) vs)) split
    ∙ (serial-first at first (queue' b)
    ∙ (ap (λ t. answer_to at t first ∷ rest) (sym last)
    ∙ ap (λ x. x ∷ rest) (sym c.answer_to-answer.ensures))) in
    record {
      replies = told-first at (c.loop-left.left - 1 == 0) c.loop-left.answers.items
          c.push.new.self.items (queue b) (queue' b) first last
          (c.push.ensures.items
          ∙ ap (λ x. c.loop-left.answers.items ++ x ∷ []) c.answer_to-answer.ensures) split
          ∙ kept.replies;
      room = room-told c.loop-left.answers.items c.push.new.self.items a (queue b) (queue' b) first
          c.args.answers.now.capacity kept.room c.push.ensures.items split;
      capacity = c.push.ensures.capacity ∙ kept.capacity;
      left = fewer;
      closed = caller_after_answer-more c.args.clients.now c.loop-left.clients
          c.close_by.new.clients _ _ rest a
          next c.close_by.ensures kept.closed;
      others = λ q ne.
          out q
          ∙ (others-stay queue (g.met.Q.WaitList.one_queue c.loop-left.queues) b first head q ne
          ∙ kept.others q ne);
      admitted = λ d. c.take_first.ensures.admitted d ∙ kept.admitted d;
      is_queue = λ o. c.take_first.ensures.is_queue o ∙ kept.is_queue o;
    }

pub returns : goal.returns
returns g c =
    let queue = (g.Q.WaitList.seen c.loop-left.queues).queue in
    let kept = c.loop-left.invariant in
    let none : queue c.args.b ≡ [] =
    none-left (queue c.args.b) (grind (arith, nat_tests, kept.left, c.loop-left-test.false)) in
    let rest = ap (λ vs. with_serial (map (answer_to_earlier c.args.at) vs)) none in
    record {
      replies = sym (append-nil c.loop-left.answers.items)
          ∙ (ap (λ ts. c.loop-left.answers.items ++ ts) (sym rest) ∙ kept.replies);
      capacity = kept.capacity;
      closed = caller_after_answer-end c.args.clients.now c.loop-left.clients _ _ rest kept.closed;
      emptied = record {
        queues = λ q.
            emptied-one c.args.b q queue (g.Q.WaitList.seen c.args.queues.now).queue none
            kept.others;
        admitted = kept.admitted;
        is_queue = kept.is_queue;
      };
    }

pub loop-left-init : goal.loop-left-init
loop-left-init g c =
    record {
      replies = refl;
      room = c.requires;
      capacity = refl;
      left = c.len-left.ensures;
      closed = record { look = λ d. refl; many = refl; once = λ once. once };
      others = λ q ne. refl;
      admitted = λ d. refl;
      is_queue = λ o. refl;
    }
