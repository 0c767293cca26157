use Rattle.std.proofs.Common.{◌≡◌, ◌++◌, List, map, ap, sym, ◌∙◌, arith}
use Rattle.pt_history.specs.Stored.{stored_history}
use Rattle.pt_history.proofs.Places.{place_of_next}
use Rattle.pt_model.specs.Answers.{at_barrier, open_calls, trip_replies}
use Rattle.pt_records.specs.declared.answers.Answered.{Answered}
use Rattle.pt_records.specs.Arrivals.{answer_to_earlier, with_serial}
use Rattle.pt_records.specs.Logs.{log_entry, replies_with_place}
use Rattle.pt_records.proofs.LogParts.{told-after}
use Rattle.pt_records.proofs.TripLemmas.{arrivals-room, closes-rewrites, trip-told, trip_log}
use Rattle.pt_records.proofs.barrier.trip.Goals as goal

pub log_trip-requires : goal.log_trip-requires
log_trip-requires g c =
    omega (
      arith,
      c.requires.room,
      arrivals-room (stored_history c.args.history.now) c.args.b 0
          ((g.Q.WaitList.seen c.args.queues.now).queue c.args.b) c.requires.arrived
          (λ d. g.met.Q.WaitList.once c.args.queues.now d c.args.b),
    )

pub returns : goal.returns
returns g c =
    let h = stored_history c.args.history.now in
    let rows = c.args.clients.now in
    let b = c.args.b in
    let at = c.len.result in
    let vs = (g.Q.WaitList.seen c.args.queues.now).queue b in
    let old = c.args.answers.now.items in
    let all = c.log_trip.new.answers.items in
    let new : List Answered = with_serial (map (answer_to_earlier at) vs) in
    let log = trip_log h rows b c.requires.follows c.requires.callers (map log_entry old) in
    let tail : map log_entry new ≡ log =
    trip-told h b at vs c.requires.arrived
    (λ d. g.met.Q.WaitList.once c.args.queues.now d b)
    ∙ ap (λ n. replies_with_place n (trip_replies (at_barrier b (open_calls h))))
    (c.len.ensures ∙ sym (place_of_next c.args.history.now)) in
    let replies : map log_entry all ≡ map log_entry old ++ log =
    told-after old new all log c.log_trip.ensures.replies tail in
    record {
      replies = replies;
      capacity = c.log_trip.ensures.capacity;
      emptied = c.log_trip.ensures.emptied;
      closed = closes-rewrites h rows b c.requires.follows c.requires.callers
          (map log_entry old) c.log_trip.new.clients new (map log_entry all) tail replies
          c.log_trip.ensures.closed;
    }
