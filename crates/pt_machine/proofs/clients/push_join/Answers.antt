use Rattle.std.proofs.Common.{sym, ◌∙◌}
use Rattle.std.proofs.lemmas.Bool.{false≢true}
use Rattle.pt_model.specs.declared.entry.Entry.TheVariants as entry
use Rattle.pt_model.specs.Histories.{place}
use Rattle.pt_state.specs.Adds.{history_of}
use Rattle.pt_machine.proofs.QueuedSame.{queued-kept, queued-adds, queued-stays, stays-same}
use Rattle.pt_machine.proofs.QueuedArrivals.{queued-join, no-room-yet, no-room-nowhere, room-back}
use Rattle.pt_machine.proofs.clients.push_join.Goals as goal
use Rattle.pt_history.proofs.Places.{place_of_next}

pub admit-requires : goal.admit-requires
admit-requires g c =
    let s = c.args.state.now in
    no-room-yet (history_of s) c.len.result _ c.requires.ready.read.follows
    (c.len.ensures ∙ sym (place_of_next s.stored)) c.requires.queued

pub dismiss-requires-clause-nowhere : goal.dismiss-requires-clause-nowhere
dismiss-requires-clause-nowhere g c =
    let s = c.args.state.now in
    let none = no-room-yet (history_of s) c.len.result _ c.requires.ready.read.follows
    (c.len.ensures ∙ sym (place_of_next s.stored)) c.requires.queued in
    no-room-nowhere c.len.result (g.Q.WaitList.seen c.args.queues.now).queue
    (g.Q.WaitList.seen c.admit.new.self).queue (g.Q.WaitList.seen c.args.queues.now).admitted
    (g.met.Q.WaitList.admits c.args.queues.now c.len.result) none c.in_default.ensures.queues

pub returns-in-Err : goal.returns-in-Err
returns-in-Err g c = record {
  ok = tt;
  err = stays-same c.args.state.now c.requires.ready.read;
  reason = c.in-Err.ensures.err;
  enough = λ small. absurd (false≢true (sym small));
  queued = queued-kept (history_of c.args.state.now) _ _ c.in-Err.ensures.queues
      c.in-Err.ensures.unchanged
      c.in-Err.ensures.is_queue c.requires.queued;
}

pub returns-in-Ok : goal.returns-in-Ok
returns-in-Ok g c = record {
  ok = c.in-Ok.ensures.ok;
  err = tt;
  reason = tt;
  enough = λ small. absurd (false≢true (sym small));
  queued = let s = c.args.state.now in
      let h = history_of s in
      queued-adds s c.push_join.new.self (entry.Join (place h) c.args.priority) _
      c.in-Ok.ensures.ok
      (queued-join h c.len.result c.args.priority _ _ c.requires.ready.read.follows
      (c.len.ensures ∙ sym (place_of_next s.stored)) c.in_default.ensures.queues
      c.in_default.ensures.ok c.in_default.ensures.is_queue c.requires.queued);
}

pub returns-in-Err-push_join : goal.returns-in-Err-push_join
returns-in-Err-push_join g c = record {
  ok = tt;
  err = c.in-Err-push_join.ensures.unchanged;
  reason = c.in-Err-push_join.ensures.err;
  enough = λ small. absurd (false≢true (sym small));
  queued = let s = c.args.state.now in
      let h = history_of s in
      let none = no-room-yet h c.len.result _ c.requires.ready.read.follows
      (c.len.ensures ∙ sym (place_of_next s.stored)) c.requires.queued in
      queued-stays s c.push_join.new.self _ c.in-Err-push_join.ensures.unchanged
      (queued-kept h _ _ (λ q. c.dismiss.ensures.queues q ∙ c.in_default.ensures.queues q)
      (room-back c.len.result _ _ _ none c.in_default.ensures.ok c.dismiss.ensures.admitted)
      (λ o. c.dismiss.ensures.is_queue o ∙ c.in_default.ensures.is_queue o) c.requires.queued);
}
