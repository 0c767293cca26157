use Rattle.std.proofs.Common.{ap, sym, ◌∙◌, refl}
use Rattle.pt_table.specs.ClientRows.{client_value}
use Rattle.pt_records.specs.Callers.{open_in}
use Rattle.pt_state.specs.Adds.{history_of}
use Rattle.pt_machine.proofs.PlaceTakes.{takes, take-admitted, take-nowhere, take-made, take-latest}
use Rattle.pt_machine.proofs.PlaceTakes.{take-put, row-there}
use Rattle.pt_machine.proofs.queues.enqueue_open_call.Goals as goal

pub insert-requires-clause-admitted : goal.insert-requires-clause-admitted
insert-requires-clause-admitted g c =
    take-admitted c.requires.has_room
    (takes (history_of c.args.state.now) c.args.state.now.clients c.requires.tables.follows
    c.requires.tables.callers c.args.c c.wait_object.result c.waiter_of.result
    c.in-Some.caller.now c.in-Some-open.open
    (ap (client_value c.args.state.now.clients) (sym c.c.view_is) ∙ sym c.in-Some.ensures)
    c.in-Some-open.is c.wait_object.ensures c.waiter_of.ensures)

pub insert-requires-clause-nowhere : goal.insert-requires-clause-nowhere
insert-requires-clause-nowhere g c =
    take-nowhere c.requires.has_room
    (takes (history_of c.args.state.now) c.args.state.now.clients c.requires.tables.follows
    c.requires.tables.callers c.args.c c.wait_object.result c.waiter_of.result
    c.in-Some.caller.now c.in-Some-open.open
    (ap (client_value c.args.state.now.clients) (sym c.c.view_is) ∙ sym c.in-Some.ensures)
    c.in-Some-open.is c.wait_object.ensures c.waiter_of.ensures)

pub insert-requires-clause-is_queue : goal.insert-requires-clause-is_queue
insert-requires-clause-is_queue g c =
    take-made c.requires.has_room
    (takes (history_of c.args.state.now) c.args.state.now.clients c.requires.tables.follows
    c.requires.tables.callers c.args.c c.wait_object.result c.waiter_of.result
    c.in-Some.caller.now c.in-Some-open.open
    (ap (client_value c.args.state.now.clients) (sym c.c.view_is) ∙ sym c.in-Some.ensures)
    c.in-Some-open.is c.wait_object.ensures c.waiter_of.ensures)

pub insert-requires-clause-latest : goal.insert-requires-clause-latest
insert-requires-clause-latest g c =
    take-latest c.requires.has_room
    (takes (history_of c.args.state.now) c.args.state.now.clients c.requires.tables.follows
    c.requires.tables.callers c.args.c c.wait_object.result c.waiter_of.result
    c.in-Some.caller.now c.in-Some-open.open
    (ap (client_value c.args.state.now.clients) (sym c.c.view_is) ∙ sym c.in-Some.ensures)
    c.in-Some-open.is c.wait_object.ensures c.waiter_of.ensures)

pub returns-in-Some-open : goal.returns-in-Some-open
returns-in-Some-open g c = record {
  queues = take-put (history_of c.args.state.now) c.args.c c.wait_object.result c.waiter_of.result
      (takes (history_of c.args.state.now) c.args.state.now.clients c.requires.tables.follows
      c.requires.tables.callers c.args.c c.wait_object.result c.waiter_of.result
      c.in-Some.caller.now c.in-Some-open.open
      (ap (client_value c.args.state.now.clients) (sym c.c.view_is) ∙ sym c.in-Some.ensures)
      c.in-Some-open.is c.wait_object.ensures c.waiter_of.ensures)
      (g.Q.WaitList.seen c.args.queues.now).queue (g.Q.WaitList.seen c.insert.new.self).queue
      c.insert.ensures.queues;
  admitted = c.insert.ensures.admitted;
  is_queue = c.insert.ensures.is_queue;
}

pub returns-in_default : goal.returns-in_default
returns-in_default g c = record {
  queues = λ w i e q. absurd (
      row-there (history_of c.args.state.now) c.args.state.now.clients c.requires.tables.follows
      c.requires.tables.callers c.args.c
      (ap (λ d. open_in (client_value c.args.state.now.clients d)) (sym c.c.view_is)
      ∙ ap open_in (sym c.in_default.ensures)) w i e);
  admitted = λ d. refl;
  is_queue = λ o. refl;
}

pub returns-in_default-open : goal.returns-in_default-open
returns-in_default-open g c = record {
  queues = λ w i e q. absurd (
      row-there (history_of c.args.state.now) c.args.state.now.clients c.requires.tables.follows
      c.requires.tables.callers c.args.c
      (ap (λ d. open_in (client_value c.args.state.now.clients d)) (sym c.c.view_is)
      ∙ (ap open_in (sym c.in-Some.ensures) ∙ c.in_default-open.is)) w i e);
  admitted = λ d. refl;
  is_queue = λ o. refl;
}
