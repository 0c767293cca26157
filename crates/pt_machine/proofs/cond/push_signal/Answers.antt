use Rattle.std.proofs.Common.{Some, None, sym, ap, ◌∙◌}
use Rattle.std.specs.Prelude.{option_map}
use Rattle.pt_types.specs.declared.outcome.Outcome.TheVariants as outcomes
use Rattle.pt_model.specs.declared.entry.Entry.TheVariants as entry
use Rattle.pt_state.specs.Adds.{history_of}
use Rattle.pt_state.specs.Serving.{call_of_open}
use Rattle.pt_records.proofs.LockViews.{cond-found}
use Rattle.pt_machine.proofs.QueuedSame.{queued-adds}
use Rattle.pt_machine.proofs.QueuedWakes.{first-call_of_open, queued-unmoved}
use Rattle.pt_machine.proofs.cond.push_signal.Goals as goal

pub least_cond_wait-requires-clause-cond : goal.least_cond_wait-requires-clause-cond
least_cond_wait-requires-clause-cond g c =
    cond-found (history_of c.args.state.now) c.requires.can.ready.read.follows c.args.n.now
    c.unwrap-q.result (sym c.requires.found ∙ c.unwrap-q.ensures)

pub returns-in-None : goal.returns-in-None
returns-in-None g c = record {
  adds = c.push_woken.ensures;
  queued = let ready = c.requires.can.ready in
      queued-adds c.args.state.now c.push_woken.new.self
      (entry.Call c.args.c c.args.call.now (Some outcomes.Done)) _ c.push_woken.ensures
      (queued-unmoved (history_of c.args.state.now) c.args.c c.args.call.now c.args.n.now
      ready.read.follows ready.step c.requires.operation _
      (sym (first-call_of_open (history_of c.args.state.now) c.args.n.now c.unwrap-q.result
      c.copied.result (sym c.requires.found ∙ c.unwrap-q.ensures)
      (ap (option_map call_of_open) c.copied.ensures
      ∙ c.least_cond_wait.ensures.value) None c.in-None.is))
      c.requires.can.queued);
}

pub push_wake-requires-clause-first : goal.push_wake-requires-clause-first
push_wake-requires-clause-first g c =
    first-call_of_open (history_of c.args.state.now) c.args.n.now c.unwrap-q.result
    c.copied.result (sym c.requires.found ∙ c.unwrap-q.ensures)
    (ap (option_map call_of_open) c.copied.ensures ∙ c.least_cond_wait.ensures.value)
    (Some c.in-Some.first) c.in-Some.is

pub push_woken-requires-clause-first : goal.push_woken-requires-clause-first
push_woken-requires-clause-first g c =
    first-call_of_open (history_of c.args.state.now) c.args.n.now c.unwrap-q.result
    c.copied.result (sym c.requires.found ∙ c.unwrap-q.ensures)
    (ap (option_map call_of_open) c.copied.ensures ∙ c.least_cond_wait.ensures.value) None
    c.in-None.is
