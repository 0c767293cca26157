use Rattle.std.specs.Option.{option_copied}
use Rattle.pt_state.specs.Adds.{history_of}
use Rattle.pt_state.specs.Serving.{waits_at_cond}
use Rattle.pt_machine.proofs.QueueClasses.{at-cond, wait-plain}
use Rattle.pt_machine.proofs.QueueFirsts.{first-call_of_open, none-call_of_open, found-known}
use Rattle.pt_machine.proofs.cond.least_cond_wait.Goals as goal

pub returns-in-Some : goal.returns-in-Some
returns-in-Some g c = record {
  value = let s = c.args.state.now in
      first-call_of_open (history_of s)
      (g.Q.WaitList.seen c.args.queues.now).queue c.requires.queued.members
      c.requires.tables.follows c.args.q (waits_at_cond (history_of s) c.args.q)
      (at-cond (history_of s) c.requires.tables.follows c.args.q c.requires.cond)
      (λ w i. wait-plain (history_of s) c.args.q w) s.clients
      c.requires.tables.callers c.first.result c.in-Some.first (option_copied c.open_of.result)
      c.first.ensures
      c.in-Some.is c.open_of.ensures;
  has_call =
      found-known c.args.state.now.clients c.in-Some.first.client (option_copied c.open_of.result)
      c.open_of.ensures;
}

pub returns-in-None : goal.returns-in-None
returns-in-None g c = record {
  value = let h = history_of c.args.state.now in
      none-call_of_open h (g.Q.WaitList.seen c.args.queues.now).queue c.requires.queued.members
      c.requires.tables.follows c.args.q (waits_at_cond h c.args.q)
      (at-cond h c.requires.tables.follows c.args.q c.requires.cond) c.first.result
      c.first.ensures c.in-None.is;
  has_call = tt;
}
