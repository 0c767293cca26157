use Rattle.std.proofs.Common.{Bool, true, false, unwrap_or, refl}
use Rattle.std.specs.Bool.{OnTrue}
use Rattle.pt_model.specs.Clients.{client_priority}
use Rattle.pt_state.specs.Adds.{history_of}
use Rattle.pt_machine.specs.CallQueues.{IsQueued}
use Rattle.pt_machine.proofs.QueueAhead.{ahead-first, ahead-none, not-alone}
use Rattle.pt_machine.proofs.machine.Machine.is_ahead.Goals as goal

-- if a fact holds whenever a value is true, so does what follows from it
if_true : {P Q : Type 0} (b : Bool) → OnTrue b P → (P → Q) → OnTrue b Q
if_true true p f = f p
if_true false p f = tt

pub returns-in-Some : goal.returns-in-Some
returns-in-Some g c = record {
  ahead = let s = c.args.self.now in
      let queues = c.self.inside.queues in
      let queued : IsQueued (history_of s) (g.Q.WaitList.seen queues) =
      rw (← c.self.view_is) c.self.invariant.0 in
      if_true c.is_above.result c.is_above.ensures
      (λ k. ahead-first (history_of s) (g.Q.WaitList.seen queues).queue queued.members
      c.requires.follows c.args.o (unwrap_or (client_priority
      (history_of s) c.args.c) 0) c.first.result
      c.first.ensures c.in-Some.first c.in-Some.is k.0 k.1);
  answers_only_caller = λ none.
      let s = c.args.self.now in
      let queues = c.self.inside.queues in
      let queued : IsQueued (history_of s) (g.Q.WaitList.seen queues) =
      rw (← c.self.view_is) c.self.invariant.0 in
      absurd (not-alone (history_of s) (g.Q.WaitList.seen queues).queue queued.members
      c.requires.follows c.args.o (unwrap_or (client_priority
      (history_of s) c.args.c) 0) c.first.result
      c.first.ensures c.in-Some.first c.in-Some.is none);
}

pub returns-in-None : goal.returns-in-None
returns-in-None g c = record {
  ahead = let s = c.args.self.now in
      let queues = c.self.inside.queues in
      let queued : IsQueued (history_of s) (g.Q.WaitList.seen queues) =
      rw (← c.self.view_is) c.self.invariant.0 in
      ahead-none (history_of s) (g.Q.WaitList.seen queues).queue queued.members c.requires.follows
      c.args.o
      (unwrap_or (client_priority (history_of s) c.args.c) 0) c.first.result c.first.ensures
      c.in-None.is;
  answers_only_caller = λ has_call. refl;
}
