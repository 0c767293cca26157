use Rattle.std.proofs.Common.{◌≡◌, sym, ap, subst}
use Rattle.pt_model.specs.Histories.{History}
use Rattle.pt_history.specs.Stored.{stored_history}
use Rattle.pt_state.specs.Adds.{history_of}
use Rattle.pt_machine.specs.LastTouched.{IsTouched}
use Rattle.pt_machine.specs.CallQueues.{IsQueued}
use Rattle.pt_machine.specs.Reserved.{IsReserved}
use Rattle.pt_machine.specs.CallDeadlines.{AreDeadlinesSet}
use Rattle.pt_machine.proofs.machine.Machine.take_memory.Goals as goal

pub invariant_of-self : goal.invariant_of-self
invariant_of-self g c =
    let inside = c.self.inside in
    let view = g.Q.WaitList.seen inside.queues in
    let back : history_of inside.state ≡ history_of c.take_memory.new.state =
    sym (ap stored_history c.take_memory.ensures.stored) in (
      subst (λ (h : History). IsQueued h view) back c.self.invariant.0,
      subst (λ (h : History). AreDeadlinesSet h inside.timers) back c.self.invariant.1,
      subst (λ (h : History). IsTouched h inside.touched inside.entering) back
          c.self.invariant.2,
      subst (λ (h : History). IsReserved h inside.need) back c.self.invariant.3,
    )

pub take_memory-requires : goal.take_memory-requires
take_memory-requires g c = rw c.self.view_is c.requires

pub returns : goal.returns
returns g c = rw (← c.self.view_is) c.take_memory.ensures
