use Rattle.std.proofs.Common.{sym, subst}
use Rattle.pt_model.specs.Histories.{History}
use Rattle.pt_machine.specs.LastTouched.{IsTouched}
use Rattle.pt_machine.specs.CallQueues.{IsQueued}
use Rattle.pt_machine.specs.Reserved.{IsReserved}
use Rattle.pt_machine.specs.CallDeadlines.{AreDeadlinesSet}
use Rattle.pt_machine.proofs.QueuedSame.{history_of-reserved}
use Rattle.pt_machine.proofs.machine.Machine.reserve_for.Goals as goal

pub invariant_of-self : goal.invariant_of-self
invariant_of-self g c =
    let body = c.self.inside in
    let same = history_of-reserved c.reserve_for.result body.state.stored c.reserve_for.new.self
    c.args.room c.reserve_for.ensures.ok c.reserve_for.ensures.unchanged in (
      subst (λ (h : History). IsQueued h (g.Q.WaitList.seen body.queues)) (sym same)
          c.self.invariant.0,
      subst (λ (h : History). AreDeadlinesSet h body.timers) (sym same) c.self.invariant.1,
      subst (λ (h : History). IsTouched h body.touched body.entering) (sym same)
          c.self.invariant.2,
      subst (λ (h : History). IsReserved h body.need) (sym same) c.self.invariant.3,
    )
