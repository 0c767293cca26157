use Rattle.std.proofs.Common.{◌≡◌, sym, ap, subst}
use Rattle.pt_model.specs.Histories.{History, Begin}
use Rattle.pt_model.specs.Seals.{seal}
use Rattle.pt_history.specs.Stored.{stored_history}
use Rattle.pt_state.specs.Adds.{history_of}
use Rattle.pt_machine.specs.LastTouched.{IsTouched}
use Rattle.pt_machine.specs.CallQueues.{IsQueued}
use Rattle.pt_machine.specs.Reserved.{IsReserved}
use Rattle.pt_machine.specs.CallDeadlines.{AreDeadlinesSet}
use Rattle.pt_machine.proofs.UnsealedMachines.{queued-unsealed, timed-unsealed, reserved-unsealed}
use Rattle.pt_machine.proofs.machine.Machine.unseal.Goals as goal

pub invariant_of-self : goal.invariant_of-self
invariant_of-self g c =
    let old = c.self.inside.state in
    let h = stored_history c.args.before.unsealed.stored in
    let timers = c.self.inside.timers in
    let need = c.self.inside.need in
    let view = g.Q.WaitList.seen c.self.inside.queues in
    let begins : history_of old ≡ Begin (seal h) = rw c.self.view_is c.requires.begins in
    let back : history_of c.unseal.new.state ≡ h = ap stored_history c.unseal.ensures.stored in (
      subst (λ (x : History). IsQueued x view) (sym back)
          (queued-unsealed h view
          (subst (λ (x : History). IsQueued x view) begins c.self.invariant.0)),
      subst (λ (x : History). AreDeadlinesSet x timers) (sym back)
          (timed-unsealed h timers c.requires.follows c.requires.settled
          (subst (λ (x : History). AreDeadlinesSet x timers) begins c.self.invariant.1)),
      subst (λ (x : History). IsTouched x c.args.before.touched c.args.before.entering) (sym back)
          c.requires.touches,
      subst (λ (x : History). IsReserved x need) (sym back)
          (reserved-unsealed h c.requires.follows c.requires.settled need
          (subst (λ (x : History). IsReserved x need) begins c.self.invariant.3)),
    )

pub unseal-requires-clause-tables : goal.unseal-requires-clause-tables
unseal-requires-clause-tables g c = rw c.self.view_is c.requires.tables

pub unseal-requires-clause-begins : goal.unseal-requires-clause-begins
unseal-requires-clause-begins g c = rw c.self.view_is c.requires.begins

pub returns : goal.returns
returns g c = record {
  stored = c.unseal.ensures.stored;
  answers = c.unseal.ensures.answers;
  read = c.unseal.ensures.read;
}
