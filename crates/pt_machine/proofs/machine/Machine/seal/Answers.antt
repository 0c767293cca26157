use Rattle.std.proofs.Common.{◌≡◌, None, refl, sym, ◌∙◌, subst}
use Rattle.pt_model.specs.Histories.{History, Begin}
use Rattle.pt_model.specs.Forced.{forced}
use Rattle.pt_model.specs.Seals.{seal}
use Rattle.pt_model.specs.Steps.{Follows}
use Rattle.pt_state.specs.Adds.{history_of}
use Rattle.pt_state.proofs.SealedTables.{history_of-sealed}
use Rattle.pt_machine.specs.LastTouched.{IsTouched}
use Rattle.pt_machine.specs.CallQueues.{IsQueued}
use Rattle.pt_machine.specs.Reserved.{IsReserved}
use Rattle.pt_machine.specs.CallDeadlines.{AreDeadlinesSet}
use Rattle.pt_machine.proofs.SealedMachines.{touched-seal, reserved-seal}
use Rattle.pt_machine.proofs.SealedQueues.{queued-seal, call_deadline-seal}
use Rattle.pt_machine.proofs.machine.Machine.seal.Goals as goal

pub invariant_of-self : goal.invariant_of-self
invariant_of-self g c = rw c.in-Err.ensures.unchanged c.self.invariant

pub invariant_of-self-2 : goal.invariant_of-self-2
invariant_of-self-2 g c =
    let old = c.self.inside.state in
    let new = c.seal.new.state in
    let timers = c.self.inside.timers in
    let need = c.self.inside.need in
    let view = g.Q.WaitList.seen c.self.inside.queues in
    let follows : Follows (history_of old) = rw c.self.view_is c.requires.tables.follows in
    let quiet : forced (history_of old) ≡ None = rw c.self.view_is c.requires.settled in
    let begins : history_of new ≡ Begin (seal (history_of old)) =
    history_of-sealed old new c.in_default.ensures.ok in (
      subst (λ (h : History). IsQueued h view) (sym begins)
          (queued-seal (history_of old) _ c.self.invariant.0),
      subst (λ (h : History). AreDeadlinesSet h timers) (sym begins)
          (call_deadline-seal (history_of old) timers follows quiet c.self.invariant.1),
      subst (λ (h : History). IsTouched h None None) (sym begins)
          (touched-seal (history_of old) follows quiet),
      subst (λ (h : History). IsReserved h need) (sym begins)
          (reserved-seal (history_of old) follows quiet need c.self.invariant.3),
    )

pub seal-requires-clause-tables : goal.seal-requires-clause-tables
seal-requires-clause-tables g c = rw c.self.view_is c.requires.tables

pub seal-requires-clause-places : goal.seal-requires-clause-places
seal-requires-clause-places g c = rw c.self.view_is c.requires.places

pub returns-in-Err : goal.returns-in-Err
returns-in-Err g c = record {
  ok = tt;
  unchanged = c.in-Err.ensures.unchanged ∙ c.self.view_is;
  err = refl;
}

pub returns : goal.returns
returns g c = record {
  ok = rw (← c.self.view_is) c.in_default.ensures.ok;
  unchanged = tt;
  err = tt;
}
