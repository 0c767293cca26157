use Rattle.std.proofs.Common.{◌≡◌, None, sym, ap, ◌∙◌, subst}
use Rattle.pt_model.specs.Histories.{History, Begin}
use Rattle.pt_model.specs.Forced.{forced}
use Rattle.pt_model.specs.Seals.{seal}
use Rattle.pt_model.specs.Steps.{Follows}
use Rattle.pt_state.specs.Adds.{history_of}
use Rattle.pt_machine.specs.LastTouched.{IsTouched}
use Rattle.pt_machine.specs.CallQueues.{IsQueued}
use Rattle.pt_machine.specs.Reserved.{IsReserved}
use Rattle.pt_machine.specs.CallDeadlines.{AreDeadlinesSet}
use Rattle.pt_machine.proofs.SealedMachines.{touched-seal, reserved-seal}
use Rattle.pt_machine.proofs.SealedQueues.{queued-seal, call_deadline-seal}
use Rattle.pt_machine.proofs.UnsealedMachines.{history_of-renewed}
use Rattle.pt_machine.proofs.machine.Machine.seal_with_room.Goals as goal

pub invariant_of-self : goal.invariant_of-self
invariant_of-self g c =
    let view = g.Q.WaitList.seen c.self.inside.queues in
    let same = sym c.in_err-unsealed.ensures.unchanged in (
      subst (λ s. IsQueued (history_of s) view) same c.self.invariant.0,
      subst (λ s. AreDeadlinesSet (history_of s) c.self.inside.timers) same c.self.invariant.1,
      subst (λ s. IsTouched (history_of s) c.self.inside.touched c.self.inside.entering) same
          c.self.invariant.2,
      subst (λ s. IsReserved (history_of s) c.self.inside.need) same c.self.invariant.3,
    )

pub invariant_of-self-2 : goal.invariant_of-self-2
invariant_of-self-2 g c =
    let old = c.self.inside.state in
    let new = c.seal_with_room.new.state in
    let timers = c.self.inside.timers in
    let need = c.self.inside.need in
    let view = g.Q.WaitList.seen c.self.inside.queues in
    let follows : Follows (history_of old) = rw c.self.view_is c.requires.tables.follows in
    let quiet : forced (history_of old) ≡ None = rw c.self.view_is c.requires.settled in
    let begins : history_of new ≡ Begin (seal (history_of old)) =
    history_of-renewed old new c.args.room c.in_ok-unsealed.ensures.ok in (
      subst (λ (h : History). IsQueued h view) (sym begins)
          (queued-seal (history_of old) _ c.self.invariant.0),
      subst (λ (h : History). AreDeadlinesSet h timers) (sym begins)
          (call_deadline-seal (history_of old) timers follows quiet c.self.invariant.1),
      subst (λ (h : History). IsTouched h None None) (sym begins)
          (touched-seal (history_of old) follows quiet),
      subst (λ (h : History). IsReserved h need) (sym begins)
          (reserved-seal (history_of old) follows quiet need c.self.invariant.3),
    )

pub seal_with_room-requires-clause-tables : goal.seal_with_room-requires-clause-tables
seal_with_room-requires-clause-tables g c = rw c.self.view_is c.requires.tables

pub seal_with_room-requires-clause-places : goal.seal_with_room-requires-clause-places
seal_with_room-requires-clause-places g c = rw c.self.view_is c.requires.places

pub seal_with_room-requires-clause-room : goal.seal_with_room-requires-clause-room
seal_with_room-requires-clause-room g c = rw c.self.view_is c.requires.room

pub returns : goal.returns
returns g c = record {
  ok = rw (← c.self.view_is) c.in_ok-unsealed.ensures.ok;
  stored = c.in_ok-unsealed.ensures.stored ∙ ap (λ s. s.stored) c.self.view_is;
  answers = c.in_ok-unsealed.ensures.answers ∙ ap (λ s. s.answers) c.self.view_is;
  touches = rw (← c.self.view_is) c.self.invariant.2;
  unchanged = tt;
  err = tt;
}
