use Rattle.std.proofs.Common.{Some, refl, arith}
use Rattle.pt_model.specs.declared.entry.Entry.TheVariants.{Yield}
use Rattle.pt_state.specs.Adds.{HasRoomFor, history_of}
use Rattle.pt_machine.proofs.LastTouches.{service_object-forced}
use Rattle.pt_machine.proofs.NeedSteps.{reserved-forced}
use Rattle.pt_machine.proofs.NeedUses.{uses-yield}
use Rattle.pt_machine.proofs.QueuedArrivals.{queued-yield}
use Rattle.pt_machine.proofs.QueuedSame.{queued-adds}
use Rattle.pt_machine.proofs.TimedStates.{timed-yield}
use Rattle.pt_machine.proofs.machine.Machine.push_yield.Goals as goal

pub overflow_sub-self : goal.overflow_sub-self
overflow_sub-self g c =
    let old = c.self.inside.state in
    let m = c.args.m in
    let ready : HasRoomFor old (Yield m) = rw c.self.view_is c.requires.has_room in
    omega (
      arith,
      c.self.invariant.3.needs,
      uses-yield
          (history_of old) m ready.read.follows ready.step,
    )

pub invariant_of-self : goal.invariant_of-self
invariant_of-self g c =
    let old = c.self.inside.state in
    let new = c.push_yield.new.self in
    let m = c.args.m in
    let ready : HasRoomFor old (Yield m) = rw c.self.view_is c.requires.has_room in
    let adds = c.push_yield.ensures in (
      queued-adds old new (Yield m) _ adds (queued-yield (history_of old) m _ c.self.invariant.0),
      timed-yield old new c.self.inside.timers c.self.inside.timers ready.read
          c.self.invariant.1 m adds,
      service_object-forced old new (Some m) c.self.inside.entering (Yield m) refl adds refl
          c.self.invariant.2.enters,
      reserved-forced old new (Yield m) adds c.self.inside.need 1 c.self.invariant.3
          (uses-yield (history_of old) m ready.read.follows ready.step),
    )

pub push_yield-requires : goal.push_yield-requires
push_yield-requires g c = rw c.self.view_is c.requires.has_room

pub returns : goal.returns
returns g c = rw (← c.self.view_is) c.push_yield.ensures
