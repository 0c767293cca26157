use Rattle.std.proofs.Common.{◌≡◌, ◌-◌, length, subst, arith}
use Rattle.pt_model.specs.declared.entry.Entry.TheVariants.{Trip}
use Rattle.pt_model.specs.Answers.{at_barrier, open_calls}
use Rattle.pt_model.proofs.Opens.{stands_at_barrier}
use Rattle.pt_records.specs.Arrivals.{AreArrivals}
use Rattle.pt_model.specs.Room.{need}
use Rattle.pt_state.specs.Adds.{Adds, history_of}
use Rattle.pt_machine.specs.LastTouched.{IsTouched}
use Rattle.pt_machine.specs.CallQueues.{IsQueued}
use Rattle.pt_machine.specs.Reserved.{IsReserved}
use Rattle.pt_machine.specs.CallDeadlines.{AreDeadlinesSet}
use Rattle.pt_machine.proofs.BarrierArrivals.{arrivals-queued}
use Rattle.pt_machine.proofs.NeedSteps.{reserved-forced}
use Rattle.pt_machine.proofs.QueueCounts.{open-most}
use Rattle.pt_machine.proofs.ServiceLemmas.{trip-gone, trip-queued, trip-touched, trip-uses}
use Rattle.pt_machine.proofs.TimedStates.{timed-tripped}
use Rattle.pt_machine.proofs.machine.Machine.push_full.Goals as goal

pub overflow_sub-gone : goal.overflow_sub-gone
overflow_sub-gone g c =
    let s = c.args.self.now in
    let adds : Adds s (Trip c.args.b) c.push_trip.new.self =
    rw (← c.self.view_is) c.push_trip.ensures.adds in
    let before : c.len-before.result ≡ length s.answers.items =
    rw (← c.self.view_is) c.len-before.ensures in
    omega (
      arith,
      trip-gone s c.push_trip.new.self c.args.b c.len-before.result c.len.result adds before
          c.len.ensures,
    )

pub overflow_mul-self : goal.overflow_mul-self
overflow_mul-self g c =
    let s = c.args.self.now in
    let adds : Adds s (Trip c.args.b) c.push_trip.new.self =
    rw (← c.self.view_is) c.push_trip.ensures.adds in
    let before : c.len-before.result ≡ length s.answers.items =
    rw (← c.self.view_is) c.len-before.ensures in
    let gone : c.len.result - c.len-before.result
    ≡ length (at_barrier c.args.b (open_calls (history_of s))) =
    omega (
      arith,
      trip-gone s c.push_trip.new.self c.args.b c.len-before.result c.len.result adds before
          c.len.ensures,
    ) in
    omega (
      arith,
      gone,
      open-most (history_of s) s.clients c.requires.tables.follows c.requires.tables.callers
          (stands_at_barrier c.args.b) (c.len.result - c.len-before.result) gone,
    )

pub push_trip-requires-clause-arrived : goal.push_trip-requires-clause-arrived
push_trip-requires-clause-arrived g c =
    let h = history_of c.args.self.now in
    let w = c.requires.waits in
    let seen = g.Q.WaitList.seen c.self.inside.queues in
    let queued : IsQueued h seen = rw (← c.self.view_is) c.self.invariant.0 in
    let arrived : AreArrivals h c.args.b (seen.queue c.args.b) =
    subst (λ o. AreArrivals h o (seen.queue o)) w.1.1.1
    (arrivals-queued h w.0 seen c.requires.tables.follows w.1.0
    w.1.1.0 queued) in
    rw c.self.view_is arrived

pub overflow_sub-self : goal.overflow_sub-self
overflow_sub-self g c =
    let h = history_of c.args.self.now in
    let w = c.requires.waits in
    let needs : c.self.inside.need ≡ need h = rw (← c.self.view_is) c.self.invariant.3.needs in
    let adds : Adds c.args.self.now (Trip c.args.b) c.push_trip.new.self =
    rw (← c.self.view_is) c.push_trip.ensures.adds in
    let before : c.len-before.result ≡ length c.args.self.now.answers.items =
    rw (← c.self.view_is) c.len-before.ensures in
    let gone : c.len.result - c.len-before.result ≡ length (at_barrier c.args.b (open_calls h)) =
    omega (
      arith,
      trip-gone c.args.self.now c.push_trip.new.self c.args.b c.len-before.result c.len.result
          adds before c.len.ensures,
    ) in
    omega (
      arith,
      needs,
      trip-uses h c.requires.tables.follows w.0 c.args.b (c.len.result - c.len-before.result)
          w.1.1.0 w.1.1.1 gone,
    )

pub invariant_of-self : goal.invariant_of-self
invariant_of-self g c =
    let s = c.args.self.now in
    let h = history_of s in
    let new = c.push_trip.new.self in
    let b = c.args.b in
    let read = c.requires.tables in
    let w = c.requires.waits in
    let old = g.Q.WaitList.seen c.self.inside.queues in
    let next = g.Q.WaitList.seen c.push_trip.new.queues in
    let emptied = c.push_trip.ensures.emptied in
    let adds : Adds s (Trip b) new = rw (← c.self.view_is) c.push_trip.ensures.adds in
    let before : c.len-before.result ≡ length s.answers.items =
    rw (← c.self.view_is) c.len-before.ensures in
    let gone : c.len.result - c.len-before.result ≡ length (at_barrier b (open_calls h)) =
    omega (
      arith,
      trip-gone s new b c.len-before.result c.len.result adds before c.len.ensures,
    ) in
    let timed : AreDeadlinesSet h c.self.inside.timers = rw (← c.self.view_is) c.self.invariant.1 in
    let touched : IsTouched h c.self.inside.touched c.self.inside.entering =
    rw (← c.self.view_is) c.self.invariant.2 in
    let reserved : IsReserved h c.self.inside.need = rw (← c.self.view_is) c.self.invariant.3 in
    let queued : IsQueued h old = rw (← c.self.view_is) c.self.invariant.0 in (
      trip-queued s new w.0 b old next read w.1.0 w.1.1.0 w.1.1.1 emptied.admitted emptied.is_queue
          queued emptied.queues adds,
      timed-tripped s new c.self.inside.timers c.self.inside.timers read timed b adds,
      trip-touched s new c.self.inside.touched c.self.inside.entering b adds touched,
      reserved-forced s new (Trip b) adds c.self.inside.need _ reserved
          (trip-uses h read.follows w.0 b (c.len.result - c.len-before.result) w.1.1.0 w.1.1.1
          gone),
    )

pub push_trip-requires-clause-has_room : goal.push_trip-requires-clause-has_room
push_trip-requires-clause-has_room g c = rw c.self.view_is c.requires.has_room

pub returns : goal.returns
returns g c = rw (← c.self.view_is) c.push_trip.ensures.adds
