use Rattle.std.proofs.Common.{refl, ap, subst, arith, Option}
use Rattle.std.proofs.lemmas.Bool.{false≢true}
use Rattle.pt_timers.specs.declared.key.TimerKey.{TimerKey}
use Rattle.pt_timers.specs.Deadlines.{is_in, IsFirstKey}
use Rattle.pt_timers.specs.Orders.{is_due_at, timer_list}
use Rattle.pt_timers.proofs.FirstLemmas.{no-least, first-due}
use Rattle.pt_timers.proofs.timers.Timers.has_none.Goals as goal

pub returns-in-Some : goal.returns-in-Some
returns-in-Some g c =
    let t = c.self.inside in
    let key = c.in-Some.field-0 in
    let first = subst (λ (found : Option TimerKey). IsFirstKey c.of.result.now found) c.in-Some.is
    c.first.ensures in
    let due = first-due (timer_list t.orders) c.args.self.now c.self.view_is (is_due_at t.orders)
    c.self.invariant c.args.clock c.of.result.now (λ q. ap (λ order. is_in order q) c.of.ensures)
    key first.0 first.1 key.nanos (omega arith) in (
      λ yes. absurd (false≢true yes),
      λ f. absurd (f key.place key.nanos due.0),
    )

pub returns-in-None : goal.returns-in-None
returns-in-None g c =
    let t = c.self.inside in
    let none = subst (λ (found : Option TimerKey). IsFirstKey c.of.result.now found) c.in-None.is
    c.first.ensures in (
      λ yes. no-least (timer_list t.orders) c.args.self.now c.self.view_is (is_due_at t.orders)
          c.self.invariant c.args.clock c.of.result.now
          (λ q. ap (λ order. is_in order q) c.of.ensures) none,
      λ f. refl,
    )
