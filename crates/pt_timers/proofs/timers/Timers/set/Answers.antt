use Rattle.pt_timers.proofs.TimerLemmas.{refused, set-in-place, set-timers}
use Rattle.pt_timers.proofs.timers.Timers.set.Goals as goal

pub invariant_of-self : goal.invariant_of-self
invariant_of-self g c =
    set-timers c.self.inside.orders c.insert.new.self c.insert.result c.args.clock
    c.nanos_of.result c.args.place c.args.self.now c.self.view_is c.self.invariant
    c.nanos_of.ensures.limit c.requires.unset c.insert.ensures.ok c.insert.ensures.unchanged

pub returns-clause-ok : goal.returns-clause-ok
returns-clause-ok g c =
    set-in-place c.self.inside.orders c.insert.new.self c.insert.result c.args.clock
    c.nanos_of.result c.args.place c.args.self.now c.self.view_is c.self.invariant
    c.nanos_of.ensures.limit c.requires.unset c.insert.ensures.ok _ c.nanos_of.ensures.nanos

pub returns-clause-unchanged : goal.returns-clause-unchanged
returns-clause-unchanged g c =
    refused c.self.inside.orders c.insert.new.self c.insert.result c.args.clock
    c.nanos_of.result c.args.place c.args.self.now c.self.view_is c.insert.ensures.unchanged
