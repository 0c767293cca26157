use Rattle.std.proofs.Common.{Some, None, sym, ◌∙◌}
use Rattle.pt_model.specs.declared.entry.Event.TheVariants as event
use Rattle.pt_core.proofs.ArrivingLemmas.{wrote-arrival}
use Rattle.pt_core.proofs.barrier_path.write_barrier_wait.Goals as goal

pub returns-in-Some : goal.returns-in-Some
returns-in-Some g c =
    wrote-arrival c.args.body.now c.enter_barrier_wait.new.body
    (event.Call c.args.c c.args.call.now)
    c.requires.can.open c.requires.can.accepted c.requires.unsealed
    c.enter_barrier_wait.ensures.enters
    c.enter_barrier_wait.ensures.room (Some c.in-Some.outcome)
    (sym c.in-Some.is ∙ c.enter_barrier_wait.ensures.replies)

pub returns-in-None : goal.returns-in-None
returns-in-None g c =
    wrote-arrival c.args.body.now c.enter_barrier_wait.new.body
    (event.Call c.args.c c.args.call.now)
    c.requires.can.open c.requires.can.accepted c.requires.unsealed
    c.enter_barrier_wait.ensures.enters
    c.enter_barrier_wait.ensures.room None (sym c.in-None.is ∙ c.enter_barrier_wait.ensures.replies)
