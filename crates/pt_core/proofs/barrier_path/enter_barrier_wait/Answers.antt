use Rattle.std.proofs.Common.{sym, ap, ◌∙◌}
use Rattle.pt_history.specs.Stored.{Stored, stored_history}
use Rattle.pt_history.proofs.Places.{place_of_next}
use Rattle.pt_model.specs.Answers.{outcome}
use Rattle.pt_model.specs.Histories.{place}
use Rattle.pt_state.specs.Adds.{history_of}
use Rattle.pt_core.proofs.ArrivingLemmas.{begins-either, ready-after-arrival, ready-arrival}
use Rattle.pt_core.proofs.ArrivingLemmas.{unanswered-arrival}
use Rattle.pt_core.proofs.barrier_path.enter_barrier_wait.Goals as goal

pub push_barrier_wait-rests-requires-clause-has_room :
    goal.push_barrier_wait-rests-requires-clause-has_room
push_barrier_wait-rests-requires-clause-has_room g c =
    ready-arrival c.args.body.now c.args.c c.args.call.now c.requires.can.open
    c.requires.can.accepted c.args.plan.now c.requires.can.planned c.requires.waits

pub push_barrier_wait-rests-requires-clause-next : goal.push_barrier_wait-rests-requires-clause-next
push_barrier_wait-rests-requires-clause-next g c =
    ready-after-arrival c.args.body.now c.args.c c.args.call.now c.requires.can.open
    c.requires.can.accepted c.args.plan.now c.requires.can.planned c.requires.waits

pub settle_after-requires-clause-roomy : goal.settle_after-requires-clause-roomy
settle_after-requires-clause-roomy g c =
    let pushed = c.push_barrier_wait-rests.ensures in
    (begins-either c.args.body.now c.args.c c.args.call.now c.requires.can.open
    c.requires.can.accepted c.args.plan.now c.requires.can.planned c.requires.waits
    c.push_barrier_wait-rests.new.self c.push_barrier_wait-rests.result pushed.adds
    pushed.both).roomy

pub returns-then-rests-clause-enters : goal.returns-then-rests-clause-enters
returns-then-rests-clause-enters g c =
    let pushed = c.push_barrier_wait-rests.ensures in
    (begins-either c.args.body.now c.args.c c.args.call.now c.requires.can.open
    c.requires.can.accepted c.args.plan.now c.requires.can.planned c.requires.waits
    c.push_barrier_wait-rests.new.self c.push_barrier_wait-rests.result pushed.adds
    pushed.both).enters
    c.settle_after.new.body.stored c.settle_after.ensures.settles

pub returns-else-rests-clause-enters : goal.returns-else-rests-clause-enters
returns-else-rests-clause-enters g c =
    let pushed = c.push_barrier_wait-rests.ensures in
    (begins-either c.args.body.now c.args.c c.args.call.now c.requires.can.open
    c.requires.can.accepted c.args.plan.now c.requires.can.planned c.requires.waits
    c.push_barrier_wait-rests.new.self c.push_barrier_wait-rests.result pushed.adds
    pushed.both).enters
    c.settle_after.new.body.stored c.settle_after.ensures.settles

-- an arrival after which nothing must follow has no answer
pub returns-then-rests-clause-replies : goal.returns-then-rests-clause-replies
returns-then-rests-clause-replies g c =
    let s = c.args.body.now in
    sym (ap (λ (x : Stored). outcome (stored_history x) (place (history_of s)))
    (c.settle_after.ensures.unchanged c.if-rests.true)
    ∙ unanswered-arrival s c.args.c c.args.call.now c.requires.can.open
    c.requires.can.accepted c.args.plan.now c.requires.can.planned c.requires.waits
    c.push_barrier_wait-rests.new.self (c.push_barrier_wait-rests.ensures.adds c.if-rests.true))

pub returns-else-rests-clause-replies : goal.returns-else-rests-clause-replies
returns-else-rests-clause-replies g c =
    c.outcome_of.ensures
    ∙ ap (outcome (history_of c.settle_after.new.body))
    (c.len-first.ensures ∙ sym (place_of_next c.args.body.now.stored))
