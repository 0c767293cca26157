use Rattle.std.proofs.Common.{sym, ◌∙◌}
use Rattle.pt_history.proofs.Places.{place_of_next}
use Rattle.pt_model.proofs.Steps.{step-event}
use Rattle.pt_state.specs.Adds.{history_of}
use Rattle.pt_legal.proofs.SealRoom.{refused-without}
use Rattle.pt_core.proofs.SealNeeds.{planned-seal, refused-sealed}
use Rattle.pt_core.proofs.SealedCores.{settled}
use Rattle.pt_core.proofs.applying.would_refuse.Goals as goal

pub plan-requires-clause-step : goal.plan-requires-clause-step
plan-requires-clause-step g c =
    let s = c.args.body.now in
    step-event (history_of s) c.args.event.now (settled s c.requires)
    (sym c.refusal.ensures ∙ c.in_default.is)

pub refusal_within-requires-clause-quiet : goal.refusal_within-requires-clause-quiet
refusal_within-requires-clause-quiet g c = settled c.args.body.now c.requires

pub returns-then-needs_seal : goal.returns-then-needs_seal
returns-then-needs_seal g c =
    let s = c.args.body.now in
    let v = c.args.event.now in
    let needs = sym (planned-seal s.stored.limit (history_of s) v c.plan.result.need
    c.needs_seal.result c.plan.ensures.planned.needs c.needs_seal.ensures)
    ∙ c.if-needs_seal.true in
    c.refusal_of_seal.ensures
    ∙ refused-sealed s.stored.limit (history_of s) v (sym c.in_default.ensures) needs c.len.result
    (c.len.ensures ∙ sym (place_of_next s.stored))

pub returns : goal.returns
returns g c =
    let s = c.args.body.now in
    let v = c.args.event.now in
    let none = sym (planned-seal s.stored.limit (history_of s) v c.plan.result.need
    c.needs_seal.result c.plan.ensures.planned.needs c.needs_seal.ensures)
    ∙ c.if-needs_seal.false in
    c.refusal_within.ensures ∙ sym (refused-without s.stored.limit (history_of s) v none)
