use Rattle.pt_model.proofs.Steps.{step-event}
use Rattle.pt_state.specs.Adds.{history_of}
use Rattle.pt_core.proofs.SealedCores.{settled}
use Rattle.pt_core.proofs.applying.plan.Goals as goal

pub plan-requires-clause-step : goal.plan-requires-clause-step
plan-requires-clause-step g c =
    let s = c.args.body.now in
    step-event (history_of s) c.args.event.now (settled s c.requires.valid) c.requires.accepted
