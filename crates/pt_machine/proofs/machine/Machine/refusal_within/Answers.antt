use Rattle.std.proofs.Common.{◌≡◌, Option, Some, None, false, sym, ◌∙◌}
use Rattle.std.specs.Prelude.{is_some}
use Rattle.pt_model.proofs.Steps.{step-event}
use Rattle.pt_state.specs.Adds.{history_of}
use Rattle.pt_machine.proofs.machine.Machine.refusal_within.Goals as goal

none : {T : Type 0} (o : Option T) → is_some o ≡ false → o ≡ None
none None e = cc
none (Some x) e = absurd cc

pub is_over-requires-clause-step : goal.is_over-requires-clause-step
is_over-requires-clause-step g c =
    let s = c.args.self.now in
    step-event (history_of s) c.args.event.now c.requires.quiet
    (rw (← c.self.view_is)
    (sym c.refusal-refused.ensures
    ∙ none c.refusal-refused.result (sym c.is_some.ensures ∙ c.if-is_some.false)))

pub refusal-refused-requires : goal.refusal-refused-requires
refusal-refused-requires g c = rw c.self.view_is c.requires.tables
