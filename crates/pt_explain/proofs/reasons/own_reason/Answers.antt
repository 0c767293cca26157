use Rattle.std.proofs.Common.{◌∙◌, Result, ap, sym}
use Rattle.pt_types.specs.declared.outcome.Refusal.{Refusal}
use Rattle.pt_model.specs.declared.entry.Event.{Event}
use Rattle.pt_legal.specs.Cores.{history_of, core_state}
use Rattle.pt_engine.specs.Engines.{as_script}
use Rattle.pt_rules.specs.EventRules.{event_reason}
use Rattle.pt_explain.specs.Explanations.{own_reason}
use Rattle.pt_explain.proofs.reasons.own_reason.Goals as goal

pub returns-in-Ok-clause-words : goal.returns-in-Ok-clause-words
returns-in-Ok-clause-words g c =
    c.event_reason.ensures.words
    ∙ ap (λ e. (event_reason (history_of (core_state e)) c.in-Ok.event).0) c.core.ensures
    ∙ ap (λ (a : Result Event Refusal). (own_reason (as_script c.args.engine.now) a).0)
    (sym c.in-Ok.is)

pub returns-in-Ok-clause-source : goal.returns-in-Ok-clause-source
returns-in-Ok-clause-source g c =
    c.event_reason.ensures.source
    ∙ ap (λ e. (event_reason (history_of (core_state e)) c.in-Ok.event).1) c.core.ensures
    ∙ ap (λ (a : Result Event Refusal). (own_reason (as_script c.args.engine.now) a).1)
    (sym c.in-Ok.is)
