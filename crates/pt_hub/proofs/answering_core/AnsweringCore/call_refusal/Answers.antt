use Rattle.std.proofs.Common.{Bool, cond, Option, Some, ap, ◌∙◌}
use Rattle.pt_types.specs.declared.call.Call.{Call as FunctionCall}
use Rattle.pt_types.specs.declared.outcome.Refusal.{Refusal}
use Rattle.pt_types.specs.declared.outcome.Refusal.TheVariants.{Blocked}
use Rattle.pt_model.specs.declared.entry.Event.TheVariants as event
use Rattle.pt_model.specs.Room.{refusal_with_seals}
use Rattle.pt_legal.specs.Cores.{history_of}
use Rattle.pt_hub.specs.AnsweringCores.{AnsweringCoreView, hub_core}
use Rattle.pt_hub.proofs.answering_core.AnsweringCore.call_refusal.Goals as goal

pub returns : goal.returns
returns g c =
    let core = c.self.inside.core in
    let old : AnsweringCoreView = record { core = core; accounts = c.self.inside.accounts.entries } in
    let known : AnsweringCoreView → FunctionCall → Option Refusal = λ (d : AnsweringCoreView) (call : FunctionCall).
    refusal_with_seals (hub_core d).limit (history_of (hub_core d)) (event.Call c.args.c call) in
    c.would_refuse.ensures
    ∙ (ap (known old) c.copied.ensures
    ∙ (ap (λ (d : AnsweringCoreView). known d c.args.call.now) c.self.view_is
    ∙ ap (λ (b : Bool). cond b (Some Blocked) (known c.args.self.now c.args.call.now))
    c.if-is_blocked.ensures))
