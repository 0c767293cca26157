use Rattle.std.proofs.Common.{ap, ◌∙◌}
use Rattle.pt_model.specs.Room.{refusal_with_seals}
use Rattle.pt_legal.specs.Cores.{history_of}
use Rattle.pt_hub.specs.AnsweringCores.{AnsweringCoreView, hub_core}
use Rattle.pt_hub.proofs.answering_core.AnsweringCore.would_refuse.Goals as goal

pub returns : goal.returns
returns g c =
    c.would_refuse.ensures
    ∙ ap (λ (d : AnsweringCoreView). refusal_with_seals (hub_core d).limit (history_of
    (hub_core d)) c.args.event.now)
    c.self.view_is
