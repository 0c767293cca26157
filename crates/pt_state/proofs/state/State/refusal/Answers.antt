use Rattle.std.proofs.Common.{sym, ap, ◌∙◌}
use Rattle.pt_model.specs.Room.{refusal}
use Rattle.pt_state.specs.Adds.{history_of}
use Rattle.pt_state.proofs.state.State.refusal.Goals as goal

pub returns-in-Call : goal.returns-in-Call
returns-in-Call g c =
    c.refusal_of_call.ensures ∙ sym (ap (refusal (history_of c.args.self.now)) c.in-Call.is)
