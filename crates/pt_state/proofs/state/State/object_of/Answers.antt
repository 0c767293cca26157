use Rattle.std.proofs.Common.{sym, ◌∙◌}
use Rattle.pt_state.specs.Adds.{history_of}
use Rattle.pt_state.proofs.state.State.object_of.Goals as goal

pub returns-in-Some : goal.returns-in-Some
returns-in-Some g c = c.find.ensures ∙ sym (c.in-Some.ensures (history_of c.args.self.now))
