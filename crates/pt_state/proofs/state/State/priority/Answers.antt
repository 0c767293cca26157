use Rattle.std.proofs.Common.{sym, ap, ◌∙◌}
use Rattle.std.specs.Prelude.{option_map}
use Rattle.pt_table.specs.ClientRows.{client_value}
use Rattle.pt_records.specs.declared.clients.Caller.{Caller}
use Rattle.pt_state.proofs.state.State.priority.Goals as goal

pub returns-in-Some : goal.returns-in-Some
returns-in-Some g c = sym (ap (option_map (λ (v : Caller). v.priority))
    (ap (client_value c.args.self.now.clients) (sym c.c.view_is) ∙ sym c.in-Some.ensures))
    ∙ c.requires.callers.look.living c.args.c

pub returns-in-None : goal.returns-in-None
returns-in-None g c = sym (ap (option_map (λ (v : Caller). v.priority))
    (ap (client_value c.args.self.now.clients) (sym c.c.view_is) ∙ sym c.in-None.ensures))
    ∙ c.requires.callers.look.living c.args.c
