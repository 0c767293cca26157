use Rattle.std.proofs.Common.{sym, ap, ◌∙◌}
use Rattle.std.specs.Prelude.{option_map}
use Rattle.std.specs.Option.{option_copied}
use Rattle.pt_table.specs.ClientRows.{client_value}
use Rattle.pt_records.specs.declared.clients.Caller.{Caller}
use Rattle.pt_machine.proofs.waiting.priority_in_row.Goals as goal

pub returns : goal.returns
returns g c =
    sym (c.requires.tables.callers.look.living c.args.c)
    ∙ (ap (λ d. option_map (λ (v : Caller). v.priority)
    (client_value c.args.state.now.clients d)) (sym c.c.view_is)
    ∙ ap (option_map (λ (v : Caller). v.priority))
    (sym c.at.ensures ∙ ap option_copied c.unwrap.ensures))
