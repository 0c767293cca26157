use Rattle.std.proofs.Common.{Option, sym, ap, ◌∙◌}
use Rattle.pt_table.specs.ClientRows.{client_value}
use Rattle.pt_records.specs.declared.clients.Caller.{Caller}
use Rattle.pt_records.specs.Callers.{open_in}
use Rattle.pt_records.specs.Counts.{count_or_zero, reserved_open}
use Rattle.pt_state.proofs.state.State.reserved_of.Goals as goal

pub returns-in-Some-clause-value : goal.returns-in-Some-clause-value
returns-in-Some-clause-value g c = c.reserved_by.ensures.value
    ∙ ap (λ (r : Option Caller). count_or_zero reserved_open (open_in r))
    (sym (ap (client_value c.args.self.now.clients) (sym c.c.view_is) ∙ sym c.in-Some.ensures))

pub returns-in-None-clause-value : goal.returns-in-None-clause-value
returns-in-None-clause-value g c = ap (λ (r : Option Caller). count_or_zero reserved_open
    (open_in r))
    (sym (ap (client_value c.args.self.now.clients) (sym c.c.view_is) ∙ sym c.in-None.ensures))
