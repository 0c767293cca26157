use Rattle.std.proofs.Common.{suc, ap, ◌∙◌, add-one}
use Rattle.pt_table.specs.ClientRows.{client_value}
use Rattle.pt_state.specs.Adds.{history_of}
use Rattle.pt_records.specs.Callers.{open_in}
use Rattle.pt_records.specs.Counts.{count_or_zero, reserved_open}
use Rattle.pt_state.proofs.CountLemmas.{reserved-client}
use Rattle.pt_machine.proofs.machine.Machine.change_by_death.Goals as goal

pub returns-clause-uses : goal.returns-clause-uses
returns-clause-uses g c =
    let s = c.args.self.now in
    add-one c.reserved_of.result
    ∙ ap suc (c.reserved_of.ensures.value
    ∙ (ap (λ t. count_or_zero reserved_open (open_in (client_value t.clients c.args.c)))
    c.self.view_is
    ∙ reserved-client (history_of s) s.clients c.requires.follows c.requires.callers c.args.c))
