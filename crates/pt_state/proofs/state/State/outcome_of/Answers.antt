use Rattle.std.proofs.Common.{sym, ap, ◌∙◌}
use Rattle.pt_table.specs.ClientRows.{client_value}
use Rattle.pt_state.specs.Adds.{history_of}
use Rattle.pt_state.proofs.TellingLemmas.{row-outcome}
use Rattle.pt_state.proofs.state.State.outcome_of.Goals as goal

pub returns-in-Some : goal.returns-in-Some
returns-in-Some g c =
    let s = c.args.self.now in
    row-outcome (history_of s) (client_value s.clients) c.args.c c.in-Some.caller.now c.args.place
    c.requires.callers.look
    (sym (ap (client_value s.clients) c.c.view_is) ∙ sym c.in-Some.ensures)
    c.if-is_latest.ensures
