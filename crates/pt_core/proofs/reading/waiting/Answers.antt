use Rattle.std.proofs.Common.{◌∙◌, ap, Some, option_map}
use Rattle.pt_table.specs.ClientRows.{client_value}
use Rattle.pt_records.specs.declared.clients.Open.{Open}
use Rattle.pt_state.specs.Adds.{history_of}
use Rattle.pt_core.proofs.WaitingReads.{turn_by, waiting_kept}
use Rattle.pt_core.proofs.reading.waiting.Goals as goal

pub returns-in-Some : goal.returns-in-Some
returns-in-Some g c =
    let tables = c.args.state.now in
    ap Some c.turn_of.ensures
    ∙ ap (option_map (λ (o : Open). turn_by o.moved o.call)) c.in-Some.ensures
    ∙ waiting_kept (history_of tables)
    (client_value tables.clients) c.requires.callers.look c.args.c

pub returns-in-None : goal.returns-in-None
returns-in-None g c =
    let tables = c.args.state.now in
    ap (option_map (λ (o : Open). turn_by o.moved o.call)) c.in-None.ensures
    ∙ waiting_kept (history_of tables)
    (client_value tables.clients) c.requires.callers.look c.args.c
