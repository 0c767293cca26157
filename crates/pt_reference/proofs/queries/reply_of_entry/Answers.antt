use Rattle.std.proofs.Common.{sym, ◌∙◌}
use Rattle.pt_model.specs.Histories.{history}
use Rattle.pt_model.specs.Queries.{reply_if}
use Rattle.pt_reference.proofs.Ends.{both}
use Rattle.pt_reference.proofs.Tellings.{replies_at_place}
use Rattle.pt_reference.proofs.queries.reply_of_entry.Goals as goal

pub returns : goal.returns
returns c =
    c.reply_if.ensures
    ∙ both (λ d x. reply_if d c.args.j x) c.reply_client.ensures c.answer_by.ensures
    ∙ sym (replies_at_place (history c.args.entries.now) c.args.entry.now c.args.j)
