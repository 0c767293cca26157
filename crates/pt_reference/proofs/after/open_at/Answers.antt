use Rattle.std.proofs.Common.{sym, ◌∙◌}
use Rattle.pt_model.specs.Histories.{history, ◌▷◌}
use Rattle.pt_reference.proofs.Ends.{open_yes, open_no, open_none}
use Rattle.pt_reference.proofs.after.open_at.Goals as goal

pub returns-then-is_open : goal.returns-then-is_open
returns-then-is_open c =
    open_yes (history c.args.entries.now ▷ c.args.entry.now) c.args.i c.in-Some.w
    (sym c.in-Some.is ∙ c.new_waiting_call_at.ensures)
    (sym c.is_open.ensures ∙ c.if-is_open.true)

pub returns-else-is_open : goal.returns-else-is_open
returns-else-is_open c =
    open_no (history c.args.entries.now ▷ c.args.entry.now) c.args.i c.in-Some.w
    (sym c.in-Some.is ∙ c.new_waiting_call_at.ensures)
    (sym c.is_open.ensures ∙ c.if-is_open.false)

pub returns-in-None : goal.returns-in-None
returns-in-None c =
    open_none (history c.args.entries.now ▷ c.args.entry.now) c.args.i
    (sym c.in-None.is ∙ c.new_waiting_call_at.ensures)
