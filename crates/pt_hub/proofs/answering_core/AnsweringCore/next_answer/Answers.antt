use Rattle.std.proofs.Common.{refl, sym, ◌∙◌}
use Rattle.pt_hub.proofs.ViewLemmas.{next-read}
use Rattle.pt_hub.proofs.answering_core.AnsweringCore.next_answer.Goals as goal

pub returns-then-is_blocked : goal.returns-then-is_blocked
returns-then-is_blocked g c =
    next-read _ _ c.self.invariant c.self.view_is _ _ refl _ c.answer_of.ensures
    (sym c.is_blocked.ensures ∙ c.if-is_blocked.true)
