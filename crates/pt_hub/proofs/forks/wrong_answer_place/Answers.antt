use denote.Enum.Bare.{same_true}
use Rattle.std.proofs.Common.{◌≡◌, Some, sym, ap, ◌∙◌}
use Rattle.std.proofs.Common.{rules}
use Rattle.pt_types.specs.contracts.outcome.Outcome.{the_type}
use Rattle.pt_hub.specs.AnsweringCores.{hub_core}
use Rattle.pt_hub.proofs.AnswerLemmas.{found-same}
use Rattle.pt_hub.proofs.forks.wrong_answer_place.Goals as goal

pub returns-in-Some : goal.returns-in-Some
returns-in-Some g c =
    let is : c.in-Some.outcome ≡ c.in_ok-answer.answer =
    same_true the_type (search rules) _ _ (sym c.if-eq.ensures) in
    found-same (hub_core c.args.inner.now) c.args.receipt.now c.in_ok-answer.answer
    c.in_ok-answer.was
    (sym c.in-Some.ensures ∙ ap Some is)
