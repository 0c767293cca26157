use Rattle.std.proofs.Common.{◌≡◌, ◌∷◌, [], MatchOption, option_map, sym, ap, subst, ◌∙◌}
use Rattle.pt_legal.specs.Replies.{reply_view}
use Rattle.pt_engine.proofs.WaitingLines.{counts_on, next_left, none_left}
use Rattle.pt_engine.proofs.answers.Answers.next.Goals as goal

pub returns-in_err-reply : goal.returns-in_err-reply
returns-in_err-reply g c =
    let left = c.args.self.now in
    let none = sym c.self.view_is
    ∙ none_left _ c.self.inside.index
    (sym c.answer.ensures.value ∙ ap (option_map reply_view) c.in_err-reply.was) in
    subst
    (λ o. MatchOption o ((left ≡ []) × (left ≡ [])) (λ r. left ≡ reply_view r ∷ left))
    (sym c.from_residual.ensures) (none, none)

pub overflow_add-self : goal.overflow_add-self
overflow_add-self g c =
    let fits = counts_on _ c.self.inside.index _ (reply_view c.in_ok-reply.reply)
    (sym c.answer.ensures.value ∙ ap
    (option_map reply_view) c.in_ok-reply.was) c.answer.ensures.within in
    record { fits = fits }

pub returns : goal.returns
returns g c =
    sym c.self.view_is
    ∙ next_left _ c.self.inside.index (reply_view c.in_ok-reply.reply)
    (sym c.answer.ensures.value ∙ ap (option_map reply_view) c.in_ok-reply.was)
