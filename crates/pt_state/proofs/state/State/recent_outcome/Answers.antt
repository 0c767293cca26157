use Rattle.std.proofs.Common.{sym, ap, ◌∙◌}
use Rattle.std.specs.Option.{option_or}
use Rattle.pt_model.specs.StartRows.{answer_at}
use Rattle.pt_records.specs.Logs.{outcome_before}
use Rattle.pt_state.specs.Adds.{history_of}
use Rattle.pt_state.proofs.TellingLemmas.{kept-rises, kept-outcome, before-past}
use Rattle.pt_state.proofs.state.State.recent_outcome.Goals as goal

pub recent_outcome-requires : goal.recent_outcome-requires
recent_outcome-requires g c =
    kept-rises (history_of c.args.self.now) c.args.self.now.answers.items
    c.requires.answers

pub returns-in-Some : goal.returns-in-Some
returns-in-Some g c =
    let h = history_of c.args.self.now in
    kept-outcome h c.args.self.now.answers.items c.args.place _
    c.requires.follows c.requires.answers
    (ap (λ o. option_or o (outcome_before h c.args.place))
    (sym c.in-Some.is ∙ c.recent_outcome.ensures))

pub returns-in-None : goal.returns-in-None
returns-in-None g c =
    let h = history_of c.args.self.now in
    kept-outcome h c.args.self.now.answers.items c.args.place _
    c.requires.follows c.requires.answers
    (c.answer_at.ensures
    ∙ (ap (λ rows. answer_at rows.clients c.args.place) c.start.ensures
    ∙ (sym (before-past c.args.self.now.stored c.args.place)
    ∙ ap (λ o. option_or o (outcome_before h c.args.place))
    (sym c.in-None.is ∙ c.recent_outcome.ensures))))
