use Rattle.std.proofs.Common.{drop, sym, ap, ◌∙◌}
use Rattle.std.proofs.lemmas.List.{drop-map}
use Rattle.pt_records.specs.declared.answers.Answered.{Answered}
use Rattle.pt_records.specs.Logs.{log_entry}
use Rattle.pt_model.specs.Records.{ReplyView}
use Rattle.pt_model.specs.StartRows.{start_of_rows}
use Rattle.pt_state.proofs.TellingLemmas.{kept-all, kept-rises, kept-from, kept-within}
use Rattle.pt_state.proofs.state.State.answers_before.Goals as goal
use Rattle.pt_history.specs.Stored.{stored_history}

pub answered_since-requires : goal.answered_since-requires
answered_since-requires g c =
    kept-rises (stored_history c.args.self.now.stored) c.args.self.now.answers.items
    c.requires.answers

pub returns-clause-rest : goal.returns-clause-rest
returns-clause-rest g c =
    let s = c.args.self.now in
    let replies : Answered → ReplyView = λ a. (log_entry a).1 in
    let n = c.answered_since.result in
    ap (drop n) (sym (kept-all (start_of_rows s.stored.start) s.stored.entries s.answers.items
    c.requires.answers))
    ∙ (drop-map replies n s.answers.items
    ∙ kept-from (start_of_rows s.stored.start) s.stored.entries s.answers.items
    (drop n s.answers.items) c.args.place c.requires.answers c.answered_since.ensures.rest)

pub returns-clause-within : goal.returns-clause-within
returns-clause-within g c =
    let s = c.args.self.now in
    kept-within (start_of_rows s.stored.start) s.stored.entries s.answers.items
    c.answered_since.result c.requires.answers c.answered_since.ensures.within
