use Rattle.std.proofs.Common.{List, map, option_map, slice_get, sym, ap, ◌∙◌}
use Rattle.std.proofs.lemmas.Option.{slice_get-map}
use Rattle.pt_model.specs.Records.{ReplyView}
use Rattle.pt_model.specs.StartRows.{start_of_rows}
use Rattle.pt_records.specs.declared.answers.Answered.{Answered}
use Rattle.pt_records.specs.Logs.{log_entry}
use Rattle.pt_state.proofs.TellingLemmas.{kept-rises, kept-from}
use Rattle.pt_state.proofs.state.State.answer_since.Goals as goal
use Rattle.pt_history.specs.Stored.{stored_history}

pub halved_since-requires : goal.halved_since-requires
halved_since-requires g c =
    kept-rises (stored_history c.args.self.now.stored) c.args.self.now.answers.items
    c.requires.answers

pub returns : goal.returns
returns g c =
    let replies : Answered → ReplyView = λ a. (log_entry a).1 in
    ap (option_map replies) c.get.ensures
    ∙ (sym (slice_get-map replies c.from-answers.result c.args.index)
    ∙ ap (λ (xs : List ReplyView). slice_get xs c.args.index)
    (kept-from (start_of_rows c.args.self.now.stored.start) c.args.self.now.stored.entries
    c.args.self.now.answers.items c.from-answers.result c.args.place c.requires.answers
    (ap (map log_entry) c.from-answers.ensures ∙ c.halved_since.ensures.rest)))
