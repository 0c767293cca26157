use Rattle.std.proofs.Common.{◌∷◌, [], map, length, ap, ◌∙◌}
use Rattle.std.proofs.lemmas.List.{length_push, map-append}
use Rattle.pt_records.specs.Logs.{log_entry}
use Rattle.pt_records.proofs.answers.tell.Goals as goal

pub returns-clause-replies : goal.returns-clause-replies
returns-clause-replies g c =
    ap (map log_entry) c.push.ensures.items
    ∙ map-append log_entry c.args.answers.now.items (c.args.answer ∷ [])

pub returns-clause-len : goal.returns-clause-len
returns-clause-len g c =
    ap length c.push.ensures.items ∙ length_push c.args.answers.now.items c.args.answer
