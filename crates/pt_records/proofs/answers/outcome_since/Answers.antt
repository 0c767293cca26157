use Rattle.std.proofs.Common.{◌∙◌, ap, map}
use Rattle.pt_records.specs.Logs.{log_entry, log_since}
use Rattle.pt_records.proofs.LogParts.{said-found}
use Rattle.pt_records.proofs.answers.outcome_since.Goals as goal

pub returns : goal.returns
returns g c =
    c.first_outcome.ensures
    ∙ said-found c.args.place c.from.result
    (log_since c.args.place (map log_entry c.args.answers.now.items))
    (ap (map log_entry) c.from.ensures ∙ c.halved_since-from.ensures.rest)
