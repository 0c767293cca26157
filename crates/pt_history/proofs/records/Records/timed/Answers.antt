use Rattle.std.proofs.Common.{ℕ, List, ap, ◌∙◌}
use Rattle.pt_history.specs.declared.compact.TimeLimit.{TimeLimit}
use Rattle.pt_history.specs.Compact.{with_limit, text_at}
use Rattle.pt_history.specs.Records.{parts_of}
use Rattle.pt_history.proofs.Views.{limit-read}
use Rattle.pt_history.proofs.records.Records.timed.Goals as goal

pub returns : goal.returns
returns g c =
    let p = parts_of c.args.self.now in
    let l = c.index.result.now in
    c.timed_call.ensures
    ∙ (ap (λ (n : List ℕ). with_limit c.args.kind n l.deadline l.clock) c.name.ensures
    ∙ ap (λ (x : TimeLimit). with_limit c.args.kind (text_at p.texts c.args.from c.args.length)
    x.deadline x.clock) (limit-read p c.args.limit l c.requires.limit c.index.ensures))
