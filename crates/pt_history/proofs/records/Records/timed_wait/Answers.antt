use Rattle.std.proofs.Common.{ℕ, ◌+◌, List, ap, ◌∙◌}
use Rattle.pt_history.specs.declared.compact.TimeLimit.{TimeLimit}
use Rattle.pt_history.specs.Compact.{wait_until, text_at}
use Rattle.pt_history.specs.Records.{parts_of}
use Rattle.pt_history.proofs.Views.{limit-read}
use Rattle.pt_history.proofs.records.Records.timed_wait.Goals as goal

pub returns : goal.returns
returns g c =
    let p = parts_of c.args.self.now in
    let l = c.index.result.now in
    let one = text_at p.texts c.args.from c.args.first in
    let other = text_at p.texts (c.args.from + c.args.first) c.args.second in
    c.wait_call.ensures
    ∙ (ap (λ (n : List ℕ). wait_until n c.name-mutex.result l.deadline l.clock)
    c.name-cond.ensures
    ∙ (ap (λ (n : List ℕ). wait_until one n l.deadline l.clock) c.name-mutex.ensures
    ∙ ap (λ (x : TimeLimit). wait_until one other x.deadline x.clock)
    (limit-read p c.args.limit l c.requires.limit c.index.ensures)))
