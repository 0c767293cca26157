use Rattle.std.proofs.Common.{◌∙◌, ap}
use Rattle.pt_types.specs.RwlockTable.{read_verdict}
use Rattle.pt_rwlock.specs.RwlockState.{view_for}
use Rattle.pt_rwlock.proofs.WriterLemmas.{blocked-once}
use Rattle.pt_rwlock.proofs.object.RwObj.verdict_read.Goals as goal

pub returns : goal.returns
returns g c = λ blocked says.
    c.verdict_read_blocked.ensures
    ∙ ap (λ b. read_verdict (view_for c.args.self.now.lock c.args.caller) b c.args.how)
    (blocked-once c.args.self.now c.args.priority c.is_blocked.result blocked
    c.is_blocked.ensures says)
