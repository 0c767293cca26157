use Rattle.std.proofs.Common.{◌∙◌, arith}
use Rattle.pt_model.specs.Histories.{history, ◌▷◌}
use Rattle.pt_model.specs.Room.{is_robust_owned}
use Rattle.pt_reference.proofs.Rooms.{count_end}
use Rattle.pt_reference.proofs.after.robust_owned.Goals as goal

pub returns-clause-value : goal.returns-clause-value
returns-clause-value c =
    c.loop-i.invariant.value
    ∙ count_end c.args.entries.now
    (is_robust_owned (history c.args.entries.now ▷ c.args.entry.now)) c.loop-i.i (omega arith)
