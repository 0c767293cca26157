use Rattle.std.proofs.Common.{◌-◌, ◌+◌, ◌∙◌, length-set}
use Rattle.std.specs.Prelude.{slice_index}
use Rattle.pt_rwlock.proofs.object.RwObj.note_writer.Goals as goal

pub returns-clause-priorities : goal.returns-clause-priorities
returns-clause-priorities g c =
    let i = c.level.result - 1 in
    length-set c.self.inside.waiting_writers i (slice_index c.self.inside.waiting_writers i + 1)
    ∙ c.self.told
