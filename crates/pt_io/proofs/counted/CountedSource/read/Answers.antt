use Rattle.std.proofs.Common.{refl, ap}
use Rattle.pt_io.specs.Devices.{bytes_of}
use Rattle.pt_io.proofs.Tallies.{all_but_new, all_but_none, grown_as, one_call}
use Rattle.pt_io.proofs.counted.CountedSource.read.Goals as goal

pub returns-in-Ok-clause-calls : goal.returns-in-Ok-clause-calls
returns-in-Ok-clause-calls g c =
    one_call c.self.inside.reads.items c.and-self-inside.result.items (tt, tt) c.self.view_is refl
    c.and-self-inside.ensures

pub returns-in_default-clause-calls : goal.returns-in_default-clause-calls
returns-in_default-clause-calls g c =
    one_call c.self.inside.reads.items c.and-self-inside.result.items (tt, tt) c.self.view_is refl
    c.and-self-inside.ensures

pub returns-in-Ok-clause-before : goal.returns-in-Ok-clause-before
returns-in-Ok-clause-before g c =
    all_but_new (bytes_of c.self.inside.log.items) (bytes_of c.note.new.log.items)
    (bytes_of c.note-in-Ok.new.log.items) _ (bytes_of c.new-self-inside.result.items)
    c.self.view_is refl c.note.ensures c.note-in-Ok.ensures (ap bytes_of c.new-self-inside.ensures)

pub returns-in_default-clause-before : goal.returns-in_default-clause-before
returns-in_default-clause-before g c =
    all_but_none (bytes_of c.self.inside.log.items) (bytes_of c.new-self-inside.result.items)
    c.self.view_is refl (ap bytes_of c.new-self-inside.ensures)

pub returns-in-Ok-clause-bytes : goal.returns-in-Ok-clause-bytes
returns-in-Ok-clause-bytes g c =
    grown_as (bytes_of c.self.inside.log.items) (bytes_of c.note.new.log.items) _ c.self.view_is
    refl c.note.ensures
