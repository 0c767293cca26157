use Rattle.std.proofs.Common.{length, take, is_err, refl, ap, ◌∙◌}
use Rattle.pt_io.specs.Devices.{bytes_of, count_of, moves_none}
use Rattle.pt_io.proofs.Tallies.{all_but_more, counted_as, counted_none, front, grown_as}
use Rattle.pt_io.proofs.counted.CountedSink.write.Goals as goal

pub returns-in-Ok-clause-out : goal.returns-in-Ok-clause-out
returns-in-Ok-clause-out g c =
    all_but_more (bytes_of c.self.inside.log.items) (bytes_of c.note.new.log.items)
    (bytes_of c.self.inside.recent.items) (bytes_of c.note-in-Ok.new.log.items)
    (take c.in-Ok.n c.args.buf.now) c.self.view_is refl refl c.note.ensures c.note-in-Ok.ensures

pub returns-in-Ok-clause-none : goal.returns-in-Ok-clause-none
returns-in-Ok-clause-none g c =
    counted_as (length c.self.inside.rejections.items)
    (length c.note_rejection.new.rejections.items)
    (count_of (moves_none c.in-Ok.n c.args.buf.now)) c.self.view_is refl c.note_rejection.ensures

pub returns-in_default-clause-none : goal.returns-in_default-clause-none
returns-in_default-clause-none g c =
    counted_none (length c.self.inside.rejections.items) c.retry_write-wrote.result
    c.in_default.field-0 c.args.buf.now c.self.view_is refl c.in_default.is

pub returns-in-Ok-clause-bound : goal.returns-in-Ok-clause-bound
returns-in-Ok-clause-bound g c = rw c.in-Ok.is at c.retry_write-wrote.ensures.bound

pub returns-in-Ok-clause-count : goal.returns-in-Ok-clause-count
returns-in-Ok-clause-count g c =
    ap count_of (c.is_err-self-inside.ensures.value ∙ ap is_err c.in-Ok.is)

pub returns-in-Ok-clause-bytes : goal.returns-in-Ok-clause-bytes
returns-in-Ok-clause-bytes g c =
    grown_as (bytes_of c.self.inside.log.items) (bytes_of c.note.new.log.items)
    (take c.in-Ok.n c.args.buf.now) c.self.view_is refl c.note.ensures

pub slice_bounds-note-end : goal.slice_bounds-note-end
slice_bounds-note-end g c =
    front c.in-Ok.n c.args.buf.now (rw c.in-Ok.is at c.retry_write-wrote.ensures.bound)

pub slice_bounds-note-end-in-Ok : goal.slice_bounds-note-end-in-Ok
slice_bounds-note-end-in-Ok g c =
    front c.in-Ok.n c.args.buf.now (rw c.in-Ok.is at c.retry_write-wrote.ensures.bound)
