use Rattle.std.proofs.Common.{◌++◌, ◌∙◌, ap, subst, sym}
use mathlib.Core.List.{IsPrefix}
use Rattle.rtrb.specs.Ring.{known_items, received, sent}
use Rattle.pt_session.specs.Readings.{input_view}
use Rattle.pt_session.specs.Outputs.{output_view}
use Rattle.pt_session.specs.Ends.{EndsReading}
use Rattle.pt_session.proofs.SessionStateLemmas.{new_moments}
use Rattle.pt_session.proofs.SessionLemmas.{is_session}
use Rattle.pt_session.proofs.whole.fn.OpenSession.run.scope.Goals as goal

pub returns : goal.returns
returns g c =
    let work = c.work-work.result in
    let read = c.end-read.result.0 in
    let seen =
    input_view g.R.Source.given g.R.Source.ended g.R.Source.failures g.R.Source.reads in
    let popped = c.slots_beside.new.self in
    let taken =
    subst (λ xs. IsPrefix xs (sent read.ring))
    (c.slots_beside.ensures.looked.1 ∙ ap received c.end-read.ensures.ring) (
      known_items popped,
      c.slots_beside.ensures.fifo ∙ c.slots_beside.ensures.producer.1,
    ) in
    let of = c.of.ensures in
    is_session c.captures.mode c.captures.retention seen
    (output_view g.W.Sink.taken g.W.Sink.flushed g.W.Sink.failures g.W.Sink.rejections
    c.captures.writer)
    read work c.of.result
    (record {
      read = of.read.0;
      reader = of.read.1;
      submitted = of.counts.0;
      answered = of.counts.1;
      left = of.left.0;
      clock = of.left.1;
      transcript = of.transcript;
      writer = of.writer;
      cause = of.cause;
    })
    (subst (λ mode. EndsReading mode seen read)
    (c.work-work.ensures.lines.1
    ∙ c.of_reader-lines.ensures.lines.1
    ∙ c.new-side.ensures.1)
    c.end-read.ensures.ends)
    taken
    c.work-work.ensures.labour c.work-work.ensures.stops c.work-work.ensures.words
    c.work-work.ensures.left c.work-work.ensures.clock

pub work-work-requires-clause-lines : goal.work-work-requires-clause-lines
work-work-requires-clause-lines g c = λ _ _.
    ap received c.of_reader-lines.ensures.lines.0 ∙ c.requires.new.0.2

pub work-work-requires-clause-clock : goal.work-work-requires-clause-clock
work-work-requires-clause-clock g c = λ _ _.
    new_moments c.captures.retention c.captures.clock c.requires.new.1
