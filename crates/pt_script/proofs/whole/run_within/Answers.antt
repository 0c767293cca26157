use Rattle.std.proofs.Common.{◌≡◌, ◌-◌, ◌++◌, [], true, ◌∙◌, sym, ap, subst, refl, take, length}
use Rattle.std.proofs.Common.{inl, inr, append-nil, length-append, arith}
use Rattle.pt_grammar.specs.Lines.{CutterView}
use Rattle.pt_engine.specs.Engines.{as_script}
use Rattle.pt_script.specs.Tellings.{answers}
use Rattle.pt_script.specs.TellingLemmas.{answers_telling}
use Rattle.pt_script.specs.Texts.{WriterView}
use Rattle.pt_script.specs.Ends.{BeginsScriptText, RunView, HasAnsweredLines, IsFaultOf}
use Rattle.pt_script.specs.Ends.{IsReadFault}
use Rattle.pt_script.specs.Ends.{IsScriptText}
use Rattle.pt_script.specs.Stops.{IsEnd, StopsAtFault}
use Rattle.pt_script.proofs.Stops.{on_ok, on_err, told_fault}
use Rattle.pt_script.proofs.Wholes.{fed_end, behind_few, behind_fed, behind_end, begins_given}
use Rattle.pt_script.proofs.Wholes.{stopped_begins, stopped_why, not_ended, behind_begun}
use Rattle.pt_script.proofs.Wholes.{begun_held, has_ended, done_if, whole_told, nothing_before}
use Rattle.pt_script.proofs.Wholes.{never_ended}
use Rattle.pt_script.proofs.whole.run_within.Goals as goal

pub loop-init : goal.loop-init
loop-init g c =
    record {
      behind = behind_begun answers answers_telling (g.R.Source.given c.args.reader.now)
          c.new-cutter.result
          (as_script c.args.engine.now) (g.W.Sink.taken c.args.writer.now) c.requires.fresh.0
          c.new-cutter.ensures c.requires.new c.requires.fresh.1;
      begun = begun_held c.new-cutter.result c.new-cutter.ensures;
      read = c.requires.working.0;
      wrote = c.requires.working.1;
      accepted = refl;
      out =
          nothing_before (g.W.Sink.flushed c.args.writer.now) (g.W.Sink.taken c.args.writer.now)
          (g.met.W.Sink.flushed_taken c.args.writer.now) c.requires.fresh.1
          ∙ sym c.requires.fresh.1;
      calls = omega arith;
      no_end = c.requires.fresh.2;
      some = omega arith;
      few = omega (arith, ap length c.requires.fresh.0);
      room = refl;
    }

pub returns-in_default-clause-prefix : goal.returns-in_default-clause-prefix
returns-in_default-clause-prefix g c =
    let known = as_script c.loop.engine in
    begins_given answers (g.R.Source.given c.loop.reader) (g.R.Source.given c.read.new.self) []
    c.loop.cutter known (g.W.Sink.taken c.loop.writer) c.loop.invariant.behind
    (c.in_default.ensures.bytes ∙ sym (append-nil (g.R.Source.given c.loop.reader)))

pub returns-in_default-clause-err : goal.returns-in_default-clause-err
returns-in_default-clause-err g c =
    let known = as_script c.loop.engine in
    let course : RunView = record {
      reader = record {
        given = g.R.Source.given c.read.new.self;
        earlier = g.R.Source.earlier c.read.new.self;
        failures = g.R.Source.failures c.read.new.self;
        reads = g.R.Source.reads c.read.new.self - g.R.Source.reads c.args.reader.now;
        has_ended = g.R.Source.ended c.read.new.self;
      };
      writer = record {
        taken = g.W.Sink.taken c.loop.writer;
        flushed = g.W.Sink.flushed c.loop.writer;
        failures = g.W.Sink.failures c.loop.writer;
        rejections = g.W.Sink.rejections c.loop.writer - g.W.Sink.rejections c.args.writer.now;
      };
      limit = c.args.reads;
    } in
    let fault : IsReadFault answers course = record {
      cause = inl c.in_default.ensures.count;
      no_end =
          never_ended (g.R.Source.ended c.loop.reader) (g.R.Source.ended c.read.new.self)
          c.loop.invariant.no_end c.in_default.ensures.end;
      whole =
          whole_told answers (g.R.Source.given c.loop.reader) c.loop.cutter known
          course.writer.taken course.reader.given course.writer.taken c.loop.invariant.behind
          c.loop.invariant.begun c.in_default.ensures.bytes refl;
      flushed = c.loop.invariant.out;
      wrote = c.loop.invariant.wrote;
      accepted = omega (arith, c.loop.invariant.accepted);
    } in
    fault

pub finish-requires-clause-within : goal.finish-requires-clause-within
finish-requires-clause-within g c =
    let known = as_script c.loop.engine in
    let few = behind_few answers answers_telling (g.R.Source.given c.loop.reader) c.loop.cutter
    known
    (g.W.Sink.taken c.loop.writer) [] c.loop.invariant.behind in
    let all = length-append (g.R.Source.given c.loop.reader) [] in
    omega (arith, few, all)

pub returns-then-n-eq0-clause-ok : goal.returns-then-n-eq0-clause-ok
returns-then-n-eq0-clause-ok g c =
    let known = as_script c.loop.engine in
    let bytes = g.R.Source.given c.loop.reader in
    let given = g.R.Source.given c.read.new.self in
    let text = g.W.Sink.taken c.loop.writer in
    let new = g.W.Sink.taken c.finish.new.writer in
    let same = c.in-Ok.ensures.bytes
    ∙ ap (λ n. bytes ++ take n c.read.new.buf) c.if-n-eq0.true ∙ append-nil bytes in
    on_ok (λ end. IsEnd answers c.loop.cutter known text new end.lines end.entries)
    (λ end. IsScriptText answers given new end.lines end.entries) c.finish.result
    (λ end done. subst (λ bs. IsScriptText answers bs new end.lines end.entries) (sym same)
    (behind_end answers answers_telling bytes c.loop.cutter known text new end.lines end.entries
    c.loop.invariant.behind done))
    c.finish.ensures.ok

pub returns-then-n-eq0-clause-ended : goal.returns-then-n-eq0-clause-ended
returns-then-n-eq0-clause-ended g c =
    done_if (g.R.Source.ended c.read.new.self ≡ true) c.finish.result
    (has_ended c.in-Ok.n c.read.new.buf (g.R.Source.ended c.loop.reader)
    (g.R.Source.ended c.read.new.self) c.if-n-eq0.true
    (omega (arith, c.read.auto.buf, c.loop.invariant.room)) c.in-Ok.ensures.end)

pub returns-then-n-eq0-clause-prefix : goal.returns-then-n-eq0-clause-prefix
returns-then-n-eq0-clause-prefix g c =
    let known = as_script c.loop.engine in
    let bytes = g.R.Source.given c.loop.reader in
    let given = g.R.Source.given c.read.new.self in
    let text = g.W.Sink.taken c.loop.writer in
    let writing : WriterView = record {
      taken = g.W.Sink.taken c.finish.new.writer;
      flushed = g.W.Sink.flushed c.finish.new.writer;
      failures = g.W.Sink.failures c.finish.new.writer;
      rejections = g.W.Sink.rejections c.finish.new.writer - g.W.Sink.rejections c.loop.writer;
    } in
    let same = c.in-Ok.ensures.bytes
    ∙ ap (λ n. bytes ++ take n c.read.new.buf) c.if-n-eq0.true in
    on_err (λ fault. StopsAtFault answers fault c.loop.cutter known text writing)
    (λ fault. BeginsScriptText answers given writing.taken) c.finish.result
    (λ fault stop. stopped_begins answers answers_telling bytes given [] c.loop.cutter c.loop.cutter
    known text writing fault c.loop.invariant.behind same refl stop)
    c.finish.ensures.err

pub returns-then-n-eq0-clause-err : goal.returns-then-n-eq0-clause-err
returns-then-n-eq0-clause-err g c =
    let known = as_script c.loop.engine in
    let bytes = g.R.Source.given c.loop.reader in
    let text = g.W.Sink.taken c.loop.writer in
    let same = c.in-Ok.ensures.bytes
    ∙ ap (λ n. bytes ++ take n c.read.new.buf) c.if-n-eq0.true in
    let course : RunView = record {
      reader = record {
        given = g.R.Source.given c.read.new.self;
        earlier = g.R.Source.earlier c.read.new.self;
        failures = g.R.Source.failures c.read.new.self;
        reads = g.R.Source.reads c.read.new.self - g.R.Source.reads c.args.reader.now;
        has_ended = g.R.Source.ended c.read.new.self;
      };
      writer = record {
        taken = g.W.Sink.taken c.finish.new.writer;
        flushed = g.W.Sink.flushed c.finish.new.writer;
        failures = g.W.Sink.failures c.finish.new.writer;
        rejections = g.W.Sink.rejections c.finish.new.writer - g.W.Sink.rejections
            c.args.writer.now;
      };
      limit = c.args.reads;
    } in
    let writing : WriterView = record {
      taken = g.W.Sink.taken c.finish.new.writer;
      flushed = g.W.Sink.flushed c.finish.new.writer;
      failures = g.W.Sink.failures c.finish.new.writer;
      rejections = g.W.Sink.rejections c.finish.new.writer - g.W.Sink.rejections c.loop.writer;
    } in
    on_err (λ fault. StopsAtFault answers fault c.loop.cutter known text writing)
    (λ fault. IsFaultOf answers course fault) c.finish.result
    (λ fault stop. stopped_why answers answers_telling bytes [] c.loop.cutter c.loop.cutter known
    text
    course fault c.loop.invariant.behind c.loop.invariant.begun same c.in-Ok.ensures.before refl
    c.in-Ok.ensures.count
    (subst
    (λ n. StopsAtFault answers fault c.loop.cutter known text (record {
      taken = course.writer.taken;
      flushed = course.writer.flushed;
      failures = course.writer.failures;
      rejections = g.W.Sink.rejections c.finish.new.writer - n;
    }))
    c.loop.invariant.accepted stop))
    c.finish.ensures.err

pub take_in-requires-clause-within : goal.take_in-requires-clause-within
take_in-requires-clause-within g c =
    let known = as_script c.loop.engine in
    let bytes = g.R.Source.given c.loop.reader in
    let more = take c.in-Ok.n c.read.new.buf in
    let few = behind_few answers answers_telling bytes c.loop.cutter known
    (g.W.Sink.taken c.loop.writer) more c.loop.invariant.behind in
    let same = ap length (fed_end c.loop.cutter more) in
    let all = length-append bytes more in
    let bound = c.in-Ok.ensures.bound in
    let kept = c.read.auto.buf in
    omega (arith, few, same, all, bound, kept)

pub returns-in_err-take_in-clause-prefix : goal.returns-in_err-take_in-clause-prefix
returns-in_err-take_in-clause-prefix g c =
    let known = as_script c.loop.engine in
    let bytes = g.R.Source.given c.loop.reader in
    let given = g.R.Source.given c.read.new.self in
    let more = take c.in-Ok.n c.read.new.buf in
    let next : CutterView = record c.loop.cutter { rest = c.loop.cutter.rest ++ more } in
    let writing : WriterView = record {
      taken = g.W.Sink.taken c.take_in.new.writer;
      flushed = g.W.Sink.flushed c.take_in.new.writer;
      failures = g.W.Sink.failures c.take_in.new.writer;
      rejections = g.W.Sink.rejections c.take_in.new.writer - g.W.Sink.rejections c.loop.writer;
    } in
    told_fault c.from_residual.result c.in_err-take_in.field-0.0
    (λ fault. BeginsScriptText answers given writing.taken) c.from_residual.ensures.1
    (stopped_begins answers answers_telling bytes given more c.loop.cutter next known
    (g.W.Sink.taken c.loop.writer) writing c.in_err-take_in.field-0.0 c.loop.invariant.behind
    c.in-Ok.ensures.bytes (fed_end c.loop.cutter more) c.in_err-take_in.ensures.err)

pub returns-in_err-take_in-clause-err : goal.returns-in_err-take_in-clause-err
returns-in_err-take_in-clause-err g c =
    let known = as_script c.loop.engine in
    let bytes = g.R.Source.given c.loop.reader in
    let more = take c.in-Ok.n c.read.new.buf in
    let next : CutterView = record c.loop.cutter { rest = c.loop.cutter.rest ++ more } in
    let course : RunView = record {
      reader = record {
        given = g.R.Source.given c.read.new.self;
        earlier = g.R.Source.earlier c.read.new.self;
        failures = g.R.Source.failures c.read.new.self;
        reads = g.R.Source.reads c.read.new.self - g.R.Source.reads c.args.reader.now;
        has_ended = g.R.Source.ended c.read.new.self;
      };
      writer = record {
        taken = g.W.Sink.taken c.take_in.new.writer;
        flushed = g.W.Sink.flushed c.take_in.new.writer;
        failures = g.W.Sink.failures c.take_in.new.writer;
        rejections = g.W.Sink.rejections c.take_in.new.writer - g.W.Sink.rejections
            c.args.writer.now;
      };
      limit = c.args.reads;
    } in
    told_fault c.from_residual.result c.in_err-take_in.field-0.0
    (λ fault. IsFaultOf answers course fault) c.from_residual.ensures.1
    (stopped_why answers answers_telling bytes more c.loop.cutter next known
    (g.W.Sink.taken c.loop.writer) course c.in_err-take_in.field-0.0
    c.loop.invariant.behind c.loop.invariant.begun c.in-Ok.ensures.bytes c.in-Ok.ensures.before
    (fed_end c.loop.cutter more)
    c.in-Ok.ensures.count
    (subst
    (λ n. StopsAtFault answers c.in_err-take_in.field-0.0 next known
    (g.W.Sink.taken c.loop.writer) (record {
      taken = course.writer.taken;
      flushed = course.writer.flushed;
      failures = course.writer.failures;
      rejections = g.W.Sink.rejections c.take_in.new.writer - n;
    }))
    c.loop.invariant.accepted c.in_err-take_in.ensures.err))

pub loop-preserved : goal.loop-preserved
loop-preserved g c =
    let known = as_script c.loop.engine in
    let bytes = g.R.Source.given c.loop.reader in
    let more = take c.in-Ok.n c.read.new.buf in
    let new = g.W.Sink.taken c.take_in.new.writer in
    let longer = ap length c.in-Ok.ensures.bytes ∙ length-append bytes more in
    let bound = c.in-Ok.ensures.bound in
    let kept = c.read.auto.buf in
    let last = as_script c.take_in.new.engine in
    record {
      behind =
          subst (λ bs. HasAnsweredLines answers bs c.take_in.new.cutter last new) (sym
          c.in-Ok.ensures.bytes)
          (behind_fed answers answers_telling bytes more c.loop.cutter known (g.W.Sink.taken
          c.loop.writer)
          c.take_in.new.cutter last new c.loop.invariant.behind c.in_ok-take_in.ensures.ok);
      begun = c.in_ok-take_in.ensures.begun;
      read = c.in-Ok.ensures.count;
      wrote = c.in_ok-take_in.ensures.wrote.0;
      accepted = c.in_ok-take_in.ensures.wrote.1 ∙ c.loop.invariant.accepted;
      out = c.in_ok-take_in.ensures.out;
      calls = omega (arith, c.in-Ok.ensures.calls, c.loop.invariant.calls);
      no_end =
          not_ended c.in-Ok.n c.read.new.buf (g.R.Source.ended c.loop.reader)
          (g.R.Source.ended c.read.new.self) c.if-n-eq0.false c.in-Ok.ensures.end
          ∙ c.loop.invariant.no_end;
      some = omega (arith, longer, bound, c.if-n-eq0.false);
      few = omega (arith, longer, bound, kept);
      room = omega (arith, kept);
    }

pub returns-clause-prefix : goal.returns-clause-prefix
returns-clause-prefix g c =
    let known = as_script c.loop.engine in
    begins_given answers (g.R.Source.given c.loop.reader) (g.R.Source.given c.loop.reader) []
    c.loop.cutter known (g.W.Sink.taken c.loop.writer) c.loop.invariant.behind
    (sym (append-nil (g.R.Source.given c.loop.reader)))

pub returns-clause-err : goal.returns-clause-err
returns-clause-err g c =
    let known = as_script c.loop.engine in
    let course : RunView = record {
      reader = record {
        given = g.R.Source.given c.loop.reader;
        earlier = g.R.Source.earlier c.loop.reader;
        failures = g.R.Source.failures c.loop.reader;
        reads = g.R.Source.reads c.loop.reader - g.R.Source.reads c.args.reader.now;
        has_ended = g.R.Source.ended c.loop.reader;
      };
      writer = record {
        taken = g.W.Sink.taken c.loop.writer;
        flushed = g.W.Sink.flushed c.loop.writer;
        failures = g.W.Sink.failures c.loop.writer;
        rejections = g.W.Sink.rejections c.loop.writer - g.W.Sink.rejections c.args.writer.now;
      };
      limit = c.args.reads;
    } in
    let fault : IsReadFault answers course = record {
      cause = inr (c.loop.invariant.read, omega arith, omega arith);
      no_end = c.loop.invariant.no_end;
      whole =
          whole_told answers course.reader.given c.loop.cutter known
          course.writer.taken
          course.reader.given course.writer.taken c.loop.invariant.behind
          c.loop.invariant.begun refl refl;
      flushed = c.loop.invariant.out;
      wrote = c.loop.invariant.wrote;
      accepted = omega (arith, c.loop.invariant.accepted);
    } in
    fault
