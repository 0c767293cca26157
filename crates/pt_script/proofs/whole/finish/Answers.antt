use Rattle.std.proofs.Common.{◌-◌, [], refl, sym, subst, arith}
use Rattle.pt_grammar.specs.Lines.{lines_to_come}
use Rattle.pt_engine.specs.declared.fault.ScriptFault.TheVariants.{Write, Memory}
use Rattle.pt_engine.specs.Engines.{as_script}
use Rattle.pt_script.specs.Tellings.{answers}
use Rattle.pt_script.specs.Tellings.{TellsCuts}
use Rattle.pt_script.specs.Texts.{WriterView}
use Rattle.pt_script.specs.Stops.{StopsAtFault}
use Rattle.pt_script.proofs.Stops.{onto_taken, last_cut_off, told_fault}
use Rattle.pt_script.proofs.whole.finish.Goals as goal

pub returns-in_err-tell_last-clause-err : goal.returns-in_err-tell_last-clause-err
returns-in_err-tell_last-clause-err g c =
    let known = as_script c.args.engine.now in
    let gives = c.from_residual.ensures in
    let why = c.in_err-tell_last.ensures.err in
    let old = g.W.Sink.taken c.args.writer.now in
    let rejections = g.W.Sink.rejections c.args.writer.now in
    let writing : WriterView = record {
      taken = old;
      flushed = g.W.Sink.flushed c.args.writer.now;
      failures = g.W.Sink.failures c.args.writer.now;
      rejections = rejections - rejections;
    } in
    told_fault c.from_residual.result Memory
    (λ fault. StopsAtFault answers fault c.args.cutter known old writing)
    (rw why at gives.1)
    (record {
      taken = refl;
      flushed = c.requires.out;
      failures = c.requires.working;
      rejections = omega arith;
    })

pub returns-in_err-deliver-clause-err : goal.returns-in_err-deliver-clause-err
returns-in_err-deliver-clause-err g c =
    let known = as_script c.args.engine.now in
    let gives = c.from_residual-in_err-deliver.ensures in
    let why = c.in_err-deliver.ensures.err in
    let old = g.W.Sink.taken c.args.writer.now in
    let writing : WriterView = record {
      taken = g.W.Sink.taken c.deliver.new.writer;
      flushed = g.W.Sink.flushed c.deliver.new.writer;
      failures = g.W.Sink.failures c.deliver.new.writer;
      rejections =
          g.W.Sink.rejections c.deliver.new.writer - g.W.Sink.rejections c.args.writer.now;
    } in
    told_fault c.from_residual-in_err-deliver.result Write
    (λ fault. StopsAtFault answers fault c.args.cutter known old writing)
    (rw why at gives.1)
    (last_cut_off answers c.args.cutter known c.new-out.result.items
    (as_script c.tell_last.new.engine) c.tell_last.new.out.items c.deref.result.now old writing
    c.in_ok-tell_last.ensures.ok c.new-out.ensures.items c.deref.ensures.value
    c.in_err-deliver.ensures.prefix)

pub returns-clause-ok : goal.returns-clause-ok
returns-clause-ok g c =
    let known = as_script c.args.engine.now in
    let old = g.W.Sink.taken c.args.writer.now in
    record {
      last = as_script c.tell_last.new.engine;
      appends =
          subst
          (TellsCuts answers known (lines_to_come c.args.cutter []) old
          (as_script c.tell_last.new.engine))
          (sym c.in_ok-deliver.ensures.ok.0)
          (onto_taken answers known (lines_to_come c.args.cutter []) c.new-out.result.items
          (as_script c.tell_last.new.engine) c.tell_last.new.out.items c.deref.result.now old
          c.in_ok-tell_last.ensures.ok c.new-out.ensures.items c.deref.ensures.value);
      lines = c.lines.ensures;
      history = c.entries.ensures;
    }
