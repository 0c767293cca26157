use Rattle.std.proofs.Common.{◌-◌, ◌++◌}
use Rattle.pt_grammar.specs.Lines.{CutterView}
use Rattle.pt_engine.specs.declared.fault.ScriptFault.TheVariants.{Write}
use Rattle.pt_engine.specs.Engines.{as_script}
use Rattle.pt_script.specs.Tellings.{answers}
use Rattle.pt_script.specs.Texts.{WriterView}
use Rattle.pt_script.specs.Stops.{StopsAtFault}
use Rattle.pt_script.proofs.Stops.{cut_off, told_fault}
use Rattle.pt_script.proofs.whole.take_in.Goals as goal

pub returns-in_err-deliver-clause-err : goal.returns-in_err-deliver-clause-err
returns-in_err-deliver-clause-err g c =
    let known = as_script c.args.engine.now in
    let gives = c.from_residual-in_err-deliver.ensures in
    let why = c.in_err-deliver.ensures.err in
    let held : CutterView =
    record c.args.cutter.now { rest = c.args.cutter.now.rest ++ c.args.piece.now } in
    let old = g.W.Sink.taken c.args.writer.now in
    let writing : WriterView = record {
      taken = g.W.Sink.taken c.deliver.new.writer;
      flushed = g.W.Sink.flushed c.deliver.new.writer;
      failures = g.W.Sink.failures c.deliver.new.writer;
      rejections =
          g.W.Sink.rejections c.deliver.new.writer - g.W.Sink.rejections c.args.writer.now;
    } in
    told_fault c.from_residual-in_err-deliver.result Write
    (λ fault. StopsAtFault answers fault held known old writing) (rw why at gives.1)
    (cut_off answers held c.feed.new.self known
    c.no_text-out.result.items c.tell_all.new.cutter (as_script c.tell_all.new.engine)
    c.tell_all.new.out.items c.deref.result.now old writing c.in_ok-tell_all.ensures.ok
    c.in-Ok.ensures.ok c.no_text-out.ensures c.deref.ensures.value
    c.in_err-deliver.ensures.prefix)
