use Rattle.std.proofs.Common.{◌≡◌, ◌+◌, ◌*◌, ◌≤◌, false, length}
use Rattle.pt_grammar.specs.Lines.{HasNoWholeLine}
use Rattle.pt_engine.specs.Engines.{as_script}
use Rattle.pt_script.specs.Ends.{HasAnsweredLines}
use Rattle.pt_explain.specs.Explanations.{explains}
use Rattle.pt_explain.proofs.whole.explain_within.Given as goal

abbrev pub invariant-loop : goal.invariant-loop
invariant-loop g l = record {
  behind :
      HasAnsweredLines explains (g.R.Source.given l.reader) l.cutter (as_script l.engine)
      (g.W.Sink.taken l.writer);
  begun : HasNoWholeLine l.cutter;
  read : g.R.Source.failures l.reader ≡ 0;
  wrote : g.W.Sink.failures l.writer ≡ 0;
  accepted : g.W.Sink.rejections l.writer ≡ g.W.Sink.rejections l.fn.writer;
  out : g.W.Sink.flushed l.writer ≡ g.W.Sink.taken l.writer;
  calls : g.R.Source.reads l.reader ≡ g.R.Source.reads l.fn.reader + l.counter;
  no_end : g.R.Source.ended l.reader ≡ false;
  some : l.counter ≤ length (g.R.Source.given l.reader);
  few : length (g.R.Source.given l.reader) ≤ 4096 * l.counter;
  room : length l.piece ≡ 4096;
}
