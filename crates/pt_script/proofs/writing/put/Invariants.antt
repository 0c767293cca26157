use Rattle.std.proofs.Common.{◌≡◌, ◌≤◌, ◌++◌, length}
use Rattle.pt_script.proofs.writing.put.Given as goal

abbrev pub invariant-loop-rest : goal.invariant-loop-rest
invariant-loop-rest g l = record {
  works : g.W.Sink.failures l.writer ≡ 0;
  accepted : g.W.Sink.rejections l.writer ≡ g.W.Sink.rejections l.fn.writer;
  out : g.W.Sink.flushed l.writer ≡ g.W.Sink.flushed l.fn.writer;
  taken : g.W.Sink.taken l.writer ++ l.rest ≡ g.W.Sink.taken l.fn.writer ++ l.fn.bytes;
  grows : length (g.W.Sink.taken l.fn.writer) ≤ length (g.W.Sink.taken l.writer);
}

abbrev pub decreases-loop-rest : goal.decreases-loop-rest
decreases-loop-rest g l = length l.rest
