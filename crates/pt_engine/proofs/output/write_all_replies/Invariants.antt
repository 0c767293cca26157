use Rattle.std.proofs.Common.{◌≡◌, ◌++◌, length, List, ℕ}
use Rattle.pt_engine.specs.declared.line_id.LineId.{LineId}
use Rattle.pt_engine.specs.Engines.{latest_text, own_first}
use Rattle.pt_engine.proofs.output.write_all_replies.Given as goal

abbrev pub invariant-loop-reply : goal.invariant-loop-reply
invariant-loop-reply g l =
    let lines : List (ℕ × LineId) = own_first l.mark l.line l.pending.entries in
    l.fn.out.items ++ latest_text lines l.fn.answers
    ≡ l.out.items ++ latest_text lines l.answers

abbrev pub decreases-loop-reply : goal.decreases-loop-reply
decreases-loop-reply g l = length l.answers
