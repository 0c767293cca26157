use Rattle.std.proofs.Common.{◌≡◌, length, count_by}
use Rattle.pt_traces.specs.Answers.{agrees_with}
use Rattle.pt_check.proofs.answered.is_seen.Given as goal

abbrev pub invariant-loop-answer : goal.invariant-loop-answer
invariant-loop-answer l =
    count_by (agrees_with l.due) l.fn.seen ≡ count_by (agrees_with l.due) l.seen

abbrev pub decreases-loop-answer : goal.decreases-loop-answer
decreases-loop-answer l = length l.seen
