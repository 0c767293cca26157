use Rattle.std.proofs.Common.{◌≡◌, length, map}
use Rattle.std.specs.List.{list_all}
use Rattle.pt_traces.specs.Answers.{answer_of}
use Rattle.pt_check.specs.Agreements.{is_seen_once}
use Rattle.pt_check.proofs.answered.is_each_seen.Given as goal

abbrev pub invariant-loop-row : goal.invariant-loop-row
invariant-loop-row l =
    list_all (is_seen_once l.block.seen) (map answer_of l.fn.due)
    ≡ list_all (is_seen_once l.block.seen) (map answer_of l.due)

abbrev pub decreases-loop-row : goal.decreases-loop-row
decreases-loop-row l = length l.due
