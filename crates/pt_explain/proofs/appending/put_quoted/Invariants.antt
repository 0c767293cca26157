use Rattle.std.proofs.Common.{◌≡◌, ◌++◌, length, true}
use Rattle.pt_explain.specs.Explanations.{quoted}
use Rattle.pt_explain.proofs.appending.put_quoted.Given as goal

abbrev pub invariant-loop-rest : goal.invariant-loop-rest
invariant-loop-rest g l =
    l.out.items ++ quoted true l.rest ≡ l.fn.out.items ++ quoted true l.fn.answers

abbrev pub decreases-loop-rest : goal.decreases-loop-rest
decreases-loop-rest g l = length l.rest
