use Rattle.std.proofs.Common.{◌≡◌, length}
use Rattle.std.specs.Prelude.{◌==◌, find}
use Rattle.pt_records.proofs.answers.first_outcome.Given as goal

abbrev pub invariant-loop-answer : goal.invariant-loop-answer
invariant-loop-answer l =
    find (λ a. a.place == l.place) l.answers ≡ find (λ a. a.place == l.place) l.fn.answers

abbrev pub decreases-loop-answer : goal.decreases-loop-answer
decreases-loop-answer l = length l.answers
