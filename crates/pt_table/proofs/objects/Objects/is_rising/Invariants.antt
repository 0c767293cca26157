use Rattle.pt_table.proofs.Walked.{IsRisingTo}
use Rattle.pt_table.proofs.objects.Objects.is_rising.Given as goal

abbrev pub invariant-loop : goal.invariant-loop
invariant-loop g l = IsRisingTo l.fn.self l.fn.head l.last
