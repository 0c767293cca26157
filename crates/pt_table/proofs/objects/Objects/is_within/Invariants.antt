use Rattle.std.proofs.Common.{◌≤◌}
use Rattle.pt_table.proofs.Walked.{IsWalked}
use Rattle.pt_table.proofs.objects.Objects.is_within.Given as goal

abbrev pub invariant-loop : goal.invariant-loop
invariant-loop g l = IsWalked l.fn.self l.fn.head l.counter l.rest × (l.counter ≤ l.fn.max_len)
