use Rattle.std.proofs.Common.{◌≤◌, ◌-◌, length, take}
use Rattle.pt_table.proofs.Gathered.{IsGathered}
use Rattle.pt_table.proofs.objects.Objects.gather.Given as goal

abbrev pub invariant-loop-rest : goal.invariant-loop-rest
invariant-loop-rest g l =
    IsGathered l.fn.self l.fn.head l.rest (take l.count l.numbers) × (l.count ≤ length l.numbers)

-- how many more numbers there is room for
abbrev pub decreases-loop-rest : goal.decreases-loop-rest
decreases-loop-rest g l = length l.fn.numbers - l.count
