use Rattle.pt_lanes.proofs.SetLemmas.{NoneFrom}
use Rattle.pt_lanes.proofs.plain.highest.Given as goal

abbrev pub invariant-loop-i : goal.invariant-loop-i
invariant-loop-i l = NoneFrom l.counts l.i
