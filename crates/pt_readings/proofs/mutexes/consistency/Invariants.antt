use Rattle.std.proofs.Common.{◌≡◌, take}
use Rattle.pt_model.specs.Histories.{history}
use Rattle.pt_model.specs.Mutexes.{consistency}
use Rattle.pt_readings.proofs.mutexes.consistency.Given as goal

abbrev pub invariant-loop-i : goal.invariant-loop-i
invariant-loop-i l = l.found ≡ consistency (history (take l.i l.entries)) l.m
