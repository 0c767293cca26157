use Rattle.std.proofs.Common.{◌≡◌, take}
use Rattle.pt_model.specs.Histories.{history}
use Rattle.pt_model.specs.Rwlocks.{is_writer}
use Rattle.pt_readings.proofs.rwlocks.writes.Given as goal

abbrev pub invariant-loop-i : goal.invariant-loop-i
invariant-loop-i l = l.found ≡ is_writer (history (take l.i l.entries)) l.r l.c
