use Rattle.std.proofs.Common.{◌≡◌, take}
use Rattle.pt_model.specs.Histories.{history}
use Rattle.pt_model.specs.Objects.{kind_of}
use Rattle.pt_readings.proofs.objects.kind_of.Given as goal

abbrev pub invariant-loop-i : goal.invariant-loop-i
invariant-loop-i l = l.found ≡ kind_of (history (take l.i l.entries)) l.o
