use Rattle.std.proofs.Common.{◌≡◌, take}
use Rattle.std.specs.Prelude.{option_map}
use Rattle.pt_model.specs.Histories.{history}
use Rattle.pt_model.specs.Objects.{object_named}
use Rattle.pt_readings.specs.ObjectViews.{plain_object_view}
use Rattle.pt_readings.proofs.objects.object_named.Given as goal

abbrev pub invariant-loop-i : goal.invariant-loop-i
invariant-loop-i l =
    option_map plain_object_view l.found ≡ object_named (history (take l.i l.entries)) l.n
