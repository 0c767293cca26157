use Rattle.std.proofs.Common.{◌≡◌, ◌++◌, drop, map}
use Rattle.pt_state.specs.Copies.{object_start}
use Rattle.pt_state.proofs.sealing.objects.copy_objects.Given as goal

abbrev pub invariant-loop-i : goal.invariant-loop-i
invariant-loop-i g l =
    l.rows.items ++ map object_start (drop l.i l.objects) ≡ map object_start l.objects
