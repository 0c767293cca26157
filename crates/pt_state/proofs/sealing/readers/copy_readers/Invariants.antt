use Rattle.std.proofs.Common.{◌≡◌, ◌++◌, drop}
use Rattle.pt_state.specs.Copies.{readers_in}
use Rattle.pt_state.proofs.sealing.readers.copy_readers.Given as goal

abbrev pub invariant-loop-i : goal.invariant-loop-i
invariant-loop-i g l =
    l.rows.items ++ readers_in (drop l.i l.objects) ≡ readers_in l.objects
