use Rattle.std.proofs.Common.{◌≡◌, ◌++◌, take}
use Rattle.pt_hub.specs.Discards.{noted}
use Rattle.pt_hub.proofs.discarded.note.Given as goal

abbrev pub invariant-loop-value : goal.invariant-loop-value
invariant-loop-value g l =
    noted l.log.items ≡ noted l.fn.log.items ++ take l.value-index l.values
