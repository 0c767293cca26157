use Rattle.std.proofs.Common.{◌≡◌, ◌++◌, take}
use Rattle.pt_state.specs.Copies.{readers_of}
use Rattle.pt_state.proofs.sealing.readers.add_readers_of.Given as goal

abbrev pub invariant-loop-client : goal.invariant-loop-client
invariant-loop-client g l =
    l.rows.items
    ≡ l.fn.rows.items ++ readers_of l.number (take l.client-index l.readers)
