use Rattle.std.proofs.Common.{◌≡◌, ◌==◌, ◌&&◌, drop}
use Rattle.std.specs.List.{list_any}
use Rattle.pt_waitq.specs.Queues.{blocks_readers_from}
use Rattle.pt_plain_list.proofs.entries.blocks_reader.Given as goal

abbrev pub invariant-loop-i : goal.invariant-loop-i
invariant-loop-i l =
    list_any (λ e. (e.0 == l.object) && blocks_readers_from l.prio e.1) (drop l.i l.entries)
    ≡ list_any (λ e. (e.0 == l.object) && blocks_readers_from l.prio e.1) l.entries
