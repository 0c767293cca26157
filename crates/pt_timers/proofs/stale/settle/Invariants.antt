use Rattle.std.proofs.Common.{◌≡◌, ◌+◌, ◌≤◌, true}
use Rattle.std.specs.BinaryHeap.{IsHeap, heap_items, heap_len}
use Rattle.pt_timers.specs.declared.key.TimerKey.{TimerKey}
use Rattle.pt_timers.specs.Deadlines.{is_in, is_live, key_cmp}
use Rattle.pt_timers.proofs.stale.settle.Given as goal

abbrev pub invariant-loop : goal.invariant-loop
invariant-loop g l =
    IsHeap key_cmp (heap_items l.keys) × IsHeap key_cmp (heap_items l.canceled)
    × ((q : TimerKey) → is_live (heap_items l.keys) (heap_items l.canceled) q
    ≡ is_live (heap_items l.initial.keys) (heap_items l.initial.canceled) q)
    × ((q : TimerKey) → is_in (heap_items l.canceled) q ≡ true
    → is_in (heap_items l.initial.canceled) q ≡ true)
    × (heap_len l.keys ≤ heap_len l.initial.keys)

abbrev pub decreases-loop : goal.decreases-loop
decreases-loop g l = heap_len l.keys + heap_len l.canceled
