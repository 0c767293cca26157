use Rattle.std.proofs.Common.{◌≡◌, ◌+◌, ◌≤◌, ◌||◌}
use Rattle.std.specs.BinaryHeap.{IsHeap, heap_items, heap_len, heap_capacity}
use Rattle.pt_timers.specs.declared.key.TimerKey.{TimerKey}
use Rattle.pt_timers.specs.Deadlines.{is_in, is_live, key_cmp, HasLiveFirst}
use Rattle.pt_timers.proofs.stale.move_live.Given as goal

abbrev pub invariant-loop-first : goal.invariant-loop-first
invariant-loop-first g l =
    IsHeap key_cmp (heap_items l.keys) × IsHeap key_cmp (heap_items l.canceled)
    × HasLiveFirst (heap_items l.keys) (heap_items l.canceled)
    × IsHeap key_cmp (heap_items l.live)
    × ((q : TimerKey)
    → (is_in (heap_items l.live) q || is_live (heap_items l.keys) (heap_items l.canceled) q)
    ≡ is_live (heap_items l.initial.keys) (heap_items l.initial.canceled) q)
    × (heap_len l.live + heap_len l.keys ≤ heap_capacity l.live)

abbrev pub decreases-loop-first : goal.decreases-loop-first
decreases-loop-first g l = heap_len l.keys
