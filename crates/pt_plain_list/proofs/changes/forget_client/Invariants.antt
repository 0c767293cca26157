use Rattle.std.proofs.Common.{◌≡◌, ◌≤◌, ◌==◌, ◌++◌, not, take, drop, filter, length, vec_capacity}
use Rattle.pt_plain_list.proofs.changes.forget_client.Given as goal

abbrev pub invariant-loop-i : goal.invariant-loop-i
invariant-loop-i g l =
    let old = l.fn.clients.items in
    (l.i ≤ length old)
    × (l.clients.items ≡ take l.i old ++ filter (λ x. not (x == l.client)) (drop l.i old))
    × (vec_capacity l.clients ≡ vec_capacity l.fn.clients)

abbrev pub decreases-loop-i : goal.decreases-loop-i
decreases-loop-i g l = l.i
