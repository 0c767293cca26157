use Rattle.std.proofs.Common.{◌==◌, ◌+◌, ◌||◌, Some, cond, length, vec_len, vec_capacity, refl, sym}
use Rattle.std.proofs.Common.{ap, ◌∙◌}
use Rattle.pt_waitq.specs.Waits.{is_admitted, has_queue, queue_in, is_listed, has_waiter}
use Rattle.pt_chains.specs.Chains.{numbers, queued_waiters}
use Rattle.pt_chains.specs.Boxes.{busy_queue_count}
use Rattle.pt_chains.proofs.ChainLemmas.{not-listed}
use Rattle.pt_chains.proofs.LinkLemmas.{or_parts}
use Rattle.pt_chains.proofs.BoxLemmas.{boxes-grown}
use Rattle.pt_chains.proofs.NodeIndexLemmas.{chains-joined}
use Rattle.pt_chains.proofs.InsertLemmas.{length-numbers}
use Rattle.pt_chains.proofs.GrowthLemmas.{chains-same, boxes-same, spares-few, few-clients}
use Rattle.pt_chains.proofs.GrowthLemmas.{enough-clients, at-most, one-admitted, still-listed}
use Rattle.pt_chains.proofs.chains.ChainsWaitList.admit.Goals as goal

pub admit-requires-clause-new : goal.admit-requires-clause-new
admit-requires-clause-new g c =
    let homes = c.self.inside.homes.map.entries in
    let k = c.client.inside.0 in
    let out = ap (λ s. is_admitted s k) c.self.view_is
    ∙ (ap (is_admitted c.args.self.now) c.client.view_is ∙ c.requires) in
    c.make_room.ensures.homes k
    ∙ not-listed homes k
    (or_parts (is_listed k (numbers homes))
    (has_waiter k (queued_waiters c.self.inside.log.items)) out).0

pub invariant_of-self-2 : goal.invariant_of-self-2
invariant_of-self-2 g c =
    let homes = c.self.inside.homes.map.entries in
    let k = c.client.inside.0 in
    let es = queued_waiters c.self.inside.log.items in
    let out = ap (λ s. is_admitted s k) c.self.view_is
    ∙ (ap (is_admitted c.args.self.now) c.client.view_is ∙ c.requires) in
    let none = not-listed homes k (or_parts (is_listed k (numbers homes))
    (has_waiter k es) out).0 in
    let room = c.make_room.ensures in
    let done = c.admit.ensures in
    let grown = c.in-Ok-grow.ensures in
    let queues = c.self.inside.queues in
    let longer = done.count ∙ ap (λ l. l + 1) room.count in
    let enough = enough-clients (length homes) (length c.admit.new.homes.map.entries)
    (length (numbers queues)) c.in-Ok-grow.boxes c.len-2.result c.len.result c.min-wanted.result
    grown.covers (c.len-2.ensures.len ∙ room.count)
    (c.len.ensures.len ∙ sym (length-numbers queues)) c.min-wanted.ensures longer in (
      chains-joined homes c.make_room.new.homes.map.entries c.admit.new.homes.map.entries
          c.self.inside.nodes.slots c.make_room.new.nodes.slots c.admit.new.nodes.slots queues es
          k c.admit.result c.self.invariant.0 none c.in-Ok.ensures.within room.homes room.count
          room.nodes done.homes done.count done.vacant done.entry done.client done.others,
      boxes-grown (length homes) _ (length (numbers queues)) _ es _ _ _ _ c.self.inside.boxes
          c.self.invariant.1 c.in-Ok-grow.boxes enough grown.len grown.room,
      c.grow.ensures.empty,
    )

pub invariant_of-self : goal.invariant_of-self
invariant_of-self g c =
    let homes = c.self.inside.homes.map.entries in
    let hs = c.make_room.new.homes.map.entries in
    let room = c.make_room.ensures in
    let spares = c.self.inside.spares in (
      chains-same homes hs c.self.inside.nodes.slots c.make_room.new.nodes.slots
          c.self.inside.queues (queued_waiters c.self.inside.log.items) room.homes room.count
          room.nodes
          c.self.invariant.0,
      boxes-same (length homes) (length hs) (length (numbers c.self.inside.queues))
          (queued_waiters c.self.inside.log.items) (vec_len spares) (vec_len spares)
          (vec_capacity spares) (vec_capacity spares) c.self.inside.boxes room.count
          refl (at-most (vec_capacity spares)) c.self.invariant.1,
      c.self.invariant.2,
    )

pub invariant_of-self-in_default-grow : goal.invariant_of-self-in_default-grow
invariant_of-self-in_default-grow g c =
    let homes = c.self.inside.homes.map.entries in
    let hs = c.make_room.new.homes.map.entries in
    let room = c.make_room.ensures in
    let old = c.self.inside.spares in
    let new = c.grow.new.spares in (
      chains-same homes hs c.self.inside.nodes.slots c.make_room.new.nodes.slots
          c.self.inside.queues (queued_waiters c.self.inside.log.items) room.homes room.count
          room.nodes
          c.self.invariant.0,
      boxes-same (length homes) (length hs) (length (numbers c.self.inside.queues))
          (queued_waiters c.self.inside.log.items) (vec_len old) (vec_len new)
          (vec_capacity old) (vec_capacity new) c.self.inside.boxes room.count
          c.in_default-grow.ensures.unchanged c.grow.ensures.capacity c.self.invariant.1,
      c.grow.ensures.empty,
    )

pub returns-in_default-clause-unchanged : goal.returns-in_default-clause-unchanged
returns-in_default-clause-unchanged g c = λ d.
    let es = queued_waiters c.self.inside.log.items in
    ap (λ b. b || has_waiter d es)
    (still-listed c.self.inside.homes.map.entries c.make_room.new.homes.map.entries d
    (c.make_room.ensures.homes d))
    ∙ ap (λ w. is_admitted w d) c.self.view_is

pub returns-in_default-clause-queues : goal.returns-in_default-clause-queues
returns-in_default-clause-queues g c = λ q. ap (λ w. queue_in w q) c.self.view_is

pub returns-in_default-clause-is_queue : goal.returns-in_default-clause-is_queue
returns-in_default-clause-is_queue g c = λ q. ap (λ w. has_queue w q) c.self.view_is

pub returns-in_default-grow-clause-unchanged : goal.returns-in_default-grow-clause-unchanged
returns-in_default-grow-clause-unchanged g c = λ d.
    let es = queued_waiters c.self.inside.log.items in
    ap (λ b. b || has_waiter d es)
    (still-listed c.self.inside.homes.map.entries c.make_room.new.homes.map.entries d
    (c.make_room.ensures.homes d))
    ∙ ap (λ w. is_admitted w d) c.self.view_is

pub returns-in_default-grow-clause-queues : goal.returns-in_default-grow-clause-queues
returns-in_default-grow-clause-queues g c = λ q. ap (λ w. queue_in w q) c.self.view_is

pub returns-in_default-grow-clause-is_queue : goal.returns-in_default-grow-clause-is_queue
returns-in_default-grow-clause-is_queue g c = λ q. ap (λ w. has_queue w q) c.self.view_is

pub grow-requires-clause-wanted : goal.grow-requires-clause-wanted
grow-requires-clause-wanted g c =
    let homes = c.self.inside.homes.map.entries in
    let queues = c.self.inside.queues in
    few-clients (length homes) (length (numbers queues)) c.self.inside.boxes c.len-2.result
    c.len.result c.min-wanted.result c.self.invariant.1.enough
    (c.len-2.ensures.len ∙ c.make_room.ensures.count)
    (c.len.ensures.len ∙ sym (length-numbers queues)) c.min-wanted.ensures

pub grow-requires-clause-room : goal.grow-requires-clause-room
grow-requires-clause-room g c = c.self.invariant.1.fit

pub grow-requires-clause-len : goal.grow-requires-clause-len
grow-requires-clause-len g c =
    spares-few c.self.inside.boxes (busy_queue_count (queued_waiters c.self.inside.log.items))
    (vec_len c.self.inside.spares) c.self.invariant.1.count

pub grow-requires-clause-empty : goal.grow-requires-clause-empty
grow-requires-clause-empty g c = c.self.invariant.2

pub admit-requires-clause-home_room : goal.admit-requires-clause-home_room
admit-requires-clause-home_room g c = c.in-Ok.ensures.home_room

pub admit-requires-clause-node_room : goal.admit-requires-clause-node_room
admit-requires-clause-node_room g c = c.in-Ok.ensures.node_room

pub admit-requires-clause-index : goal.admit-requires-clause-index
admit-requires-clause-index g c = c.in-Ok.ensures.index

pub returns-clause-ok : goal.returns-clause-ok
returns-clause-ok g c = λ d.
    let homes = c.self.inside.homes.map.entries in
    let es = queued_waiters c.self.inside.log.items in
    let k = c.client.inside.0 in
    one-admitted homes c.admit.new.homes.map.entries es k c.admit.result d
    (c.admit.ensures.homes d
    ∙ ap (cond (k == d) (Some c.admit.result)) (c.make_room.ensures.homes d))
    ∙ (ap (λ n. (n == d) || (is_listed d (numbers homes) || has_waiter d es)) c.client.view_is
    ∙ ap (λ w. (c.args.client == d) || is_admitted w d) c.self.view_is)

pub returns-clause-queues : goal.returns-clause-queues
returns-clause-queues g c = λ q. ap (λ w. queue_in w q) c.self.view_is

pub returns-clause-is_queue : goal.returns-clause-is_queue
returns-clause-is_queue g c = λ q. ap (λ w. has_queue w q) c.self.view_is
