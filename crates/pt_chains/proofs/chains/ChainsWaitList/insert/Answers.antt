use Rattle.std.proofs.Common.{◌≡◌, ◌+◌, ◌-◌, ◌<◌, ◌||◌, ◌==◌, cond, Some, refl, sym, ap, ◌∙◌, subst}
use Rattle.std.proofs.Common.{arith, length, vec_len, vec_capacity}
use Rattle.std.specs.Prelude.{IsSome}
use Rattle.pt_types.specs.Limits.{max_priority}
use Rattle.pt_waitq.specs.Queues.{HasLatestArrival, insert_in_order}
use Rattle.pt_waitq.specs.Waits.{queue_of, is_listed, is_admitted, has_queue, has_waiter, AllQueued}
use Rattle.pt_waitq.specs.QueueLemmas.{queue_of-more}
use Rattle.pt_chains.specs.Chains.{numbers, queued_waiters, node_index_of, AreChains}
use Rattle.pt_chains.specs.Boxes.{AreBoxes}
use Rattle.pt_waitq.proofs.ChangeLemmas.{none-stands, idle-if, queue-change, read-as}
use Rattle.pt_chains.proofs.ChainLemmas.{listed-lookup, is-listed}
use Rattle.pt_chains.proofs.BoxLemmas.{spare-there, boxes-put}
use Rattle.pt_chains.proofs.StepLemmas.{waiting-more, room-there, len-there, last-there, put-stand}
use Rattle.pt_chains.proofs.StepLemmas.{step-put, put-admits, home-listed}
use Rattle.pt_chains.proofs.chains.ChainsWaitList.insert.Goals as goal

pub node_index_of-node-requires-clause-exists : goal.node_index_of-node-requires-clause-exists
node_index_of-node-requires-clause-exists g c =
    let es = queued_waiters c.self.inside.log.items in
    let homes = c.self.inside.homes.map.entries in
    let w = c.args.waiter in
    let none = none-stands _ _ es _ w.client c.self.view_is c.self.invariant.0.queued
    c.requires.nowhere in
    let room = ap (λ s. is_admitted s w.client) c.self.view_is ∙ c.requires.admitted in
    let listed = idle-if (numbers homes) es w.client room none in
    subst (λ k. IsSome (node_index_of homes k)) (sym c.client.view_is)
    (sym (listed-lookup w.client homes) ∙ listed)

pub insert-last-requires-clause-exists : goal.insert-last-requires-clause-exists
insert-last-requires-clause-exists g c =
    let o = c.object.inside.0 in
    let is_queue = ap (λ s. has_queue s o) c.self.view_is
    ∙ (ap (has_queue c.args.self.now) c.object.view_is ∙ c.requires.is_queue) in
    sym (listed-lookup o c.self.inside.queues) ∙ is_queue

pub insert-last-requires-clause-room : goal.insert-last-requires-clause-room
insert-last-requires-clause-room g c =
    let es = queued_waiters c.self.inside.log.items in
    let homes = c.self.inside.homes.map.entries in
    let w = c.args.waiter in
    let none = none-stands _ _ es _ w.client c.self.view_is c.self.invariant.0.queued
    c.requires.nowhere in
    let nodes = c.self.inside.nodes.slots in
    let queues = c.self.inside.queues in
    let o = c.object.inside.0 in
    let n = c.node_index_of-node.result in
    let home = ap (node_index_of homes) (sym c.client.view_is) ∙ c.node_index_of-node.ensures in
    let prio = c.level.ensures.value in
    let least = c.level.ensures.least in
    let most = c.level.ensures.greatest in
    let level : (c.level.result - 1) + 1 ≡ w.prio = omega (arith, prio, least) in
    let within : c.level.result - 1 < max_priority = omega (arith, least, most) in
    room-there homes nodes queues es c.self.invariant.0 o w.client n w.writer (c.level.result - 1)
    within home none

pub insert-last-requires-clause-len : goal.insert-last-requires-clause-len
insert-last-requires-clause-len g c =
    let es = queued_waiters c.self.inside.log.items in
    let homes = c.self.inside.homes.map.entries in
    let w = c.args.waiter in
    let none = none-stands _ _ es _ w.client c.self.view_is c.self.invariant.0.queued
    c.requires.nowhere in
    let nodes = c.self.inside.nodes.slots in
    let queues = c.self.inside.queues in
    let o = c.object.inside.0 in
    let n = c.node_index_of-node.result in
    let home = ap (node_index_of homes) (sym c.client.view_is) ∙ c.node_index_of-node.ensures in
    len-there homes nodes queues es c.self.invariant.0 o w.client n home none

pub insert-last-requires-clause-spare : goal.insert-last-requires-clause-spare
insert-last-requires-clause-spare g c =
    let es = queued_waiters c.self.inside.log.items in
    let homes = c.self.inside.homes.map.entries in
    let w = c.args.waiter in
    let none = none-stands _ _ es _ w.client c.self.view_is c.self.invariant.0.queued
    c.requires.nowhere in
    let home = ap (node_index_of homes) (sym c.client.view_is) ∙ c.node_index_of-node.ensures in
    let o = c.object.inside.0 in
    let is_queue = ap (λ s. has_queue s o) c.self.view_is
    ∙ (ap (has_queue c.args.self.now) c.object.view_is ∙ c.requires.is_queue) in
    spare-there homes c.self.inside.nodes.slots c.self.inside.queues es _ _
    c.self.inside.boxes c.self.invariant.0 c.self.invariant.1 w.client c.node_index_of-node.result o
    home
    none is_queue

pub insert-requires-clause-last : goal.insert-requires-clause-last
insert-requires-clause-last g c =
    let es = queued_waiters c.self.inside.log.items in
    let homes = c.self.inside.homes.map.entries in
    let w = c.args.waiter in
    let none = none-stands _ _ es _ w.client c.self.view_is c.self.invariant.0.queued
    c.requires.nowhere in
    let nodes = c.self.inside.nodes.slots in
    let queues = c.self.inside.queues in
    let o = c.object.inside.0 in
    let n = c.node_index_of-node.result in
    let home = ap (node_index_of homes) (sym c.client.view_is) ∙ c.node_index_of-node.ensures in
    let prio = c.level.ensures.value in
    let least = c.level.ensures.least in
    let most = c.level.ensures.greatest in
    let level : (c.level.result - 1) + 1 ≡ w.prio = omega (arith, prio, least) in
    let within : c.level.result - 1 < max_priority = omega (arith, least, most) in
    let is_queue = ap (λ s. has_queue s o) c.self.view_is
    ∙ (ap (has_queue c.args.self.now) c.object.view_is ∙ c.requires.is_queue) in
    last-there homes nodes nodes queues c.insert-last.new.queues es o
    (c.level.result - 1) n w c.insert-last.result c.self.invariant.0 none home level within is_queue
    c.insert-last.ensures.numbers c.insert-last.ensures.others c.insert-last.ensures.queue

pub invariant_of-self : goal.invariant_of-self
invariant_of-self g c =
    let es = queued_waiters c.self.inside.log.items in
    let homes = c.self.inside.homes.map.entries in
    let w = c.args.waiter in
    let none = none-stands _ _ es _ w.client c.self.view_is c.self.invariant.0.queued
    c.requires.nowhere in
    let nodes = c.self.inside.nodes.slots in
    let queues = c.self.inside.queues in
    let o = c.object.inside.0 in
    let n = c.node_index_of-node.result in
    let home = ap (node_index_of homes) (sym c.client.view_is) ∙ c.node_index_of-node.ensures in
    let prio = c.level.ensures.value in
    let least = c.level.ensures.least in
    let most = c.level.ensures.greatest in
    let level : (c.level.result - 1) + 1 ≡ w.prio = omega (arith, prio, least) in
    let within : c.level.result - 1 < max_priority = omega (arith, least, most) in
    let is_queue = ap (λ s. has_queue s o) c.self.view_is
    ∙ (ap (has_queue c.args.self.now) c.object.view_is ∙ c.requires.is_queue) in
    let logged = ap queued_waiters c.and-self-inside.ensures
    ∙ waiting-more c.self.inside.log.items (Some o, w) in
    let queue = ap (λ x. queue_of x es) c.object.view_is
    ∙ read-as _ _ es es _ c.self.view_is c.self.invariant.0.queued refl c.args.object in
    let latest = subst (HasLatestArrival w) (sym queue) c.requires.latest in
    let done = c.insert.ensures in
    let last = c.insert-last.ensures in
    let old = is-listed queues o is_queue in (
      subst (AreChains homes c.insert.new.nodes.slots c.insert-last.new.queues)
          (sym logged)
          (step-put homes nodes c.insert.new.nodes.slots queues c.insert-last.new.queues
          es o (c.level.result - 1) n w c.insert-last.result c.self.invariant.0 none home level
          within is_queue last.numbers last.others last.queue
          done.exists done.next done.before done.entry done.client latest),
      subst (λ ds. AreBoxes (length homes)
          (length (numbers c.insert-last.new.queues)) ds
          (vec_len c.insert-last.new.spares)
          (vec_capacity c.insert-last.new.spares) c.self.inside.boxes) (sym logged)
          (boxes-put homes nodes queues es _ _ c.self.inside.boxes c.self.invariant.0
          c.self.invariant.1 o w old.0 _ _ _ (ap length last.numbers) old.1
          (last.spares old.0 old.1) last.capacity),
      last.empty,
    )

pub returns-clause-queues : goal.returns-clause-queues
returns-clause-queues g c = λ q.
    let es = queued_waiters c.self.inside.log.items in
    let homes = c.self.inside.homes.map.entries in
    let w = c.args.waiter in
    let none = none-stands _ _ es _ w.client c.self.view_is c.self.invariant.0.queued
    c.requires.nowhere in
    let nodes = c.self.inside.nodes.slots in
    let queues = c.self.inside.queues in
    let o = c.object.inside.0 in
    let n = c.node_index_of-node.result in
    let home = ap (node_index_of homes) (sym c.client.view_is) ∙ c.node_index_of-node.ensures in
    let prio = c.level.ensures.value in
    let least = c.level.ensures.least in
    let most = c.level.ensures.greatest in
    let level : (c.level.result - 1) + 1 ≡ w.prio = omega (arith, prio, least) in
    let within : c.level.result - 1 < max_priority = omega (arith, least, most) in
    let is_queue = ap (λ s. has_queue s o) c.self.view_is
    ∙ (ap (has_queue c.args.self.now) c.object.view_is ∙ c.requires.is_queue) in
    let logged = ap queued_waiters c.and-self-inside.ensures
    ∙ waiting-more c.self.inside.log.items (Some o, w) in
    let queued = subst (AllQueued (numbers c.insert-last.new.queues)) (sym logged)
    (put-stand homes nodes c.insert.new.nodes.slots queues c.insert-last.new.queues es o
    (c.level.result - 1) n w c.insert-last.result c.self.invariant.0 none home level within is_queue
    c.insert-last.ensures.numbers c.insert-last.ensures.others c.insert-last.ensures.queue) in
    let step = ap (queue_of q) logged
    ∙ (queue_of-more q es (o, w)
    ∙ ap (λ k. cond (k == q) (insert_in_order w (queue_of q es)) (queue_of q es))
    c.object.view_is) in
    queue-change _ _ _ es _ _ c.self.view_is c.self.invariant.0.queued queued
    (λ ws. cond (c.args.object == q) (insert_in_order w ws) ws) q step

pub returns-clause-admitted : goal.returns-clause-admitted
returns-clause-admitted g c = λ d.
    let es = queued_waiters c.self.inside.log.items in
    let homes = c.self.inside.homes.map.entries in
    let w = c.args.waiter in
    let o = c.object.inside.0 in
    let home = ap (node_index_of homes) (sym c.client.view_is) ∙ c.node_index_of-node.ensures in
    let logged = ap queued_waiters c.and-self-inside.ensures
    ∙ waiting-more c.self.inside.log.items (Some o, w) in
    ap (λ ds. is_listed d (numbers homes) || has_waiter d ds) logged
    ∙ (put-admits (numbers homes) es (o, w) d
    (home-listed homes w.client c.node_index_of-node.result home)
    ∙ ap (λ s. is_admitted s d) c.self.view_is)

pub insert-requires-clause-exists : goal.insert-requires-clause-exists
insert-requires-clause-exists g c =
    c.self.invariant.0.homed.there c.client.inside.0 c.node_index_of-node.result
    c.node_index_of-node.ensures

pub returns-clause-is_queue : goal.returns-clause-is_queue
returns-clause-is_queue g c = λ q.
    ap (is_listed q) c.insert-last.ensures.numbers ∙ ap (λ w. has_queue w q) c.self.view_is

pub insert-last-requires-clause-empty : goal.insert-last-requires-clause-empty
insert-last-requires-clause-empty g c = c.self.invariant.2
