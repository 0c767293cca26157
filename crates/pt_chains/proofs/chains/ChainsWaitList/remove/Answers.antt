use Rattle.std.proofs.Common.{◌≡◌, ◌+◌, ◌-◌, ◌<◌, ℕ, ◌==◌, ◌||◌, false, true, Some, None, refl, sym}
use Rattle.std.proofs.Common.{ap, ◌∙◌, subst, arith}
use Rattle.std.specs.Prelude.{IfNone, is_some, length, vec_len, vec_capacity}
use Rattle.std.specs.Option.{option_map}
use Rattle.pt_types.specs.Limits.{max_priority}
use Rattle.pt_waitq.specs.declared.waiter.Waiter.{Waiter}
use Rattle.pt_waitq.specs.Queues.{is_queued_in, other_waiters}
use Rattle.pt_waitq.specs.Waits.{queue_of, queue_in, is_listed, is_admitted, has_queue, has_waiter}
use Rattle.pt_waitq.specs.Waits.{AllQueued}
use Rattle.pt_waitq.specs.ListLemmas.{Each-in, filter-rest}
use Rattle.pt_waitq.specs.WaitingLemmas.{queue_of-other_waiters}
use Rattle.pt_chains.specs.Chains.{numbers, queued_waiters, node_index_of, entry_of_client}
use Rattle.pt_chains.specs.Chains.{AreChains}
use Rattle.pt_chains.specs.Chains.{HasNone}
use Rattle.pt_chains.specs.Boxes.{AreBoxes}
use Rattle.pt_waitq.proofs.ChangeLemmas.{found-only, found-nowhere, found-in, nowhere-in, read-as}
use Rattle.pt_waitq.proofs.ChangeLemmas.{queue-change}
use Rattle.pt_chains.proofs.ChainLemmas.{entry-there, entry-nowhere, listed-lookup}
use Rattle.pt_chains.proofs.StepLemmas.{place-entry, waiting-more, stands-there, len-stands}
use Rattle.pt_chains.proofs.StepLemmas.{beside-there, take-admits, home-listed}
use Rattle.pt_chains.proofs.BoxLemmas.{if-boxed, some-mapped, room-back, boxes-taken}
use Rattle.pt_chains.proofs.EmptiedLemmas.{step-emptied}
use Rattle.pt_chains.proofs.GrowthLemmas.{if-none}
use Rattle.pt_chains.proofs.chains.ChainsWaitList.remove.Goals as goal

pub returns-in_err-place-clause-nowhere : goal.returns-in_err-place-clause-nowhere
returns-in_err-place-clause-nowhere g c =
    let es = queued_waiters c.self.inside.log.items in
    let client = c.args.client in
    let homes = c.self.inside.homes.map.entries in
    let nodes = c.self.inside.nodes.slots in
    let is = sym c.in_err-place.ensures.none
    ∙ (ap (entry_of_client homes nodes) c.client.view_is ∙ c.self.invariant.0.own client) in
    let none = entry-nowhere client es None is in
    subst (λ o. IfNone o ((q : ℕ) → is_queued_in client (queue_in c.args.self.now q) ≡ false))
    (sym c.from_residual.ensures)
    (nowhere-in client _ (queue_in c.args.self.now) None
    (read-as _ _ es es _ c.self.view_is c.self.invariant.0.queued refl)
    (found-nowhere client es None none))

pub returns-in_err-place-clause-queues : goal.returns-in_err-place-clause-queues
returns-in_err-place-clause-queues g c = λ q.
    let es = queued_waiters c.self.inside.log.items in
    let client = c.args.client in
    let homes = c.self.inside.homes.map.entries in
    let nodes = c.self.inside.nodes.slots in
    let is = sym c.in_err-place.ensures.none
    ∙ (ap (entry_of_client homes nodes) c.client.view_is ∙ c.self.invariant.0.own client) in
    let none = entry-nowhere client es None is in
    let away = nowhere-in client _ (queue_in c.args.self.now) None
    (read-as _ _ es es _ c.self.view_is c.self.invariant.0.queued refl)
    (found-nowhere client es None none) in
    sym (filter-rest (λ (w : Waiter). w.client == client) (queue_in c.args.self.now q) (away q))

pub remove-emptied-requires-clause-exists : goal.remove-emptied-requires-clause-exists
remove-emptied-requires-clause-exists g c =
    let es = queued_waiters c.self.inside.log.items in
    let homes = c.self.inside.homes.map.entries in
    let nodes = c.self.inside.nodes.slots in
    let queues = c.self.inside.queues in
    let place = c.in_ok-place.place in
    let w = place.waiter in
    let there = place-entry homes nodes c.client.inside.0 place.node _
    c.in_ok-place.ensures.home c.in_ok-place.ensures.node in
    let found = entry-there c.client.inside.0 es (Some (place.object, w))
    (sym there ∙ c.self.invariant.0.own c.client.inside.0) in
    let home = ap (node_index_of homes) found.1 ∙ c.in_ok-place.ensures.home in
    let is_queue = Each-in (λ (e : ℕ × Waiter). is_listed e.0 (numbers queues) ≡ true) es
    (place.object, w) c.self.invariant.0.queued.is_queue found.0 in
    sym (listed-lookup place.object queues) ∙ is_queue

pub remove-emptied-requires-clause-counted : goal.remove-emptied-requires-clause-counted
remove-emptied-requires-clause-counted g c =
    let es = queued_waiters c.self.inside.log.items in
    let homes = c.self.inside.homes.map.entries in
    let nodes = c.self.inside.nodes.slots in
    let queues = c.self.inside.queues in
    let place = c.in_ok-place.place in
    let w = place.waiter in
    let there = place-entry homes nodes c.client.inside.0 place.node _
    c.in_ok-place.ensures.home c.in_ok-place.ensures.node in
    let found = entry-there c.client.inside.0 es (Some (place.object, w))
    (sym there ∙ c.self.invariant.0.own c.client.inside.0) in
    let home = ap (node_index_of homes) found.1 ∙ c.in_ok-place.ensures.home in
    let prio = c.level.ensures.value in
    let least = c.level.ensures.least in
    let most = c.level.ensures.greatest in
    let level : (c.level.result - 1) + 1 ≡ w.prio = omega (arith, prio, least) in
    let within : c.level.result - 1 < max_priority = omega (arith, least, most) in
    let is_queue = Each-in (λ (e : ℕ × Waiter). is_listed e.0 (numbers queues) ≡ true) es
    (place.object, w) c.self.invariant.0.queued.is_queue found.0 in
    stands-there homes nodes nodes queues queues es place.object (c.level.result - 1) place.node w
    place.next place.before c.self.invariant.0 found.0 home c.in_ok-place.ensures.node level within
    is_queue

pub remove-emptied-requires-clause-len : goal.remove-emptied-requires-clause-len
remove-emptied-requires-clause-len g c =
    let es = queued_waiters c.self.inside.log.items in
    let homes = c.self.inside.homes.map.entries in
    let nodes = c.self.inside.nodes.slots in
    let queues = c.self.inside.queues in
    let place = c.in_ok-place.place in
    let w = place.waiter in
    let there = place-entry homes nodes c.client.inside.0 place.node _
    c.in_ok-place.ensures.home c.in_ok-place.ensures.node in
    let found = entry-there c.client.inside.0 es (Some (place.object, w))
    (sym there ∙ c.self.invariant.0.own c.client.inside.0) in
    let home = ap (node_index_of homes) found.1 ∙ c.in_ok-place.ensures.home in
    let prio = c.level.ensures.value in
    let least = c.level.ensures.least in
    let most = c.level.ensures.greatest in
    let level : (c.level.result - 1) + 1 ≡ w.prio = omega (arith, prio, least) in
    let within : c.level.result - 1 < max_priority = omega (arith, least, most) in
    let is_queue = Each-in (λ (e : ℕ × Waiter). is_listed e.0 (numbers queues) ≡ true) es
    (place.object, w) c.self.invariant.0.queued.is_queue found.0 in
    len-stands homes nodes nodes queues queues es place.object (c.level.result - 1) place.node w
    place.next place.before c.self.invariant.0 found.0 home c.in_ok-place.ensures.node level within
    is_queue

pub remove-requires-clause-before : goal.remove-requires-clause-before
remove-requires-clause-before g c =
    let es = queued_waiters c.self.inside.log.items in
    let homes = c.self.inside.homes.map.entries in
    let nodes = c.self.inside.nodes.slots in
    let queues = c.self.inside.queues in
    let place = c.in_ok-place.place in
    let w = place.waiter in
    let there = place-entry homes nodes c.client.inside.0 place.node _
    c.in_ok-place.ensures.home c.in_ok-place.ensures.node in
    let found = entry-there c.client.inside.0 es (Some (place.object, w))
    (sym there ∙ c.self.invariant.0.own c.client.inside.0) in
    let home = ap (node_index_of homes) found.1 ∙ c.in_ok-place.ensures.home in
    let prio = c.level.ensures.value in
    let least = c.level.ensures.least in
    let most = c.level.ensures.greatest in
    let level : (c.level.result - 1) + 1 ≡ w.prio = omega (arith, prio, least) in
    let within : c.level.result - 1 < max_priority = omega (arith, least, most) in
    let is_queue = Each-in (λ (e : ℕ × Waiter). is_listed e.0 (numbers queues) ≡ true) es
    (place.object, w) c.self.invariant.0.queued.is_queue found.0 in
    let beside = beside-there homes nodes nodes queues queues es place.object
    (c.level.result - 1) place.node w
    place.next place.before c.self.invariant.0 found.0 home c.in_ok-place.ensures.node level within
    is_queue in
    beside.0

pub remove-requires-clause-next : goal.remove-requires-clause-next
remove-requires-clause-next g c =
    let es = queued_waiters c.self.inside.log.items in
    let homes = c.self.inside.homes.map.entries in
    let nodes = c.self.inside.nodes.slots in
    let queues = c.self.inside.queues in
    let place = c.in_ok-place.place in
    let w = place.waiter in
    let there = place-entry homes nodes c.client.inside.0 place.node _
    c.in_ok-place.ensures.home c.in_ok-place.ensures.node in
    let found = entry-there c.client.inside.0 es (Some (place.object, w))
    (sym there ∙ c.self.invariant.0.own c.client.inside.0) in
    let home = ap (node_index_of homes) found.1 ∙ c.in_ok-place.ensures.home in
    let prio = c.level.ensures.value in
    let least = c.level.ensures.least in
    let most = c.level.ensures.greatest in
    let level : (c.level.result - 1) + 1 ≡ w.prio = omega (arith, prio, least) in
    let within : c.level.result - 1 < max_priority = omega (arith, least, most) in
    let is_queue = Each-in (λ (e : ℕ × Waiter). is_listed e.0 (numbers queues) ≡ true) es
    (place.object, w) c.self.invariant.0.queued.is_queue found.0 in
    let beside = beside-there homes nodes nodes queues queues es place.object
    (c.level.result - 1) place.node w
    place.next place.before c.self.invariant.0 found.0 home c.in_ok-place.ensures.node level within
    is_queue in
    beside.1

pub put_back-requires-clause-emptied : goal.put_back-requires-clause-emptied
put_back-requires-clause-emptied g c =
    let es = queued_waiters c.self.inside.log.items in
    let homes = c.self.inside.homes.map.entries in
    let nodes = c.self.inside.nodes.slots in
    let queues = c.self.inside.queues in
    let place = c.in_ok-place.place in
    let w = place.waiter in
    let there = place-entry homes nodes c.client.inside.0 place.node _
    c.in_ok-place.ensures.home c.in_ok-place.ensures.node in
    let found = entry-there c.client.inside.0 es (Some (place.object, w))
    (sym there ∙ c.self.invariant.0.own c.client.inside.0) in
    let home = ap (node_index_of homes) found.1 ∙ c.in_ok-place.ensures.home in
    let prio = c.level.ensures.value in
    let least = c.level.ensures.least in
    let most = c.level.ensures.greatest in
    let level : (c.level.result - 1) + 1 ≡ w.prio = omega (arith, prio, least) in
    let within : c.level.result - 1 < max_priority = omega (arith, least, most) in
    let is_queue = Each-in (λ (e : ℕ × Waiter). is_listed e.0 (numbers queues) ≡ true) es
    (place.object, w) c.self.invariant.0.queued.is_queue found.0 in
    let done = c.remove.ensures in
    let out = c.remove-emptied.ensures in
    let emptied = step-emptied homes nodes c.remove.new.nodes.slots queues
    c.remove-emptied.new.queues es place.object (c.level.result - 1) place.node w
    place.next place.before c.self.invariant.0 found.0 home c.in_ok-place.ensures.node level within
    is_queue out.numbers out.others done.exists done.next done.before done.entry done.client
    (option_map (λ b. b.value) c.remove-emptied.result) out.queue in
    if-boxed HasNone (λ b. b.value) c.remove-emptied.result emptied.none

pub put_back-requires-clause-room : goal.put_back-requires-clause-room
put_back-requires-clause-room g c =
    let es = queued_waiters c.self.inside.log.items in
    let homes = c.self.inside.homes.map.entries in
    let nodes = c.self.inside.nodes.slots in
    let queues = c.self.inside.queues in
    let place = c.in_ok-place.place in
    let w = place.waiter in
    let there = place-entry homes nodes c.client.inside.0 place.node _
    c.in_ok-place.ensures.home c.in_ok-place.ensures.node in
    let found = entry-there c.client.inside.0 es (Some (place.object, w))
    (sym there ∙ c.self.invariant.0.own c.client.inside.0) in
    let home = ap (node_index_of homes) found.1 ∙ c.in_ok-place.ensures.home in
    let prio = c.level.ensures.value in
    let least = c.level.ensures.least in
    let most = c.level.ensures.greatest in
    let level : (c.level.result - 1) + 1 ≡ w.prio = omega (arith, prio, least) in
    let within : c.level.result - 1 < max_priority = omega (arith, least, most) in
    let is_queue = Each-in (λ (e : ℕ × Waiter). is_listed e.0 (numbers queues) ≡ true) es
    (place.object, w) c.self.invariant.0.queued.is_queue found.0 in
    let done = c.remove.ensures in
    let out = c.remove-emptied.ensures in
    let emptied = step-emptied homes nodes c.remove.new.nodes.slots queues
    c.remove-emptied.new.queues es place.object (c.level.result - 1) place.node w
    place.next place.before c.self.invariant.0 found.0 home c.in_ok-place.ensures.node level within
    is_queue out.numbers out.others done.exists done.next done.before done.entry done.client
    (option_map (λ b. b.value) c.remove-emptied.result) out.queue in
    λ some.
    room-back homes nodes queues es _ _ c.self.inside.boxes c.self.invariant.0 c.self.invariant.1
    place.object w (is_some c.remove-emptied.result) found.0
    (sym (some-mapped (λ b. b.value) c.remove-emptied.result) ∙ emptied.last) some

pub invariant_of-self : goal.invariant_of-self
invariant_of-self g c =
    let es = queued_waiters c.self.inside.log.items in
    let homes = c.self.inside.homes.map.entries in
    let nodes = c.self.inside.nodes.slots in
    let queues = c.self.inside.queues in
    let place = c.in_ok-place.place in
    let w = place.waiter in
    let there = place-entry homes nodes c.client.inside.0 place.node _
    c.in_ok-place.ensures.home c.in_ok-place.ensures.node in
    let found = entry-there c.client.inside.0 es (Some (place.object, w))
    (sym there ∙ c.self.invariant.0.own c.client.inside.0) in
    let home = ap (node_index_of homes) found.1 ∙ c.in_ok-place.ensures.home in
    let prio = c.level.ensures.value in
    let least = c.level.ensures.least in
    let most = c.level.ensures.greatest in
    let level : (c.level.result - 1) + 1 ≡ w.prio = omega (arith, prio, least) in
    let within : c.level.result - 1 < max_priority = omega (arith, least, most) in
    let is_queue = Each-in (λ (e : ℕ × Waiter). is_listed e.0 (numbers queues) ≡ true) es
    (place.object, w) c.self.invariant.0.queued.is_queue found.0 in
    let done = c.remove.ensures in
    let out = c.remove-emptied.ensures in
    let emptied = step-emptied homes nodes c.remove.new.nodes.slots queues
    c.remove-emptied.new.queues es place.object (c.level.result - 1) place.node w
    place.next place.before c.self.invariant.0 found.0 home c.in_ok-place.ensures.node level within
    is_queue out.numbers out.others done.exists done.next done.before done.entry done.client
    (option_map (λ b. b.value) c.remove-emptied.result) out.queue in
    let logged = ap queued_waiters c.and-self-inside.ensures
    ∙ waiting-more c.self.inside.log.items (None, w) in
    let back = c.put_back.ensures in (
      subst (AreChains homes c.remove.new.nodes.slots c.remove-emptied.new.queues)
          (sym logged) emptied.chains,
      subst (λ ds. AreBoxes (length homes)
          (length (numbers c.remove-emptied.new.queues)) ds
          (vec_len c.put_back.new.spares)
          (vec_capacity c.put_back.new.spares) c.self.inside.boxes) (sym logged)
          (boxes-taken homes nodes queues es _ _ c.self.inside.boxes c.self.invariant.0
          c.self.invariant.1 place.object w (is_some c.remove-emptied.result) found.0
          (sym (some-mapped (λ b. b.value) c.remove-emptied.result) ∙ emptied.last) _ _ _
          (ap length out.numbers) back.len
          back.capacity),
      back.empty,
    )

pub returns-clause-found : goal.returns-clause-found
returns-clause-found g c =
    let es = queued_waiters c.self.inside.log.items in
    let client = c.args.client in
    let homes = c.self.inside.homes.map.entries in
    let nodes = c.self.inside.nodes.slots in
    let place = c.in_ok-place.place in
    let there = place-entry homes nodes c.client.inside.0 place.node _
    c.in_ok-place.ensures.home c.in_ok-place.ensures.node in
    let is = sym there
    ∙ (ap (entry_of_client homes nodes) c.client.view_is ∙ c.self.invariant.0.own client) in
    let found = entry-there client es (Some (place.object, place.waiter)) is in
    let only = found-only client es (Some (place.object, place.waiter))
    c.self.invariant.0.queued.once found in
    found-in client _ (queue_in c.args.self.now) (Some (place.object, place.waiter))
    (read-as _ _ es es _ c.self.view_is c.self.invariant.0.queued refl) only

pub returns-clause-queues : goal.returns-clause-queues
returns-clause-queues g c = λ q.
    let es = queued_waiters c.self.inside.log.items in
    let homes = c.self.inside.homes.map.entries in
    let nodes = c.self.inside.nodes.slots in
    let queues = c.self.inside.queues in
    let place = c.in_ok-place.place in
    let w = place.waiter in
    let there = place-entry homes nodes c.client.inside.0 place.node _
    c.in_ok-place.ensures.home c.in_ok-place.ensures.node in
    let found = entry-there c.client.inside.0 es (Some (place.object, w))
    (sym there ∙ c.self.invariant.0.own c.client.inside.0) in
    let home = ap (node_index_of homes) found.1 ∙ c.in_ok-place.ensures.home in
    let prio = c.level.ensures.value in
    let least = c.level.ensures.least in
    let most = c.level.ensures.greatest in
    let level : (c.level.result - 1) + 1 ≡ w.prio = omega (arith, prio, least) in
    let within : c.level.result - 1 < max_priority = omega (arith, least, most) in
    let is_queue = Each-in (λ (e : ℕ × Waiter). is_listed e.0 (numbers queues) ≡ true) es
    (place.object, w) c.self.invariant.0.queued.is_queue found.0 in
    let done = c.remove.ensures in
    let out = c.remove-emptied.ensures in
    let emptied = step-emptied homes nodes c.remove.new.nodes.slots queues
    c.remove-emptied.new.queues es place.object (c.level.result - 1) place.node w
    place.next place.before c.self.invariant.0 found.0 home c.in_ok-place.ensures.node level within
    is_queue out.numbers out.others done.exists done.next done.before done.entry done.client
    (option_map (λ b. b.value) c.remove-emptied.result) out.queue in
    let logged = ap queued_waiters c.and-self-inside.ensures
    ∙ waiting-more c.self.inside.log.items (None, w) in
    let queued = subst (AllQueued (numbers c.remove-emptied.new.queues)) (sym logged)
    emptied.chains.queued in
    let step = ap (queue_of q) logged
    ∙ (queue_of-other_waiters w.client q es
    ∙ ap (λ k. other_waiters k (queue_of q es)) (found.1 ∙ c.client.view_is)) in
    queue-change _ _ _ es _ _ c.self.view_is c.self.invariant.0.queued queued
    (other_waiters c.args.client) q step

pub returns-clause-admitted : goal.returns-clause-admitted
returns-clause-admitted g c = λ d.
    let es = queued_waiters c.self.inside.log.items in
    let homes = c.self.inside.homes.map.entries in
    let nodes = c.self.inside.nodes.slots in
    let queues = c.self.inside.queues in
    let place = c.in_ok-place.place in
    let w = place.waiter in
    let there = place-entry homes nodes c.client.inside.0 place.node _
    c.in_ok-place.ensures.home c.in_ok-place.ensures.node in
    let found = entry-there c.client.inside.0 es (Some (place.object, w))
    (sym there ∙ c.self.invariant.0.own c.client.inside.0) in
    let home = ap (node_index_of homes) found.1 ∙ c.in_ok-place.ensures.home in
    let logged = ap queued_waiters c.and-self-inside.ensures
    ∙ waiting-more c.self.inside.log.items (None, w) in
    ap (λ ds. is_listed d (numbers homes) || has_waiter d ds) logged
    ∙ (take-admits (numbers homes) es w.client d (home-listed homes w.client place.node home)
    ∙ ap (λ s. is_admitted s d) c.self.view_is)

pub returns-clause-is_queue : goal.returns-clause-is_queue
returns-clause-is_queue g c = λ q.
    ap (is_listed q) c.remove-emptied.ensures.numbers ∙ ap (λ w. has_queue w q) c.self.view_is

pub returns-in_err-place-clause-found : goal.returns-in_err-place-clause-found
returns-in_err-place-clause-found g c = if-none c.from_residual.result _ c.from_residual.ensures

pub put_back-requires-clause-empty : goal.put_back-requires-clause-empty
put_back-requires-clause-empty g c = c.self.invariant.2
