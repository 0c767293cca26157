use Rattle.std.proofs.Common.{◌≡◌, ◌+◌, ◌-◌, ◌<◌, ℕ, ◌||◌, true, Some, None, refl, sym}
use Rattle.std.proofs.Common.{ap, ◌∙◌, subst, arith}
use Rattle.std.specs.Prelude.{is_some, length, vec_len, vec_capacity}
use Rattle.std.specs.Option.{option_map}
use Rattle.pt_types.specs.Limits.{max_priority}
use Rattle.pt_waitq.specs.declared.waiter.Waiter.{Waiter}
use Rattle.pt_waitq.specs.Queues.{head_of, other_waiters}
use Rattle.pt_waitq.specs.Waits.{queue_of, is_listed, is_admitted, has_queue, has_waiter, AllQueued}
use Rattle.pt_waitq.specs.ListLemmas.{Each-in}
use Rattle.pt_waitq.specs.WaitingLemmas.{queue_of-other_waiters}
use Rattle.pt_chains.specs.Chains.{numbers, queued_waiters, AreChains, HasNone}
use Rattle.pt_chains.specs.Boxes.{AreBoxes}
use Rattle.pt_waitq.proofs.ChangeLemmas.{read-as, queue-change}
use Rattle.pt_chains.proofs.StepLemmas.{waiting-more, stands-there, len-stands}
use Rattle.pt_chains.proofs.StepLemmas.{beside-there, take-admits, home-listed}
use Rattle.pt_chains.proofs.BoxLemmas.{if-boxed, some-mapped, room-back, boxes-taken}
use Rattle.pt_chains.proofs.EmptiedLemmas.{step-emptied}
use Rattle.pt_chains.proofs.FirstLemmas.{first-known, first-told}
use Rattle.pt_chains.proofs.FirstOut.{head-out}
use Rattle.pt_chains.proofs.chains.ChainsWaitList.take_first.Goals as goal

pub returns-in_err-node-clause-first : goal.returns-in_err-node-clause-first
returns-in_err-node-clause-first g c =
    let es = queued_waiters c.self.inside.log.items in
    let found = c.in_err-node.ensures in
    c.from_residual.ensures
    ∙ (first-told c.self.inside.homes.map.entries c.self.inside.nodes.slots
    c.self.inside.queues es c.self.invariant.0 c.object.inside.0 None found.none
    found.queue
    ∙ (ap (λ o. head_of (queue_of o es)) c.object.view_is
    ∙ ap head_of (read-as _ _ es es _ c.self.view_is c.self.invariant.0.queued refl c.args.object)))

pub place_at-place-requires : goal.place_at-place-requires
place_at-place-requires g c =
    let es = queued_waiters c.self.inside.log.items in
    let found = c.in_ok-node.ensures in
    first-known c.self.inside.homes.map.entries c.self.inside.nodes.slots
    c.self.inside.queues es c.self.invariant.0 c.object.inside.0
    (Some c.in_ok-node.node) found.none found.queue

pub remove-freed-requires-clause-counted : goal.remove-freed-requires-clause-counted
remove-freed-requires-clause-counted g c =
    let es = queued_waiters c.self.inside.log.items in
    let homes = c.self.inside.homes.map.entries in
    let nodes = c.self.inside.nodes.slots in
    let queues = c.self.inside.queues in
    let o = c.object.inside.0 in
    let n = c.in_ok-node.node in
    let place = c.place_at-place.result in
    let w = place.waiter in
    let is_first = c.in_ok-node.ensures in
    let h = head-out homes nodes queues es c.self.invariant.0 o place.object n w place.next
    place.before c.none-before.result is_first.none is_first.queue c.place_at-place.ensures.node
    c.none-before.ensures in
    let prio = c.level.ensures.value in
    let least = c.level.ensures.least in
    let most = c.level.ensures.greatest in
    let level : (c.level.result - 1) + 1 ≡ w.prio = omega (arith, prio, least) in
    let within : c.level.result - 1 < max_priority = omega (arith, least, most) in
    let is_queue = Each-in (λ (e : ℕ × Waiter). is_listed e.0 (numbers queues) ≡ true) es
    (o, w) c.self.invariant.0.queued.is_queue h.there in
    stands-there homes nodes nodes queues queues es o (c.level.result - 1) n w
    place.next c.none-before.result c.self.invariant.0 h.there h.home h.node level within is_queue

pub remove-freed-requires-clause-len : goal.remove-freed-requires-clause-len
remove-freed-requires-clause-len g c =
    let es = queued_waiters c.self.inside.log.items in
    let homes = c.self.inside.homes.map.entries in
    let nodes = c.self.inside.nodes.slots in
    let queues = c.self.inside.queues in
    let o = c.object.inside.0 in
    let n = c.in_ok-node.node in
    let place = c.place_at-place.result in
    let w = place.waiter in
    let is_first = c.in_ok-node.ensures in
    let h = head-out homes nodes queues es c.self.invariant.0 o place.object n w place.next
    place.before c.none-before.result is_first.none is_first.queue c.place_at-place.ensures.node
    c.none-before.ensures in
    let prio = c.level.ensures.value in
    let least = c.level.ensures.least in
    let most = c.level.ensures.greatest in
    let level : (c.level.result - 1) + 1 ≡ w.prio = omega (arith, prio, least) in
    let within : c.level.result - 1 < max_priority = omega (arith, least, most) in
    let is_queue = Each-in (λ (e : ℕ × Waiter). is_listed e.0 (numbers queues) ≡ true) es
    (o, w) c.self.invariant.0.queued.is_queue h.there in
    len-stands homes nodes nodes queues queues es o (c.level.result - 1) n w
    place.next c.none-before.result c.self.invariant.0 h.there h.home h.node level within is_queue

pub remove-requires-clause-before : goal.remove-requires-clause-before
remove-requires-clause-before g c =
    let es = queued_waiters c.self.inside.log.items in
    let homes = c.self.inside.homes.map.entries in
    let nodes = c.self.inside.nodes.slots in
    let queues = c.self.inside.queues in
    let o = c.object.inside.0 in
    let n = c.in_ok-node.node in
    let place = c.place_at-place.result in
    let w = place.waiter in
    let is_first = c.in_ok-node.ensures in
    let h = head-out homes nodes queues es c.self.invariant.0 o place.object n w place.next
    place.before c.none-before.result is_first.none is_first.queue c.place_at-place.ensures.node
    c.none-before.ensures in
    let prio = c.level.ensures.value in
    let least = c.level.ensures.least in
    let most = c.level.ensures.greatest in
    let level : (c.level.result - 1) + 1 ≡ w.prio = omega (arith, prio, least) in
    let within : c.level.result - 1 < max_priority = omega (arith, least, most) in
    let is_queue = Each-in (λ (e : ℕ × Waiter). is_listed e.0 (numbers queues) ≡ true) es
    (o, w) c.self.invariant.0.queued.is_queue h.there in
    (beside-there homes nodes nodes queues queues es o (c.level.result - 1) n w
    place.next c.none-before.result c.self.invariant.0 h.there h.home h.node level within is_queue).0

pub remove-requires-clause-next : goal.remove-requires-clause-next
remove-requires-clause-next g c =
    let es = queued_waiters c.self.inside.log.items in
    let homes = c.self.inside.homes.map.entries in
    let nodes = c.self.inside.nodes.slots in
    let queues = c.self.inside.queues in
    let o = c.object.inside.0 in
    let n = c.in_ok-node.node in
    let place = c.place_at-place.result in
    let w = place.waiter in
    let is_first = c.in_ok-node.ensures in
    let h = head-out homes nodes queues es c.self.invariant.0 o place.object n w place.next
    place.before c.none-before.result is_first.none is_first.queue c.place_at-place.ensures.node
    c.none-before.ensures in
    let prio = c.level.ensures.value in
    let least = c.level.ensures.least in
    let most = c.level.ensures.greatest in
    let level : (c.level.result - 1) + 1 ≡ w.prio = omega (arith, prio, least) in
    let within : c.level.result - 1 < max_priority = omega (arith, least, most) in
    let is_queue = Each-in (λ (e : ℕ × Waiter). is_listed e.0 (numbers queues) ≡ true) es
    (o, w) c.self.invariant.0.queued.is_queue h.there in
    (beside-there homes nodes nodes queues queues es o (c.level.result - 1) n w
    place.next c.none-before.result c.self.invariant.0 h.there h.home h.node level within is_queue).1

pub put_back-requires-clause-emptied : goal.put_back-requires-clause-emptied
put_back-requires-clause-emptied g c =
    let es = queued_waiters c.self.inside.log.items in
    let homes = c.self.inside.homes.map.entries in
    let nodes = c.self.inside.nodes.slots in
    let queues = c.self.inside.queues in
    let o = c.object.inside.0 in
    let n = c.in_ok-node.node in
    let place = c.place_at-place.result in
    let w = place.waiter in
    let is_first = c.in_ok-node.ensures in
    let h = head-out homes nodes queues es c.self.invariant.0 o place.object n w place.next
    place.before c.none-before.result is_first.none is_first.queue c.place_at-place.ensures.node
    c.none-before.ensures in
    let prio = c.level.ensures.value in
    let least = c.level.ensures.least in
    let most = c.level.ensures.greatest in
    let level : (c.level.result - 1) + 1 ≡ w.prio = omega (arith, prio, least) in
    let within : c.level.result - 1 < max_priority = omega (arith, least, most) in
    let is_queue = Each-in (λ (e : ℕ × Waiter). is_listed e.0 (numbers queues) ≡ true) es
    (o, w) c.self.invariant.0.queued.is_queue h.there in
    let done = c.remove.ensures in
    let out = c.remove-freed.ensures in
    let emptied = step-emptied homes nodes c.remove.new.nodes.slots queues
    c.remove-freed.new.queues es o (c.level.result - 1) n w
    place.next c.none-before.result c.self.invariant.0 h.there h.home h.node level within
    is_queue out.numbers out.others done.exists done.next done.before done.entry done.client
    (option_map (λ b. b.value) c.remove-freed.result) out.queue in
    if-boxed HasNone (λ b. b.value) c.remove-freed.result emptied.none

pub put_back-requires-clause-room : goal.put_back-requires-clause-room
put_back-requires-clause-room g c =
    let es = queued_waiters c.self.inside.log.items in
    let homes = c.self.inside.homes.map.entries in
    let nodes = c.self.inside.nodes.slots in
    let queues = c.self.inside.queues in
    let o = c.object.inside.0 in
    let n = c.in_ok-node.node in
    let place = c.place_at-place.result in
    let w = place.waiter in
    let is_first = c.in_ok-node.ensures in
    let h = head-out homes nodes queues es c.self.invariant.0 o place.object n w place.next
    place.before c.none-before.result is_first.none is_first.queue c.place_at-place.ensures.node
    c.none-before.ensures in
    let prio = c.level.ensures.value in
    let least = c.level.ensures.least in
    let most = c.level.ensures.greatest in
    let level : (c.level.result - 1) + 1 ≡ w.prio = omega (arith, prio, least) in
    let within : c.level.result - 1 < max_priority = omega (arith, least, most) in
    let is_queue = Each-in (λ (e : ℕ × Waiter). is_listed e.0 (numbers queues) ≡ true) es
    (o, w) c.self.invariant.0.queued.is_queue h.there in
    let done = c.remove.ensures in
    let out = c.remove-freed.ensures in
    let emptied = step-emptied homes nodes c.remove.new.nodes.slots queues
    c.remove-freed.new.queues es o (c.level.result - 1) n w
    place.next c.none-before.result c.self.invariant.0 h.there h.home h.node level within
    is_queue out.numbers out.others done.exists done.next done.before done.entry done.client
    (option_map (λ b. b.value) c.remove-freed.result) out.queue in
    λ some.
    room-back homes nodes queues es _ _ c.self.inside.boxes c.self.invariant.0 c.self.invariant.1
    o w (is_some c.remove-freed.result) h.there
    (sym (some-mapped (λ b. b.value) c.remove-freed.result) ∙ emptied.last) some

pub invariant_of-self : goal.invariant_of-self
invariant_of-self g c =
    let es = queued_waiters c.self.inside.log.items in
    let homes = c.self.inside.homes.map.entries in
    let nodes = c.self.inside.nodes.slots in
    let queues = c.self.inside.queues in
    let o = c.object.inside.0 in
    let n = c.in_ok-node.node in
    let place = c.place_at-place.result in
    let w = place.waiter in
    let is_first = c.in_ok-node.ensures in
    let h = head-out homes nodes queues es c.self.invariant.0 o place.object n w place.next
    place.before c.none-before.result is_first.none is_first.queue c.place_at-place.ensures.node
    c.none-before.ensures in
    let prio = c.level.ensures.value in
    let least = c.level.ensures.least in
    let most = c.level.ensures.greatest in
    let level : (c.level.result - 1) + 1 ≡ w.prio = omega (arith, prio, least) in
    let within : c.level.result - 1 < max_priority = omega (arith, least, most) in
    let is_queue = Each-in (λ (e : ℕ × Waiter). is_listed e.0 (numbers queues) ≡ true) es
    (o, w) c.self.invariant.0.queued.is_queue h.there in
    let done = c.remove.ensures in
    let out = c.remove-freed.ensures in
    let emptied = step-emptied homes nodes c.remove.new.nodes.slots queues
    c.remove-freed.new.queues es o (c.level.result - 1) n w
    place.next c.none-before.result c.self.invariant.0 h.there h.home h.node level within
    is_queue out.numbers out.others done.exists done.next done.before done.entry done.client
    (option_map (λ b. b.value) c.remove-freed.result) out.queue in
    let logged = ap queued_waiters c.and-self-inside.ensures
    ∙ waiting-more c.self.inside.log.items (None, w) in
    let back = c.put_back.ensures in (
      subst (AreChains homes c.remove.new.nodes.slots c.remove-freed.new.queues)
          (sym logged) emptied.chains,
      subst (λ ds. AreBoxes (length homes)
          (length (numbers c.remove-freed.new.queues)) ds
          (vec_len c.put_back.new.spares)
          (vec_capacity c.put_back.new.spares) c.self.inside.boxes) (sym logged)
          (boxes-taken homes nodes queues es _ _ c.self.inside.boxes c.self.invariant.0
          c.self.invariant.1 o w (is_some c.remove-freed.result) h.there
          (sym (some-mapped (λ b. b.value) c.remove-freed.result) ∙ emptied.last) _ _ _
          (ap length out.numbers) back.len
          back.capacity),
      back.empty,
    )

pub returns-clause-first : goal.returns-clause-first
returns-clause-first g c =
    let es = queued_waiters c.self.inside.log.items in
    let homes = c.self.inside.homes.map.entries in
    let nodes = c.self.inside.nodes.slots in
    let queues = c.self.inside.queues in
    let o = c.object.inside.0 in
    let n = c.in_ok-node.node in
    let place = c.place_at-place.result in
    let w = place.waiter in
    let is_first = c.in_ok-node.ensures in
    let h = head-out homes nodes queues es c.self.invariant.0 o place.object n w place.next
    place.before c.none-before.result is_first.none is_first.queue c.place_at-place.ensures.node
    c.none-before.ensures in
    h.first
    ∙ (ap (λ o. head_of (queue_of o es)) c.object.view_is
    ∙ ap head_of (read-as _ _ es es _ c.self.view_is c.self.invariant.0.queued refl c.args.object))

pub returns-clause-taken : goal.returns-clause-taken
returns-clause-taken g c = λ q.
    let es = queued_waiters c.self.inside.log.items in
    let homes = c.self.inside.homes.map.entries in
    let nodes = c.self.inside.nodes.slots in
    let queues = c.self.inside.queues in
    let o = c.object.inside.0 in
    let n = c.in_ok-node.node in
    let place = c.place_at-place.result in
    let w = place.waiter in
    let is_first = c.in_ok-node.ensures in
    let h = head-out homes nodes queues es c.self.invariant.0 o place.object n w place.next
    place.before c.none-before.result is_first.none is_first.queue c.place_at-place.ensures.node
    c.none-before.ensures in
    let prio = c.level.ensures.value in
    let least = c.level.ensures.least in
    let most = c.level.ensures.greatest in
    let level : (c.level.result - 1) + 1 ≡ w.prio = omega (arith, prio, least) in
    let within : c.level.result - 1 < max_priority = omega (arith, least, most) in
    let is_queue = Each-in (λ (e : ℕ × Waiter). is_listed e.0 (numbers queues) ≡ true) es
    (o, w) c.self.invariant.0.queued.is_queue h.there in
    let done = c.remove.ensures in
    let out = c.remove-freed.ensures in
    let emptied = step-emptied homes nodes c.remove.new.nodes.slots queues
    c.remove-freed.new.queues es o (c.level.result - 1) n w
    place.next c.none-before.result c.self.invariant.0 h.there h.home h.node level within
    is_queue out.numbers out.others done.exists done.next done.before done.entry done.client
    (option_map (λ b. b.value) c.remove-freed.result) out.queue in
    let logged = ap queued_waiters c.and-self-inside.ensures
    ∙ waiting-more c.self.inside.log.items (None, w) in
    let queued = subst (AllQueued (numbers c.remove-freed.new.queues)) (sym logged)
    emptied.chains.queued in
    let step = ap (queue_of q) logged ∙ queue_of-other_waiters w.client q es in
    queue-change _ _ _ es _ _ c.self.view_is c.self.invariant.0.queued queued
    (other_waiters w.client) q step

pub returns-clause-admitted : goal.returns-clause-admitted
returns-clause-admitted g c = λ d.
    let es = queued_waiters c.self.inside.log.items in
    let homes = c.self.inside.homes.map.entries in
    let nodes = c.self.inside.nodes.slots in
    let queues = c.self.inside.queues in
    let o = c.object.inside.0 in
    let n = c.in_ok-node.node in
    let place = c.place_at-place.result in
    let w = place.waiter in
    let is_first = c.in_ok-node.ensures in
    let h = head-out homes nodes queues es c.self.invariant.0 o place.object n w place.next
    place.before c.none-before.result is_first.none is_first.queue c.place_at-place.ensures.node
    c.none-before.ensures in
    let logged = ap queued_waiters c.and-self-inside.ensures
    ∙ waiting-more c.self.inside.log.items (None, w) in
    ap (λ ds. is_listed d (numbers homes) || has_waiter d ds) logged
    ∙ (take-admits (numbers homes) es w.client d (home-listed homes w.client n h.home)
    ∙ ap (λ s. is_admitted s d) c.self.view_is)

pub returns-clause-is_queue : goal.returns-clause-is_queue
returns-clause-is_queue g c = λ q.
    ap (is_listed q) c.remove-freed.ensures.numbers ∙ ap (λ w. has_queue w q) c.self.view_is

pub put_back-requires-clause-empty : goal.put_back-requires-clause-empty
put_back-requires-clause-empty g c = c.self.invariant.2
