use Rattle.std.proofs.Common.{◌≡◌, Some, sym, ap}
use Rattle.std.specs.Option.{is_some, option_and_then, option_map, option_copied_mut}
use Rattle.pt_chains.specs.declared.nodes.Node.{Node}
use Rattle.pt_chains.specs.Chains.{node_in, entry_at}
use Rattle.pt_chains.proofs.SlotLemmas.{slot-held, slot-written, slot-alike}
use Rattle.pt_chains.proofs.nodes.set_before.Goals as goal

pub returns-clause-exists : goal.returns-clause-exists
returns-clause-exists g c = λ n.
    let slots = c.args.nodes.now.slots in
    let old = c.unwrap.result.now in
    let new : Node =
    record { object = old.object; waiter = old.waiter; before = c.args.before; next = old.next } in
    let held : node_in slots c.args.node ≡ Some old =
    slot-held option_copied_mut slots c.args.node c.get.result c.get_mut.result
    (Some c.unwrap.result) c.get.ensures c.get_mut.ensures.value c.unwrap.ensures in
    slot-alike is_some slots c.args.node c.get.result n new
    c.get.ensures c.requires
    (ap is_some (sym held))

pub returns-clause-next : goal.returns-clause-next
returns-clause-next g c = λ n.
    let slots = c.args.nodes.now.slots in
    let old = c.unwrap.result.now in
    let new : Node =
    record { object = old.object; waiter = old.waiter; before = c.args.before; next = old.next } in
    let held : node_in slots c.args.node ≡ Some old =
    slot-held option_copied_mut slots c.args.node c.get.result c.get_mut.result
    (Some c.unwrap.result) c.get.ensures c.get_mut.ensures.value c.unwrap.ensures in
    slot-alike (option_and_then (λ (m : Node). m.next)) slots c.args.node c.get.result n new
    c.get.ensures c.requires
    (ap (option_and_then (λ (m : Node). m.next)) (sym held))

pub returns-clause-before : goal.returns-clause-before
returns-clause-before g c = λ n.
    let slots = c.args.nodes.now.slots in
    let old = c.unwrap.result.now in
    let new : Node =
    record { object = old.object; waiter = old.waiter; before = c.args.before; next = old.next } in
    slot-written (option_and_then (λ (m : Node). m.before)) slots c.args.node c.get.result n new
    c.get.ensures c.requires

pub returns-clause-entry : goal.returns-clause-entry
returns-clause-entry g c = λ n.
    let slots = c.args.nodes.now.slots in
    let old = c.unwrap.result.now in
    let new : Node =
    record { object = old.object; waiter = old.waiter; before = c.args.before; next = old.next } in
    let held : node_in slots c.args.node ≡ Some old =
    slot-held option_copied_mut slots c.args.node c.get.result c.get_mut.result
    (Some c.unwrap.result) c.get.ensures c.get_mut.ensures.value c.unwrap.ensures in
    slot-alike (option_and_then entry_at) slots c.args.node c.get.result n new
    c.get.ensures c.requires
    (ap (option_and_then entry_at) (sym held))

pub returns-clause-client : goal.returns-clause-client
returns-clause-client g c = λ n.
    let slots = c.args.nodes.now.slots in
    let old = c.unwrap.result.now in
    let new : Node =
    record { object = old.object; waiter = old.waiter; before = c.args.before; next = old.next } in
    let held : node_in slots c.args.node ≡ Some old =
    slot-held option_copied_mut slots c.args.node c.get.result c.get_mut.result
    (Some c.unwrap.result) c.get.ensures c.get_mut.ensures.value c.unwrap.ensures in
    slot-alike (option_map (λ (m : Node). m.waiter.client)) slots c.args.node c.get.result n new
    c.get.ensures c.requires
    (ap (option_map (λ (m : Node). m.waiter.client)) (sym held))
