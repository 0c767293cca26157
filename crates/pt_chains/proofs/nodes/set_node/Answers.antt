use Rattle.std.proofs.Common.{sym}
use Rattle.std.specs.Option.{is_some, option_and_then, option_map}
use Rattle.pt_chains.specs.declared.nodes.Node.{Node}
use Rattle.pt_chains.specs.Chains.{entry_at}
use Rattle.pt_chains.proofs.SlotLemmas.{slot-written, slot-alike}
use Rattle.pt_chains.proofs.nodes.set_node.Goals as goal

pub returns-clause-exists : goal.returns-clause-exists
returns-clause-exists g c = λ n.
    slot-alike is_some c.args.nodes.now.slots c.args.node
    c.get.result n c.args.value c.get.ensures c.requires (sym c.requires)

pub returns-clause-next : goal.returns-clause-next
returns-clause-next g c = λ n.
    slot-written (option_and_then (λ (m : Node). m.next)) c.args.nodes.now.slots c.args.node
    c.get.result n c.args.value c.get.ensures c.requires

pub returns-clause-before : goal.returns-clause-before
returns-clause-before g c = λ n.
    slot-written (option_and_then (λ (m : Node). m.before)) c.args.nodes.now.slots c.args.node
    c.get.result n c.args.value c.get.ensures c.requires

pub returns-clause-entry : goal.returns-clause-entry
returns-clause-entry g c = λ n.
    slot-written (option_and_then entry_at) c.args.nodes.now.slots c.args.node
    c.get.result n c.args.value c.get.ensures c.requires

pub returns-clause-client : goal.returns-clause-client
returns-clause-client g c = λ n.
    slot-written (option_map (λ (m : Node). m.waiter.client)) c.args.nodes.now.slots c.args.node
    c.get.result n c.args.value c.get.ensures c.requires
