use Rattle.std.proofs.Common.{◌≡◌, Some, None, is_some, sym, ap, ◌∙◌, slice_index_or}
use Rattle.pt_chains.specs.Chains.{node_index_of}
use Rattle.pt_chains.proofs.BoxLemmas.{some-mapped}
use Rattle.pt_chains.proofs.GrowthLemmas.{if-none}
use Rattle.pt_chains.proofs.nodes.place_of.Goals as goal

pub unwrap-node-requires : goal.unwrap-node-requires
unwrap-node-requires g c =
    let index = c.in_ok-index.index in
    let home : node_index_of c.args.homes.now.map.entries c.args.client ≡ Some index =
    sym c.in_ok-index.ensures in
    sym (some-mapped (λ b. b.now) c.get-2.result)
    ∙ (ap is_some c.get-2.ensures
    ∙ (ap (λ n. is_some (slice_index_or c.args.nodes.now.slots n None)) c.get.ensures
    ∙ c.requires.there c.args.client index home))

pub returns-in_err-node-clause-home : goal.returns-in_err-node-clause-home
returns-in_err-node-clause-home g c =
    if-none c.from_residual-in_err-node.result _ c.from_residual-in_err-node.ensures

pub returns-in_err-node-clause-node : goal.returns-in_err-node-clause-node
returns-in_err-node-clause-node g c =
    if-none c.from_residual-in_err-node.result _ c.from_residual-in_err-node.ensures
