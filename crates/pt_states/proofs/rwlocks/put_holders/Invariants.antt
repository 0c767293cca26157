use Rattle.std.proofs.Common.{◌≡◌, ◌++◌, [], drop}
use Rattle.pt_legal.specs.Cores.{history_of, core_state}
use Rattle.pt_states.specs.States.{holders}
use Rattle.pt_states.proofs.rwlocks.put_holders.Given as goal

abbrev pub invariant-loop-client : goal.invariant-loop-client
invariant-loop-client g l =
    l.out.items
    ++ holders (history_of (core_state (g.C.LegalHistory.seen l.fn.core))) l.fn.n l.lead
    (drop l.client-index l.fn.clients)
    ≡ l.fn.out.items
    ++ holders (history_of (core_state (g.C.LegalHistory.seen l.fn.core))) l.fn.n [] l.fn.clients
