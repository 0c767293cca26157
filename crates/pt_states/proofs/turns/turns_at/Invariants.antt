use Rattle.std.proofs.Common.{◌≡◌, [], drop}
use Rattle.pt_legal.specs.Cores.{history_of, core_state}
use Rattle.pt_states.specs.Turns.{turns_from}
use Rattle.pt_states.proofs.turns.turns_at.Given as goal

abbrev pub invariant-loop-name : goal.invariant-loop-name
invariant-loop-name g l =
    turns_from (history_of (core_state (g.C.LegalHistory.seen l.fn.core))) l.class l.o l.turns.items
    (drop l.name-index l.fn.clients)
    ≡ turns_from (history_of (core_state (g.C.LegalHistory.seen l.fn.core))) l.fn.class l.fn.o []
    l.fn.clients
