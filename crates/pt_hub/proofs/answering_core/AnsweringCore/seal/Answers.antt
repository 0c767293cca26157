use Rattle.std.proofs.Common.{refl}
use Rattle.pt_hub.proofs.AnsweringCoreLemmas.{desk-hub_core}
use Rattle.pt_hub.proofs.CoresForEvents.{desk-core_after_seal}
use Rattle.pt_hub.proofs.answering_core.AnsweringCore.seal.Goals as goal

pub invariant_of-self : goal.invariant_of-self
invariant_of-self g c =
    desk-core_after_seal _ _ _ _ c.in-Ok.at c.self.invariant c.in-Ok.ensures.ok
    c.renew.ensures.entries

pub invariant_of-self-in-Err : goal.invariant_of-self-in-Err
invariant_of-self-in-Err g c =
    desk-hub_core _ _ _ c.in-Err.ensures.unchanged refl c.self.invariant
