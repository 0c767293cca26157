use Rattle.std.proofs.Common.{refl}
use Rattle.pt_hub.specs.AnsweringCores.{AnsweringCoreView}
use Rattle.pt_hub.proofs.AnsweringCoreLemmas.{desk-took}
use Rattle.pt_hub.proofs.answering_core.AnsweringCore.take.Goals as goal

pub invariant_of-self : goal.invariant_of-self
invariant_of-self g c =
    let core = c.self.inside.core in
    let old : AnsweringCoreView = record { core = core; accounts = c.self.inside.accounts.entries } in
    desk-took old _ _ c.self.invariant _ _ c.c.view_is _ c.self.view_is c.requires refl
    c.note_take.ensures
