use Rattle.std.proofs.Common.{◌≡◌, false, sym, ap, ◌∙◌, subst}
use Rattle.pt_types.specs.Operations.{operation}
use Rattle.pt_model.specs.declared.entry.Event.{Event}
use Rattle.pt_model.specs.Room.{needs_seal}
use Rattle.pt_state.specs.Adds.{history_of}
use Rattle.pt_core.specs.Trying.{IsTryResult}
use Rattle.pt_core.specs.Entering.{CanEnter}
use Rattle.pt_core.proofs.OpenLemmas.{open-there}
use Rattle.pt_core.proofs.SealNeeds.{planned-seal}
use Rattle.pt_core.proofs.barrier_path.try_barrier_wait.Goals as goal

pub write_barrier_wait-requires-clause-can : goal.write_barrier_wait-requires-clause-can
write_barrier_wait-requires-clause-can g c =
    let s = c.args.body.now in
    subst (λ (v : Event). CanEnter s v c.plan-plan.result) c.in-Call.is
    (record {
      «open» = open-there s c.args.event.now c.plan-plan.result.need c.requires.valid
          c.plan-plan.ensures.planned.needs (c.has_room.ensures.0 c.if-has_room.true);
      accepted = c.requires.accepted;
      planned = c.plan-plan.ensures.planned;
    })

pub write_barrier_wait-requires-clause-unsealed : goal.write_barrier_wait-requires-clause-unsealed
write_barrier_wait-requires-clause-unsealed g c =
    let s = c.args.body.now in
    subst (λ (v : Event). needs_seal s.stored.limit (history_of s) v ≡ false) c.in-Call.is
    (sym (planned-seal s.stored.limit (history_of s) c.args.event.now c.plan-plan.result.need
    c.needs_seal.result c.plan-plan.ensures.planned.needs c.needs_seal.ensures)
    ∙ c.if-not-needs_seal.true)

pub returns-then-not-needs_seal : goal.returns-then-not-needs_seal
returns-then-not-needs_seal g c =
    subst (λ (v : Event). IsTryResult c.args.body.now v c.write_barrier_wait.new.body
    c.write_barrier_wait.result)
    (sym c.in-Call.is) c.write_barrier_wait.ensures

pub write_barrier_wait-requires-clause-operation : goal.write_barrier_wait-requires-clause-operation
write_barrier_wait-requires-clause-operation g c = ap operation c.in-Bwait.is
