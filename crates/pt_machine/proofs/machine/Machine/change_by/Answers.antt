use Rattle.std.proofs.Common.{ap, sym, ◌∙◌, arith, subst}
use Rattle.std.specs.Option.{option_copied}
use Rattle.pt_model.specs.declared.entry.Event.TheVariants.{Call}
use Rattle.pt_model.specs.Steps.{Step}
use Rattle.pt_state.specs.Adds.{history_of}
use Rattle.pt_state.specs.Needed.{added_by, unreserved_by}
use Rattle.pt_next_grant.specs.Touched.{service_object_by}
use Rattle.pt_machine.specs.Plans.{HasOperation, HasRequest, entry_with}
use Rattle.pt_machine.proofs.machine.Machine.change_by.Goals as goal

pub change_by_call-requires-clause-operation : goal.change_by_call-requires-clause-operation
change_by_call-requires-clause-operation g c =
    subst (HasOperation (Call c.in-Call.c c.in-Call.call))
    (sym c.as_ref.ensures.value ∙ ap option_copied c.unwrap-operation.ensures)
    (subst (λ e. HasOperation e c.args.operation.now) c.in-Call.is c.requires.operation)

pub change_by_call-requires-clause-step : goal.change_by_call-requires-clause-step
change_by_call-requires-clause-step g c =
    let h = history_of c.args.self.now in
    subst (λ e. Step h (entry_with h e c.args.answer)) c.in-Call.is c.requires.step

pub change_by_call-requires-clause-request : goal.change_by_call-requires-clause-request
change_by_call-requires-clause-request g c =
    let h = history_of c.args.self.now in
    subst (λ e. HasRequest h e c.args.request.now) c.in-Call.is c.requires.request

pub returns-in-Join : goal.returns-in-Join
returns-in-Join g c =
    let h = history_of c.args.self.now in
    record {
      adds = ap (λ e. added_by (entry_with h e c.args.answer)) (sym c.in-Join.is);
      uses = ap (λ e. unreserved_by h (entry_with h e c.args.answer)) (sym c.in-Join.is);
      touches = ap (λ e. service_object_by h (entry_with h e c.args.answer)) (sym c.in-Join.is);
      within = omega arith;
    }

pub returns-in-Call : goal.returns-in-Call
returns-in-Call g c =
    let h = history_of c.args.self.now in
    record {
      adds =
          c.change_by_call.ensures.adds
          ∙ ap (λ e. added_by (entry_with h e c.args.answer)) (sym c.in-Call.is);
      uses =
          c.change_by_call.ensures.uses
          ∙ ap (λ e. unreserved_by h (entry_with h e c.args.answer)) (sym c.in-Call.is);
      touches =
          c.change_by_call.ensures.touches
          ∙ ap (λ e. service_object_by h (entry_with h e c.args.answer)) (sym c.in-Call.is);
      within = c.change_by_call.ensures.within;
    }

pub returns-in-Death : goal.returns-in-Death
returns-in-Death g c =
    let h = history_of c.args.self.now in
    record {
      adds =
          c.change_by_death.ensures.adds
          ∙ ap (λ e. added_by (entry_with h e c.args.answer)) (sym c.in-Death.is);
      uses =
          c.change_by_death.ensures.uses
          ∙ ap (λ e. unreserved_by h (entry_with h e c.args.answer)) (sym c.in-Death.is);
      touches =
          c.change_by_death.ensures.touches
          ∙ ap (λ e. service_object_by h (entry_with h e c.args.answer)) (sym c.in-Death.is);
      within = omega (arith, c.change_by_death.ensures.adds);
    }

pub returns-in-Moment : goal.returns-in-Moment
returns-in-Moment g c =
    let h = history_of c.args.self.now in
    record {
      adds = ap (λ e. added_by (entry_with h e c.args.answer)) (sym c.in-Moment.is);
      uses = ap (λ e. unreserved_by h (entry_with h e c.args.answer)) (sym c.in-Moment.is);
      touches = ap (λ e. service_object_by h (entry_with h e c.args.answer)) (sym c.in-Moment.is);
      within = omega arith;
    }
