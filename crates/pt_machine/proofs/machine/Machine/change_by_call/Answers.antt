use Rattle.std.proofs.Common.{ap, ◌∙◌, sym, subst}
use Rattle.pt_model.specs.declared.entry.Entry.TheVariants.{Call}
use Rattle.pt_state.specs.Adds.{history_of}
use Rattle.pt_state.specs.Needed.{added_by, unreserved_by}
use Rattle.pt_next_grant.specs.Touched.{service_object_by}
use Rattle.pt_model.specs.Steps.{Step}
use Rattle.pt_state.specs.Requests.{IsRequest}
use Rattle.pt_machine.proofs.machine.Machine.change_by_call.Goals as goal

pub returns-in-None : goal.returns-in-None
returns-in-None g c =
    let h = history_of c.args.self.now in
    let change = c.change_if_waiting.ensures in
    record {
      adds = change.adds ∙ ap (λ a. added_by (Call c.args.c c.args.call.now a)) (sym c.in-None.is);
      uses = change.uses ∙ ap (λ a. unreserved_by h (Call c.args.c c.args.call.now a))
          (sym c.in-None.is);
      touches =
          change.touches
          ∙ ap (λ a. service_object_by h (Call c.args.c c.args.call.now a)) (sym c.in-None.is);
      within = change.within;
    }

pub change_if_waiting-requires-clause-step : goal.change_if_waiting-requires-clause-step
change_if_waiting-requires-clause-step g c =
    let h = history_of c.args.self.now in
    subst (λ a. Step h (Call c.args.c c.args.call.now a)) c.in-None.is c.requires.step

pub change_if_done-requires-clause-request : goal.change_if_done-requires-clause-request
change_if_done-requires-clause-request g c =
    let h = history_of c.args.self.now in
    subst (λ d. IsRequest h d c.args.request.now) (sym c.requires.operation) c.requires.request
