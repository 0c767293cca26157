use Rattle.std.proofs.Common.{◌≡◌, sym, ap, ◌∙◌, subst}
use Rattle.std.specs.Option.{option_copied}
use Rattle.pt_model.specs.declared.entry.Event.TheVariants.{Call}
use Rattle.pt_model.specs.Room.{entry_for}
use Rattle.pt_state.specs.Adds.{history_of}
use Rattle.pt_machine.specs.Plans.{HasOperation, HasRequest, IsAtOnce, KnowsUnopposed}
use Rattle.pt_machine.specs.Plans.{entry_with}
use Rattle.pt_machine.proofs.machine.Machine.is_at_once.Goals as goal

pub is_granted_at_once-requires-clause-operation : goal.is_granted_at_once-requires-clause-operation
is_granted_at_once-requires-clause-operation g c =
    subst (HasOperation (Call c.in-Call.c c.in-Call.call))
    (sym c.as_ref.ensures.value ∙ ap option_copied c.unwrap-operation.ensures)
    (subst (λ e. HasOperation e c.args.operation.now) c.in-Call.is c.requires.operation)

pub is_granted_at_once-requires-clause-enters : goal.is_granted_at_once-requires-clause-enters
is_granted_at_once-requires-clause-enters g c =
    let h = history_of c.args.self.now in
    subst (λ e. entry_with h e c.args.answer ≡ entry_for h e) c.in-Call.is c.requires.enters

pub is_granted_at_once-requires-clause-request : goal.is_granted_at_once-requires-clause-request
is_granted_at_once-requires-clause-request g c =
    let h = history_of c.args.self.now in
    subst (λ e. HasRequest h e c.args.request.now) c.in-Call.is c.requires.request

pub returns-in-Call : goal.returns-in-Call
returns-in-Call g c =
    let h = history_of c.args.self.now in
    record {
      granted = subst (λ e. IsAtOnce h e c.is_granted_at_once.result) (sym c.in-Call.is)
          c.is_granted_at_once.ensures.granted;
      unopposed = subst (λ e. KnowsUnopposed h e c.is_granted_at_once.result) (sym c.in-Call.is)
          c.is_granted_at_once.ensures.unopposed;
    }
