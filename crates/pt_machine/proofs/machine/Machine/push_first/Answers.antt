use Rattle.std.proofs.Common.{◌≡◌, Some, false, sym, ap, ◌∙◌, subst, refl, unwrap_or}
use Rattle.pt_model.specs.Answers.{open_calls}
use Rattle.pt_model.specs.Forced.{service}
use Rattle.pt_model.specs.declared.waiting_call.WaitingCall.{WaitingCall}
use Rattle.pt_model.specs.WaitingCall.{is_barrier_wait}
use Rattle.pt_records.specs.Callers.{call_of}
use Rattle.pt_state.specs.Adds.{HasRoomFor, history_of}
use Rattle.pt_state.proofs.CallerFinds.{call_of-open}
use Rattle.pt_machine.specs.Services.{Serves}
use Rattle.pt_machine.proofs.machine.Machine.push_first.Goals as goal

pub push_service-requires-clause-waits : goal.push_service-requires-clause-waits
push_service-requires-clause-waits g c =
    let h = history_of c.args.self.now in
    let w = c.requires.has_room in
    let own : w.0.client ≡ c.in-Call.c =
    (subst (λ s. Serves s w.0) c.in-Call.is w.1.1.0).1 in
    let its : call_of (open_calls h) c.in-Call.c ≡ Some w.0 =
    subst (λ d. call_of (open_calls h) d ≡ Some w.0) own
    (call_of-open h c.requires.tables.follows w.0 w.1.0) in
    rw its refl

pub push_service-requires-clause-has_room : goal.push_service-requires-clause-has_room
push_service-requires-clause-has_room g c = λ v e.
    let h = history_of c.args.self.now in
    let w = c.requires.has_room in
    let own : w.0.client ≡ c.in-Call.c =
    (subst (λ s. Serves s w.0) c.in-Call.is w.1.1.0).1 in
    let its : call_of (open_calls h) c.in-Call.c ≡ Some w.0 =
    subst (λ d. call_of (open_calls h) d ≡ Some w.0) own
    (call_of-open h c.requires.tables.follows w.0 w.1.0) in
    let same : w.0 ≡ v = ap (λ x. unwrap_or x v) (sym its ∙ e) in
    subst (λ (x : WaitingCall). HasRoomFor c.args.self.now (service h x)) same w.1.1.1

pub push_service-requires-clause-other : goal.push_service-requires-clause-other
push_service-requires-clause-other g c = λ v e.
    let h = history_of c.args.self.now in
    let w = c.requires.has_room in
    let serves = subst (λ s. Serves s w.0) c.in-Call.is w.1.1.0 in
    let its : call_of (open_calls h) c.in-Call.c ≡ Some w.0 =
    subst (λ d. call_of (open_calls h) d ≡ Some w.0) serves.1
    (call_of-open h c.requires.tables.follows w.0 w.1.0) in
    let same : w.0 ≡ v = ap (λ x. unwrap_or x v) (sym its ∙ e) in
    subst (λ (x : WaitingCall). is_barrier_wait x.role ≡ false) same serves.0

pub returns-in-Call : goal.returns-in-Call
returns-in-Call g c = λ w i serves.
    let h = history_of c.args.self.now in
    let own : w.client ≡ c.in-Call.c = (subst (λ s. Serves s w) c.in-Call.is serves).1 in
    c.push_service.ensures w
    (subst (λ d. call_of (open_calls h) d ≡ Some w) own
    (call_of-open h c.requires.tables.follows w i))
