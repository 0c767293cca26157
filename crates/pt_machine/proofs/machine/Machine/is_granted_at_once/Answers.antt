use Rattle.std.proofs.Common.{◌≡◌, Bool, true, false, is_some, List, ℕ, Option, Some, None, refl}
use Rattle.std.proofs.Common.{◌∙◌, sym, ap}
use Rattle.std.proofs.lemmas.Bool.{false≢true}
use Rattle.std.specs.Bool.{OnTrue}
use Rattle.std.specs.Prelude.{option_map, unwrap_or}
use Rattle.pt_types.specs.declared.call.Call.{Call as FunctionCall}
use Rattle.pt_types.specs.declared.call.How.{How}
use Rattle.pt_types.specs.declared.operations.LockKind.{LockKind}
use Rattle.pt_types.specs.Operations.{Acquires, class_needed, class_of, deadline_of, operation}
use Rattle.pt_types.specs.declared.outcome.Outcome.{Outcome}
use Rattle.pt_types.specs.OperationViews.{operation_view}
use Rattle.pt_model.specs.Clients.{client_priority}
use Rattle.pt_model.specs.declared.entry.Entry.TheVariants.{Call}
use Rattle.pt_model.specs.declared.entry.Event.TheVariants as event
use Rattle.pt_model.specs.Histories.{History}
use Rattle.pt_model.specs.Objects.{kind_of}
use Rattle.pt_model.specs.Room.{entry_for}
use Rattle.pt_state.specs.Adds.{history_of}
use Rattle.pt_state.specs.Requests.{object_meant}
use Rattle.pt_machine.specs.GrantedAtOnce.{IsAhead, IsFree, IsGrantedAtOnce}
use Rattle.pt_machine.specs.CallDeadlines.{operation_deadline, valid_deadline}
use Rattle.pt_machine.proofs.SettledCallLemmas.{unopposed-free}
use Rattle.pt_machine.proofs.machine.Machine.is_granted_at_once.Goals as goal

pub is_free-requires : goal.is_free-requires
is_free-requires g c = rw c.self.view_is c.requires.tables

pub returns-then-not-is_free-clause-unopposed : goal.returns-then-not-is_free-clause-unopposed
returns-then-not-is_free-clause-unopposed g c = λ has_call.
    let h = history_of c.args.self.now in
    let has_request = sym c.requires.operation ∙ ap operation_view c.in-Acquires-Some.is-0 in
    let free = unopposed-free h c.args.c c.args.call.now _ c.in-Acquires-Some.kind
    c.in-Acquires-Some.how c.in-Acquires-Some.o c.requires.tables.follows has_request
    (sym c.requires.request.object ∙ c.in-Acquires-Some.is-1) has_call in
    let class : option_map class_of (kind_of (history_of c.self.inside.state) c.in-Acquires-Some.o)
    ≡ Some (class_needed c.in-Acquires-Some.kind) = rw c.self.view_is free.0 in
    let there : IsFree (history_of c.self.inside.state) c.in-Acquires-Some.kind c.in-Acquires-Some.o
    =
    rw c.self.view_is free.1 in
    absurd (false≢true (sym c.if-not-is_free.true ∙ c.is_free.ensures.all class there))

-- a call for a free lock is granted as it comes if it goes before those that wait
granted : (h : History) (c : ℕ) (call : FunctionCall) (answer : Option Outcome) (n : List ℕ) (k : LockKind)
    (how : How) (o : ℕ) → operation call ≡ Acquires n k how
    → Call c call answer ≡ entry_for h (event.Call c call) → is_some answer ≡ false
    → valid_deadline (deadline_of how) ≡ None → object_meant h (operation call) ≡ Some o
    → IsFree h k o
    → (b : Bool) → OnTrue b (IsAhead h (unwrap_or (client_priority h c) 0) o)
    → OnTrue b (IsGrantedAtOnce h c call)
granted h c call answer n k how o has_request enters none untimed found free false ahead = tt
granted h c call answer n k how o has_request enters none untimed found free true ahead =
    record {
      name = n;
      kind = k;
      how = how;
      object = o;
      has_request = has_request;
      waits = sym enters ∙ ap (Call c call) (not_some answer none);
      untimed = ap (λ d. valid_deadline (operation_deadline d)) has_request ∙ untimed;
      found = ap (object_meant h) (sym has_request) ∙ found;
      free = free;
      ahead = ahead;
    }
  where
    not_some : (x : Option Outcome) → is_some x ≡ false → x ≡ None
    not_some None e = refl
    not_some (Some x) e = absurd cc

pub returns-else-not-is_free-clause-granted : goal.returns-else-not-is_free-clause-granted
returns-else-not-is_free-clause-granted g c =
    let h = history_of c.args.self.now in
    let has_request = sym c.requires.operation ∙ ap operation_view c.in-Acquires-Some.is-0 in
    let free : IsFree h c.in-Acquires-Some.kind c.in-Acquires-Some.o =
    rw (← c.self.view_is) c.if-not-is_free.ensures.free in
    granted h c.args.c c.args.call.now c.args.answer _ c.in-Acquires-Some.kind
    c.in-Acquires-Some.how c.in-Acquires-Some.o has_request c.requires.enters
    (sym c.is_some.ensures ∙ c.if-is_some.false) c.if-not-is_untimed.ensures.untimed
    (sym c.requires.request.object ∙ c.in-Acquires-Some.is-1) free c.is_ahead.result
    c.is_ahead.ensures.ahead
