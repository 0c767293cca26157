-- Plans: what is known of an event's entry before it is pushed.
use Rattle.std.specs.Prelude.{◌≡◌, Bool, true, false, Option, Some, None}
use Rattle.std.specs.Bool.{OnTrue}
use Rattle.pt_types.specs.declared.outcome.Outcome.{Outcome}
use Rattle.pt_model.specs.declared.entry.Entry.{Entry}
use Rattle.pt_model.specs.declared.entry.Entry.TheVariants.{Join, Call, Death, Moment}
use Rattle.pt_model.specs.declared.entry.Event.{Event}
use Rattle.pt_model.specs.declared.entry.Event.TheVariants as event
use Rattle.pt_model.specs.Histories.{History, ◌▷◌, place}
use Rattle.pt_model.specs.Room.{need, entry_for}
use Rattle.pt_types.specs.Operations.{operation}
use Rattle.pt_types.specs.OperationViews.{operation_view}
use Rattle.pt_types.specs.declared.operations.Operation.{Operation as PlainOperation}
use Rattle.pt_next_grant.specs.Touched.{service_object_by}
use Rattle.pt_state.specs.Requests.{IsRequest}
use Rattle.pt_state.specs.declared.request.Request.{Request}
use Rattle.pt_machine.specs.SettledCalls.{IsUnopposed}
use Rattle.pt_machine.specs.GrantedAtOnce.{IsGrantedAtOnce}
use Rattle.pt_machine.specs.declared.plans.Plan.{Plan}

-- the entry that an event becomes, given the answer that its call has at once  [profile]
abbrev pub entry_with : History → Event → Option Outcome → Entry
entry_with h (event.Join p) answer = Join (place h) p
entry_with h (event.Call c call) answer = Call c call answer
entry_with h (event.Death c) answer = Death c
entry_with h (event.Moment k t) answer = Moment k t

-- this is what an event's call does, if it is a call
abbrev pub HasOperation : Event → Option PlainOperation → Type 0
HasOperation (event.Call c call) (Some d) = operation_view d ≡ operation call
HasOperation (event.Call c call) None = ⊥
HasOperation (event.Join p) d = Unit {0}
HasOperation (event.Death c) d = Unit {0}
HasOperation (event.Moment k t) d = Unit {0}

-- these are the objects that the names of an event's call mean, if it is a call
abbrev pub HasRequest : History → Event → Request → Type 0
HasRequest h (event.Call c call) r = IsRequest h (operation call) r
HasRequest h (event.Join p) r = Unit {0}
HasRequest h (event.Death c) r = Unit {0}
HasRequest h (event.Moment k t) r = Unit {0}

-- the flag is true only if the event is a call that is granted as it comes
abbrev pub IsAtOnce : History → Event → Bool → Type 0
IsAtOnce h (event.Call c call) b = OnTrue b (IsGrantedAtOnce h c call)
IsAtOnce h (event.Join p) b = b ≡ false
IsAtOnce h (event.Death c) b = b ≡ false
IsAtOnce h (event.Moment k t) b = b ≡ false

-- the flag is true if the event is a call without a deadline, for a lock that is free and for which
-- no call waits
abbrev pub KnowsUnopposed : History → Event → Bool → Type 0
KnowsUnopposed h (event.Call c call) b = IsUnopposed h c call → b ≡ true
KnowsUnopposed h (event.Join p) b = Unit {0}
KnowsUnopposed h (event.Death c) b = Unit {0}
KnowsUnopposed h (event.Moment k t) b = Unit {0}

-- the plan has the objects that the event's call names, the answer that it gets at once, how many
-- entries are reserved after its entry, the one object that the entry touches, and whether it is a
-- call that is granted as it comes, as it is if it has no deadline, its lock is free and no call
-- waits for it  [profile]
pub record IsPlanned (h : History) (v : Event) (p : Plan) : Type 0 where
  pub has_request : HasRequest h v p.request
  pub enters : entry_with h v p.answer ≡ entry_for h v
  pub needs : p.need ≡ need (h ▷ entry_for h v)
  pub touches : p.touched ≡ service_object_by h (entry_for h v)
  pub at_once : IsAtOnce h v p.at_once
  pub unopposed : KnowsUnopposed h v p.at_once
