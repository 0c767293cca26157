use Rattle.std.proofs.Common.{◌≡◌, ◌<◌, List, Option, ◌++◌, ◌∷◌, [], None, arith, refl}
use Rattle.std.proofs.Common.{sym, ap, ◌∙◌, subst}
use Rattle.pt_types.specs.declared.call.Call.{Call as FunctionCall}
use Rattle.pt_types.specs.declared.outcome.Refusal.{Refusal}
use Rattle.pt_model.specs.Queries.{reply_if}
use Rattle.pt_hub.specs.AnsweringCores.{AnsweringCoreView, IsRefusedAs, hub_core, next_answer}
use Rattle.pt_model.specs.declared.entry.Event.TheVariants as event
use Rattle.pt_hub.specs.Passes.{PassView, AreReceipts, IsOwn, IsReceiptOf, last_place}
use Rattle.pt_hub.proofs.OwnCalls.{own-call}
use Rattle.pt_hub.proofs.ReceiptOrder.{receipts-push}
use Rattle.pt_hub.specs.Hubs.{HubView, Sends}
use Rattle.pt_hub.specs.declared.pass.Receipt.{Receipt}
use Rattle.pt_hub.specs.declared.pass.Sent.{Sent}
use Rattle.pt_hub.proofs.HubEvents.{sends}
use Rattle.pt_hub.proofs.HubLemmas.{countable, has_part, hub-hub_core, hub-more}
use Rattle.pt_hub.proofs.KnownRefusals.{call-refused-alike}
use Rattle.pt_hub.proofs.ViewLemmas.{known-or}
use Rattle.pt_hub.proofs.hub.Hub.send.Goals as goal

pub invariant_of-self : goal.invariant_of-self
invariant_of-self g c =
    let old : HubView =
    record {
      inner = c.self.inside.inner;
      marks = c.self.inside.marks.entries;
      session_count =
          c.self.inside.session_count;
      booked = c.self.inside.tally.total;
    } in
    let new : HubView =
    record {
      inner = c.call.new.self;
      marks = c.self.inside.marks.entries;
      session_count =
          c.self.inside.session_count;
      booked = c.count.new.self.total;
    } in
    hub-more old new c.self.inside.tally c.count.new.self c.self.invariant _ c.in-Ok.applied
    c.len-place.ensures.starts c.len-place.ensures.legal c.in-Ok.ensures.ok
    c.count.ensures.outer (omega (arith, c.count.ensures.left)) refl c.count.ensures.total

pub returns-in-Ok-clause-ok : goal.returns-in-Ok-clause-ok
returns-in-Ok-clause-ok g c =
    let old : HubView =
    record {
      inner = c.self.inside.inner;
      marks = c.self.inside.marks.entries;
      session_count =
          c.self.inside.session_count;
      booked = c.self.inside.tally.total;
    } in
    let before : PassView =
    record {
      client = c.pass.inside.client;
      priority = c.pass.inside.priority;
      seen = c.pass.inside.seen;
      discarded = c.pass.inside.discarded;
      receipts = c.pass.inside.receipts.items;
    } in
    let new : HubView = record old { inner = c.call.new.self; booked = c.count.new.self.total } in
    let after : PassView = record before { receipts = c.push_reserved.new.self.items } in
    let made : Sent =
    record { place = c.len-place.result; ready = c.is_some-ready.result } in
    subst (λ (h : HubView). Sends h c.args.pass.now c.args.call new after made) c.self.view_is
    (subst (λ (p : PassView). Sends old p c.args.call new after made) c.pass.view_is
    (sends old before c.args.call c.call.new.self c.count.new.self.total c.in-Ok.applied
    c.in-Ok.ensures.ok c.in-Ok.ensures.first c.in-Ok.ensures.account c.in-Ok.ensures.cells
    c.len-place.result
    c.len-place.ensures.value c.is_some-ready.result c.is_some-ready.ensures
    c.seen-seen.result c.seen-seen.ensures.stored
    c.has_room.new.receipts.items c.has_room.ensures.items c.push_reserved.new.self.items
    (c.push_reserved.ensures.items
    ∙ ap (λ (x : FunctionCall). c.has_room.new.receipts.items
    ++ record { place = c.len-place.result; call = x; answer = None; seen = c.seen-seen.result }
    ∷ [])
    c.in-Ok.ensures.returned_call)))

pub push_reserved-requires : goal.push_reserved-requires
push_reserved-requires g c = c.if-not-has_room.ensures.room refl

pub returns-then-not-has_room-clause-err : goal.returns-then-not-has_room-clause-err
returns-then-not-has_room-clause-err g c =
    let known = c.call_refusal-reason.result in
    call-refused-alike _ _ c.self.view_is _ _ c.pass.view_is c.args.call c.unwrap_or.result
    (subst (λ (o : Option Refusal). IsRefusedAs o c.unwrap_or.result) c.call_refusal-reason.ensures
    (subst (IsRefusedAs known) (sym c.unwrap_or.ensures) (known-or known)))

pub returns-in-Err-clause-err : goal.returns-in-Err-clause-err
returns-in-Err-clause-err g c =
    call-refused-alike _ _ c.self.view_is _ _ c.pass.view_is c.args.call c.in-Err.refusal
    c.in-Err.ensures.err

pub returns-in-Err-clause-unchanged : goal.returns-in-Err-clause-unchanged
returns-in-Err-clause-unchanged g c = (
  ap (λ (d : AnsweringCoreView). record {
    inner = d;
    marks = c.self.inside.marks.entries;
    session_count = c.self.inside.session_count;
    booked = c.self.inside.tally.total;
  }) c.in-Err.ensures.unchanged ∙ c.self.view_is,
  ap (λ (rs : List Receipt). record {
    client = c.pass.inside.client;
    priority = c.pass.inside.priority;
    seen = c.pass.inside.seen;
    discarded = c.pass.inside.discarded;
    receipts = rs;
  }) c.has_room.ensures.items ∙ c.pass.view_is,
)

pub returns-in-Ok-clause-next : goal.returns-in-Ok-clause-next
returns-in-Ok-clause-next g c =
    subst (λ (p : PassView). next_answer c.call.new.self p.client
    ≡ reply_if p.client c.len-place.result c.in-Ok.applied.outcome) c.pass.view_is
    (c.in-Ok.ensures.next
    ∙ ap (λ n. reply_if c.pass.inside.client n c.in-Ok.applied.outcome)
    (c.in-Ok.ensures.first ∙ sym c.len-place.ensures.value))

pub invariant_of-self-in-Err : goal.invariant_of-self-in-Err
invariant_of-self-in-Err g c =
    let old : HubView =
    record {
      inner = c.self.inside.inner;
      marks = c.self.inside.marks.entries;
      session_count = c.self.inside.session_count;
      booked = c.self.inside.tally.total;
    } in
    hub-hub_core old c.call.new.self c.self.inside.tally c.self.invariant c.in-Err.ensures.unchanged

pub returns-then-not-has_room-clause-unchanged : goal.returns-then-not-has_room-clause-unchanged
returns-then-not-has_room-clause-unchanged g c = (
  refl,
  ap (λ (rs : List Receipt). record {
    client = c.pass.inside.client;
    priority = c.pass.inside.priority;
    seen = c.pass.inside.seen;
    discarded = c.pass.inside.discarded;
    receipts = rs;
  }) c.has_room.ensures.items ∙ c.pass.view_is,
)

pub count-requires-clause-within : goal.count-requires-clause-within
count-requires-clause-within g c =
    countable _ _ _ c.self.invariant.outer c.len-place.ensures.counted c.len-place.ensures.within

pub count-requires-clause-part : goal.count-requires-clause-part
count-requires-clause-part g c = has_part _ c.pass.invariant.0

-- the new receipt has seen the entry of its call, and its place is above the others
pub invariant_of-pass-in-Ok : goal.invariant_of-pass-in-Ok
invariant_of-pass-in-Ok g c =
    let client = c.pass.inside.client in
    let seen = c.seen-seen.result in
    let made : Receipt = record {
      place = c.len-place.result;
      call = c.in-Ok.call;
      answer = None;
      seen = seen;
    } in
    let own : IsReceiptOf client made =
    subst (λ (k : FunctionCall). IsOwn client c.len-place.result (event.Call client k) seen)
    (sym c.in-Ok.ensures.returned_call)
    (own-call (hub_core c.self.inside.inner) (hub_core c.call.new.self) c.call.new.self.core seen
    c.in-Ok.applied client c.args.call c.len-place.result c.in-Ok.ensures.ok
    c.len-place.ensures.value c.seen-seen.ensures.stored c.seen-seen.ensures.entry) in
    let later : last_place client c.pass.inside.receipts.items < c.len-place.result =
    subst (λ n. last_place n c.pass.inside.receipts.items < c.len-place.result) c.client.view_is
    (c.if-not-has_room.ensures.later refl) in (
      c.count.ensures.parts ∙ c.pass.invariant.0,
      omega (
        arith,
        c.count.ensures.amount,
        c.push_reserved.ensures.len,
        c.has_room.ensures.len,
        c.pass.invariant.1,
      ),
      subst (AreReceipts client)
          (sym (c.push_reserved.ensures.items
          ∙ ap (λ (rs : List Receipt). rs ++ made ∷ []) c.has_room.ensures.items))
          (receipts-push client c.pass.inside.receipts.items made c.pass.invariant.2 own later),
      c.pass.invariant.3,
    )
