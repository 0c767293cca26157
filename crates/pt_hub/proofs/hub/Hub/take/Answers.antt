use Rattle.std.proofs.Common.{List, Option, arith, refl, sym, ap, ◌∙◌, subst}
use Rattle.std.specs.Prelude.{IsSome}
use Rattle.pt_model.specs.Records.{ReplyView}
use Rattle.pt_legal.specs.Replies.{reply_view}
use Rattle.pt_hub.specs.Hubs.{HubView, is_pending}
use Rattle.pt_hub.specs.Passes.{AreReceipts, PassView}
use Rattle.pt_hub.proofs.ReceiptOrder.{receipts-receipts_with_answer}
use Rattle.pt_hub.specs.declared.pass.Receipt.{Receipt}
use Rattle.pt_hub.proofs.HubEvents.{takes}
use Rattle.pt_hub.proofs.HubLemmas.{hub-took}
use Rattle.pt_hub.proofs.hub.Hub.take.Goals as goal

pub returns-clause-some : goal.returns-clause-some
returns-clause-some g c =
    let old : HubView =
    record {
      inner = c.self.inside.inner;
      marks = c.self.inside.marks.entries;
      session_count = c.self.inside.session_count;
      booked = c.self.inside.tally.total;
    } in
    let before : PassView =
    record {
      client = c.pass.inside.client;
      priority = c.pass.inside.priority;
      seen = c.pass.inside.seen;
      discarded = c.pass.inside.discarded;
      receipts = c.pass.inside.receipts.items;
    } in
    let reply = c.in_ok-reply.reply in
    rw (← c.self.view_is, ← c.pass.view_is)
    (takes old before (reply_view reply) c.in_ok-reply.ensures
    (ap (λ rs. is_pending rs reply.place) (sym c.as_slice.ensures.value)
    ∙ sym c.if-not-is_pending.ensures)
    c.take.new.self c.take.ensures.same_core c.take.ensures.account c.answer.new.receipts.items
    c.answer.ensures.items)

pub invariant_of-self : goal.invariant_of-self
invariant_of-self g c =
    let old : HubView =
    record {
      inner = c.self.inside.inner;
      marks = c.self.inside.marks.entries;
      session_count = c.self.inside.session_count;
      booked = c.self.inside.tally.total;
    } in
    hub-took old c.take.new.self c.self.inside.tally c.self.invariant c.take.ensures.same_core

pub take-requires : goal.take-requires
take-requires g c = subst (λ (o : Option ReplyView). IsSome o) c.in_ok-reply.ensures refl

pub invariant_of-pass : goal.invariant_of-pass
invariant_of-pass g c = (
  c.pass.invariant.0,
  omega (arith, c.answer.ensures.len, c.pass.invariant.1),
  subst (λ (rs : List Receipt). AreReceipts c.pass.inside.client rs) (sym c.answer.ensures.items)
      (receipts-receipts_with_answer c.pass.inside.client _ _ c.pass.invariant.2),
  c.pass.invariant.3,
)
