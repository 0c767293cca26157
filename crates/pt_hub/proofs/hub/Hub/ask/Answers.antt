use Rattle.std.proofs.Common.{◌≡◌, List, None, Option, Some, arith, refl, sym, ap, ◌∙◌, subst}
use Rattle.std.specs.Prelude.{IsSome}
use Rattle.pt_model.specs.Records.{ReplyView}
use Rattle.pt_model.specs.Queries.{reply_if}
use Rattle.pt_hub.specs.AnsweringCores.{next_answer}
use Rattle.pt_hub.specs.Hubs.{HubView, Sends, receipts_with_answer, takeable_answer_if}
use Rattle.pt_hub.specs.Passes.{AreReceipts, PassView}
use Rattle.pt_hub.proofs.ReceiptOrder.{receipts-receipts_with_answer}
use Rattle.pt_hub.specs.declared.pass.Receipt.{Receipt}
use Rattle.pt_hub.proofs.HubEvents.{sends_and_takes}
use Rattle.pt_hub.proofs.HubLemmas.{hub-took}
use Rattle.pt_hub.proofs.hub.Hub.ask.Goals as goal

pub returns-in-Ok-default-Some-clause-ok : goal.returns-in-Ok-default-Some-clause-ok
returns-in-Ok-default-Some-clause-ok g c =
    let between : HubView =
    record {
      inner = c.self.inside.inner;
      marks = c.self.inside.marks.entries;
      session_count = c.self.inside.session_count;
      booked = c.self.inside.tally.total;
    } in
    let pending : PassView =
    record {
      client = c.pass-2.inside.client;
      priority = c.pass-2.inside.priority;
      seen = c.pass-2.inside.seen;
      discarded = c.pass-2.inside.discarded;
      receipts = c.pass-2.inside.receipts.items;
    } in
    let sends : Sends c.args.self.now c.args.pass.now c.args.call between pending
    c.in-Ok-default-Some.sent =
    subst (λ (h : HubView). Sends c.args.self.now c.args.pass.now c.args.call h pending
    c.in-Ok-default-Some.sent) (sym c.self.view_is)
    (subst (λ (p : PassView). Sends c.args.self.now c.args.pass.now c.args.call c.send.new.self p
    c.in-Ok-default-Some.sent) (sym c.pass-2.view_is) c.in-Ok-default-Some.ensures.ok) in
    let next : next_answer between.inner c.args.pass.now.client
    ≡ reply_if c.args.pass.now.client c.in-Ok-default-Some.sent.place
    (Some c.in-Ok-default-Some.outcome) =
    subst (λ (h : HubView). next_answer h.inner c.args.pass.now.client
    ≡ reply_if c.args.pass.now.client c.in-Ok-default-Some.sent.place
    (Some c.in-Ok-default-Some.outcome)) (sym c.self.view_is)
    (c.in-Ok-default-Some.ensures.next
    ∙ ap (reply_if c.args.pass.now.client c.in-Ok-default-Some.sent.place)
    c.in-Ok-default-Some.field-0-1-is) in
    record {
      so = sends_and_takes c.args.self.now between c.args.pass.now pending c.args.call
          c.in-Ok-default-Some.sent c.in-Ok-default-Some.outcome sends next c.take.new.self
          c.take.ensures.same_core c.pass.inside.client (ap (λ (p : PassView). p.client) c.pass.view_is)
          c.take.ensures.account _ c.answer.ensures.items;
    }

pub returns-in-Ok-default-None-clause-ok : goal.returns-in-Ok-default-None-clause-ok
returns-in-Ok-default-None-clause-ok g c =
    let its : c.send.new.pass.client ≡ c.args.pass.now.client =
    ap (λ (p : PassView). p.client) c.in-Ok-default-None.ensures.ok.its_pass in
    let none : next_answer c.send.new.self.inner c.args.pass.now.client ≡ None =
    c.in-Ok-default-None.ensures.next
    ∙ ap (reply_if c.args.pass.now.client c.in-Ok-default-None.sent.place)
    c.in-Ok-default-None.field-0-1-is in
    record {
      so = (
        c.in-Ok-default-None.ensures.ok,
        ap (λ n. takeable_answer_if c.send.new.pass.receipts
            (next_answer c.send.new.self.inner n)) its
            ∙ ap (takeable_answer_if c.send.new.pass.receipts) none,
      );
    }

pub returns-in-Ok-default-Some-clause-pass : goal.returns-in-Ok-default-Some-clause-pass
returns-in-Ok-default-Some-clause-pass g c =
    let o = c.in-Ok-default-Some.outcome in
    record {
      seen = c.in-Ok-default-Some.ensures.ok.seen;
      its_pass = ap (λ (rs : List Receipt). record {
        client = c.pass-2.inside.client;
        priority = c.pass-2.inside.priority;
        seen = c.pass-2.inside.seen;
        discarded = c.pass-2.inside.discarded;
        receipts = rs;
      }) c.answer.ensures.items
          ∙ ap (λ (p : PassView). record p { receipts = receipts_with_answer p.receipts o })
          (c.pass-2.view_is ∙ c.in-Ok-default-Some.ensures.ok.its_pass);
    }

pub returns-in-Ok-default-None-clause-pass : goal.returns-in-Ok-default-None-clause-pass
returns-in-Ok-default-None-clause-pass g c =
    record {
      seen = c.in-Ok-default-None.ensures.ok.seen;
      its_pass = c.in-Ok-default-None.ensures.ok.its_pass;
    }

pub invariant_of-self : goal.invariant_of-self
invariant_of-self g c =
    let old : HubView =
    record {
      inner = c.self.inside.inner;
      marks = c.self.inside.marks.entries;
      session_count = c.self.inside.session_count;
      booked = c.self.inside.tally.total;
    } in
    hub-took old c.take.new.self c.self.inside.tally c.self.invariant c.take.ensures.same_core

pub take-requires : goal.take-requires
take-requires g c =
    let its = c.in-Ok-default-Some.ensures.next
    ∙ ap (reply_if c.args.pass.now.client c.in-Ok-default-Some.sent.place)
    c.in-Ok-default-Some.field-0-1-is in
    subst (λ (h : HubView). IsSome (next_answer h.inner c.pass.inside.client)) (sym c.self.view_is)
    (subst (λ (p : PassView). IsSome (next_answer c.send.new.self.inner p.client))
    (sym c.pass.view_is) (subst (λ (o : Option ReplyView). IsSome o) (sym its) refl))

pub invariant_of-pass : goal.invariant_of-pass
invariant_of-pass g c = (
  c.pass-2.invariant.0,
  omega (arith, c.answer.ensures.len, c.pass-2.invariant.1),
  subst (λ (rs : List Receipt). AreReceipts c.pass-2.inside.client rs) (sym c.answer.ensures.items)
      (receipts-receipts_with_answer c.pass-2.inside.client _ _ c.pass-2.invariant.2),
  c.pass-2.invariant.3,
)
