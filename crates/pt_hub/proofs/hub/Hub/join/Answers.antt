use Rattle.std.proofs.Common.{arith, refl, sym, ap, ◌∙◌, subst, length, List}
use Rattle.pt_model.specs.declared.entry.Event.TheVariants as event
use Rattle.pt_hub.specs.declared.pass.Receipt.{Receipt}
use Rattle.pt_hub.specs.AnsweringCores.{AnsweringCoreView, hub_core}
use Rattle.pt_hub.specs.Hubs.{HubView}
use Rattle.pt_hub.specs.Passes.{AreReceipts}
use Rattle.pt_hub.proofs.HubEvents.{joins}
use Rattle.pt_hub.proofs.HubLemmas.{hub-hub_core, hub-more}
use Rattle.pt_hub.proofs.KnownRefusals.{refused-alike}
use Rattle.pt_hub.proofs.OwnCalls.{own-join}
use Rattle.pt_hub.proofs.hub.Hub.join.Goals as goal

pub invariant_of-self : goal.invariant_of-self
invariant_of-self g c =
    let old : HubView =
    record {
      inner = c.self.inside.inner;
      marks = c.self.inside.marks.entries;
      session_count =
          c.self.inside.session_count;
      booked = c.self.inside.tally.total;
    } in
    let new : HubView =
    record {
      inner = c.join.new.self;
      marks = c.self.inside.marks.entries;
      session_count =
          c.self.inside.session_count;
      booked = c.count.new.self.total;
    } in
    hub-more old new c.self.inside.tally c.count.new.self c.self.invariant _ c.in-Ok.field-0
    c.len-place.ensures.starts c.len-place.ensures.legal c.in-Ok.ensures.ok
    (omega (arith, c.count.ensures.outer, c.part-share.ensures.outer)) (omega
    (arith, c.count.ensures.left, c.part-share.ensures.parts)) refl c.count.ensures.total

pub returns-in-Ok-clause-ok : goal.returns-in-Ok-clause-ok
returns-in-Ok-clause-ok g c =
    let old : HubView =
    record {
      inner = c.self.inside.inner;
      marks = c.self.inside.marks.entries;
      session_count =
          c.self.inside.session_count;
      booked = c.self.inside.tally.total;
    } in
    rw (← c.self.view_is)
    (joins old c.args.priority c.join.new.self c.count.new.self.total c.in-Ok.field-0
    c.in-Ok.ensures.ok c.in-Ok.ensures.account c.in-Ok.ensures.cells c.len-place.result
    c.len-place.ensures.value c.seen-seen.result c.seen-seen.ensures.stored
    c.new-discarded.result c.new.result.items c.new-discarded.ensures c.new.ensures.items)

pub returns-in-Err-clause-err : goal.returns-in-Err-clause-err
returns-in-Err-clause-err g c =
    refused-alike _ _ (ap (λ (h : HubView). h.inner) c.self.view_is) (event.Join c.args.priority)
    c.in-Err.refusal c.in-Err.ensures.err

pub returns-in-Err-clause-unchanged : goal.returns-in-Err-clause-unchanged
returns-in-Err-clause-unchanged g c =
    ap (λ (d : AnsweringCoreView). record {
      inner = d;
      marks = c.self.inside.marks.entries;
      session_count = c.self.inside.session_count;
      booked = c.self.inside.tally.total;
    }) c.in-Err.ensures.unchanged ∙ c.self.view_is

pub invariant_of-self-in-Err : goal.invariant_of-self-in-Err
invariant_of-self-in-Err g c =
    let old : HubView =
    record {
      inner = c.self.inside.inner;
      marks = c.self.inside.marks.entries;
      session_count = c.self.inside.session_count;
      booked = c.self.inside.tally.total;
    } in
    hub-hub_core old c.join.new.self c.self.inside.tally c.self.invariant c.in-Err.ensures.unchanged

-- the new client has seen its Join, if anything
pub invariant_of-result : goal.invariant_of-result
invariant_of-result g c = (
  c.count.ensures.parts ∙ c.part-share.ensures.part,
  omega (
    arith,
    c.count.ensures.amount,
    c.part-share.ensures.amount,
    c.new.ensures.len,
    ap (λ (xs : List Receipt). length xs) c.new-discarded.ensures,
  ),
  subst (λ (rs : List Receipt). AreReceipts c.len-place.result rs) (sym c.new.ensures.items)
      (record { each = tt; rises = tt }),
  own-join (hub_core c.self.inside.inner)
      (hub_core c.join.new.self) c.join.new.self.core c.seen-seen.result
      c.in-Ok.field-0 c.args.priority c.len-place.result c.in-Ok.ensures.ok
      c.len-place.ensures.value c.seen-seen.ensures.stored c.seen-seen.ensures.entry,
)
