use Rattle.std.proofs.Common.{◌++◌, [], ◌∷◌, None, ap, ◌∙◌}
use Rattle.pt_hub.specs.declared.pass.Receipt.{Receipt}
use Rattle.pt_hub.specs.Hubs.{receipts_with_answer}
use Rattle.pt_hub.specs.Passes.{PassView}
use Rattle.pt_hub.specs.Asking.{receipts_after_call}
use Rattle.pt_session.proofs.ReceiptLemmas.{call_open, call_answered}
use Rattle.pt_session.proofs.line_source.Lines.ask_by.Goals as goal

pub returns-in-Some-clause-handles : goal.returns-in-Some-clause-handles
returns-in-Some-clause-handles g c =
    let old = c.args.pass.now in
    let step = c.in-Ok-default-None in
    let r : Receipt = record {
      place = step.field-0-0.place;
      call = c.args.call;
      answer = None;
      seen
          = step.ensures.pass.seen;
    } in
    let x = c.in-Some.answer.outcome in
    call_answered old c.wait.new.pass r x (
    c.in-Some.ensures.pass
    ∙ ap (λ (p : PassView). record p { receipts = receipts_with_answer p.receipts x }) (
    step.ensures.pass.its_pass
    ∙ ap (λ a. record old { receipts = receipts_after_call (old.receipts ++ r ∷ []) a })
    step.field-0-1-is
    )
    )

pub returns-in-None-clause-handles : goal.returns-in-None-clause-handles
returns-in-None-clause-handles g c =
    let old = c.args.pass.now in
    let step = c.in-Ok-default-None in
    let r : Receipt = record {
      place = step.field-0-0.place;
      call = c.args.call;
      answer = None;
      seen
          = step.ensures.pass.seen;
    } in
    call_open old c.wait.new.pass r (
    c.in-None.ensures.none
    ∙ step.ensures.pass.its_pass
    ∙ ap (λ a. record old { receipts = receipts_after_call (old.receipts ++ r ∷ []) a })
    step.field-0-1-is
    )

pub returns-in-Ok-default-Some-clause-handles : goal.returns-in-Ok-default-Some-clause-handles
returns-in-Ok-default-Some-clause-handles g c =
    let old = c.args.pass.now in
    let step = c.in-Ok-default-Some in
    let r : Receipt = record {
      place = step.field-0-0.place;
      call = c.args.call;
      answer = None;
      seen
          = step.ensures.pass.seen;
    } in
    call_answered old c.ask.new.pass r step.answer.outcome (
    step.ensures.pass.its_pass
    ∙ ap (λ a. record old { receipts = receipts_after_call (old.receipts ++ r ∷ []) a })
    step.field-0-1-is
    )
