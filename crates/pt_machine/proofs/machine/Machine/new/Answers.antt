use Rattle.std.proofs.Common.{◌≡◌, sym, ap, ◌∙◌}
use Rattle.pt_history.specs.Stored.{stored_history}
use Rattle.pt_model.specs.Starts.{empty_start}
use Rattle.pt_model.specs.Histories.{History, Begin}
use Rattle.pt_model.proofs.StartReadings.{rows-none}
use Rattle.pt_state.specs.Adds.{history_of}
use Rattle.pt_machine.specs.CallDeadlines.{timer_at}
use Rattle.pt_machine.proofs.LastTouches.{service_object-begin}
use Rattle.pt_machine.proofs.NeedSteps.{reserved-begin}
use Rattle.pt_machine.proofs.QueuedArrivals.{queued-begin}
use Rattle.pt_machine.proofs.machine.Machine.new.Goals as goal

pub invariant_of-result : goal.invariant_of-result
invariant_of-result g c =
    let begins : history_of c.new.result ≡ Begin empty_start =
    ap stored_history c.new.ensures.stored ∙ ap Begin rows-none in (
      queued-begin (history_of c.new.result) _ begins c.requires,
      λ p. c.new-2.ensures p ∙ ap (λ (h : History). timer_at h p) (sym begins),
      service_object-begin (history_of c.new.result) begins,
      reserved-begin (history_of c.new.result) begins,
    )
