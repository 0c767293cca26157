use Rattle.std.proofs.Common.{ap, ◌∙◌}
use Rattle.pt_table.specs.ClientRows.{client_value}
use Rattle.pt_records.specs.declared.answers.Answered.{Answered}
use Rattle.pt_records.specs.Arrivals.{caller_after_reply}
use Rattle.pt_records.proofs.TripLemmas.{closes-client}
use Rattle.pt_records.proofs.CallerWrites.{changes-none}
use Rattle.pt_records.proofs.barrier.close_by.Goals as goal

pub returns-in-Some : goal.returns-in-Some
returns-in-Some g c =
    closes-client c.args.clients.now _ _ c.args.answer.now c.in-Some.row.now
    (ap (λ (a : Answered). a.client) c.answer.view_is)
    (ap (λ (a : Answered). a.outcome) c.answer.view_is) c.in-Some.ensures.value

pub returns-in_default : goal.returns-in_default
returns-in_default g c =
    changes-none (caller_after_reply c.args.answer.now) c.args.clients.now c.args.answer.now.client
    (c.in_default.ensures.value
    ∙ ap (λ (a : Answered). client_value c.args.clients.now a.client) c.answer.view_is)
