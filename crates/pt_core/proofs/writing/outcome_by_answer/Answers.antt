use Rattle.std.proofs.Common.{◌≡◌, Option, None, sym, ap, ◌∙◌, subst, arith, suc}
use Rattle.pt_types.specs.declared.outcome.Outcome.{Outcome}
use Rattle.pt_history.proofs.Places.{place_of_next}
use Rattle.pt_model.specs.declared.entry.Event.{Event}
use Rattle.pt_model.specs.declared.entry.Event.TheVariants.{Call}
use Rattle.pt_model.specs.Histories.{place}
use Rattle.pt_state.specs.Adds.{history_of}
use Rattle.pt_legal.specs.Applying.{KeepsOutcome, outcome_at_once}
use Rattle.pt_core.proofs.writing.outcome_by_answer.Goals as goal

-- a call whose entry is the last has no answer if it had none as it came
pub returns-in-Call-None : goal.returns-in-Call-None
returns-in-Call-None g c =
    let s = c.args.body.now in
    let j = c.args.first in
    let at : place (history_of s) ≡ suc j =
    omega (arith, place_of_next s.stored, c.len.ensures, c.if-len-first.true, c.requires.some) in
    let its = Call c.in-Call-None.field-0-0 c.in-Call-None.field-1-0 in
    let still : KeepsOutcome its None (history_of s) j =
    subst (λ (v : Event). KeepsOutcome v None (history_of s) j) c.in-Call-None.is-0
    (subst (λ (a : Option Outcome). KeepsOutcome c.args.event.now a (history_of s) j)
    c.in-Call-None.is-1 c.requires.still) in
    sym (ap (λ (v : Event). outcome_at_once v (history_of s) j) c.in-Call-None.is-0 ∙ still at)
