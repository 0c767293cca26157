use Rattle.std.proofs.Common.{sym, ap, ◌∙◌, arith}
use Rattle.pt_history.proofs.Places.{place_of_next}
use Rattle.pt_state.specs.Adds.{history_of}
use Rattle.pt_core.specs.Stores.{store_view}
use Rattle.pt_core.proofs.ApplyingLemmas.{applied-renewed, refused-growth, refused-places}
use Rattle.pt_core.proofs.ApplyingLemmas.{whole-renewed}
use Rattle.pt_core.proofs.SealedCores.{places-lack, places-left}
use Rattle.pt_legal.proofs.SealRoom.{needs-parts}
use Rattle.pt_core.proofs.ValidStateLemmas.{whole-stays}
use Rattle.pt_core.proofs.WritingLemmas.{entered-some}
use Rattle.pt_core.proofs.applying.write_sealed.Goals as goal

pub returns-in-Some-clause-err : goal.returns-in-Some-clause-err
returns-in-Some-clause-err g c =
    let s = c.args.body.now.stored in
    let lack = places-lack c.len-first.result c.in-Some.refusal
    (sym c.in-Some.is ∙ c.refusal_of_seal.ensures) in
    refused-places s c.args.event.now c.requires.needs c.requires.accepted
    (omega (arith, place_of_next s, c.len-first.ensures, lack.1)) c.in-Some.refusal lack.0

pub enter_sealed-requires-clause-places : goal.enter_sealed-requires-clause-places
enter_sealed-requires-clause-places g c =
    let left = places-left c.len-first.result (sym c.in_default.is ∙ c.refusal_of_seal.ensures) in
    omega (arith, place_of_next c.args.body.now.stored, c.len-first.ensures, left)

pub returns-in-Err-clause-err : goal.returns-in-Err-clause-err
returns-in-Err-clause-err g c =
    let s = c.args.body.now.stored in
    let left = places-left c.len-first.result (sym c.in_default.is ∙ c.refusal_of_seal.ensures) in
    refused-growth s c.args.event.now c.requires.needs c.requires.accepted c.requires.valid.valid_store
    (omega (arith, place_of_next s, c.len-first.ensures, left))
    c.in-Err.refusal c.in-Err.ensures.err

pub returns-clause-valid : goal.returns-clause-valid
returns-clause-valid g c =
    whole-renewed c.args.body.now.stored c.enter_sealed.new.body c.args.event.now
    c.in_default-enter_sealed.ensures.ok c.in_default-enter_sealed.ensures.room

pub returns-clause-ok : goal.returns-clause-ok
returns-clause-ok g c =
    let s = c.args.body.now.stored in
    applied-renewed s c.args.event.now c.requires.needs c.requires.accepted
    c.enter_sealed.new.body.stored c.in_default-enter_sealed.ensures.ok c.len-first.result
    c.len.result c.outcome_of_event-outcome.result (c.len-first.ensures ∙ sym (place_of_next s))
    (places-left c.len-first.result (sym c.in_default.is ∙ c.refusal_of_seal.ensures))
    c.len.ensures c.outcome_of_event-outcome.ensures

pub returns-in-Err-clause-valid : goal.returns-in-Err-clause-valid
returns-in-Err-clause-valid g c =
    whole-stays c.args.body.now c.enter_sealed.new.body c.in-Err.ensures.unchanged c.requires.valid

pub returns-in-Err-clause-unchanged : goal.returns-in-Err-clause-unchanged
returns-in-Err-clause-unchanged g c = ap store_view c.in-Err.ensures.unchanged.stored

pub enter_sealed-requires-clause-fits : goal.enter_sealed-requires-clause-fits
enter_sealed-requires-clause-fits g c =
    let s = c.args.body.now in
    (needs-parts s.stored.limit (history_of s) c.args.event.now c.requires.needs).1

pub overflow_sub-result : goal.overflow_sub-result
overflow_sub-result g c =
    let e = c.in_default-enter_sealed.ensures.ok in
    entered-some e.sealed c.enter_sealed.new.body.stored c.args.event.now e.enters c.len.result
    c.len.ensures
