use Rattle.std.proofs.Common.{sym, ap, ◌∙◌, subst, arith}
use Rattle.pt_history.proofs.Places.{place_of_next}
use Rattle.pt_core.specs.Stores.{store_view}
use Rattle.pt_core.specs.ValidStates.{IsValidState}
use Rattle.pt_core.proofs.SealedCores.{settled, whole-core_after_seal, store_core-core_after_seal, places-lack, places-left}
use Rattle.pt_core.proofs.SealedCores.{refused-full, refused-memory}
use Rattle.pt_core.proofs.sealing.seal.Goals as goal

pub seal-requires-clause-settled : goal.seal-requires-clause-settled
seal-requires-clause-settled g c = settled c.args.body.now c.requires

pub seal-requires-clause-places : goal.seal-requires-clause-places
seal-requires-clause-places g c =
    let next = place_of_next c.args.body.now.stored in
    let left = places-left c.len-at.result (sym c.in_default.is ∙ c.refusal_of_seal.ensures) in
    omega (arith, next, c.len-at.ensures, left)

pub returns-in-Ok-clause-valid : goal.returns-in-Ok-clause-valid
returns-in-Ok-clause-valid g c =
    whole-core_after_seal c.args.body.now c.requires c.seal.new.self c.in-Ok.ensures.ok

pub returns-in-Ok-clause-ok : goal.returns-in-Ok-clause-ok
returns-in-Ok-clause-ok g c =
    let next = place_of_next c.args.body.now.stored in
    record {
      next = c.len-at.ensures ∙ sym next;
      core = store_core-core_after_seal c.args.body.now c.requires c.seal.new.self
          c.in-Ok.ensures.ok;
      within = places-left c.len-at.result (sym c.in_default.is ∙ c.refusal_of_seal.ensures);
    }

pub returns-in-Some-clause-err : goal.returns-in-Some-clause-err
returns-in-Some-clause-err g c =
    let next = place_of_next c.args.body.now.stored in
    let lack = places-lack c.len-at.result c.in-Some.refusal
    (sym c.in-Some.is ∙ c.refusal_of_seal.ensures) in
    lack.0 ∙ refused-full c.args.body.now.stored (omega (arith, next, c.len-at.ensures, lack.1))

pub returns-in-Err-clause-err : goal.returns-in-Err-clause-err
returns-in-Err-clause-err g c =
    let next = place_of_next c.args.body.now.stored in
    let left = places-left c.len-at.result (sym c.in_default.is ∙ c.refusal_of_seal.ensures) in
    c.in-Err.ensures.err
    ∙ refused-memory c.args.body.now.stored (omega (arith, next, c.len-at.ensures, left))

pub returns-in-Err-clause-valid : goal.returns-in-Err-clause-valid
returns-in-Err-clause-valid g c = subst IsValidState (sym c.in-Err.ensures.unchanged) c.requires

pub returns-in-Err-clause-unchanged : goal.returns-in-Err-clause-unchanged
returns-in-Err-clause-unchanged g c = ap (λ s. store_view s.stored) c.in-Err.ensures.unchanged
