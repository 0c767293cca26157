use Rattle.std.proofs.Common.{◌≤◌, ℕ, refl, sym, ap, ◌∙◌, subst}
use Rattle.pt_types.specs.Limits.{max_place}
use Rattle.pt_model.specs.Starts.{Start}
use Rattle.pt_model.specs.StartRows.{start_of_rows}
use Rattle.pt_state.proofs.sealing.renewing.sealed_history.Goals as goal

pub seal-requires-clause-places : goal.seal-requires-clause-places
seal-requires-clause-places g c = subst (λ (k : ℕ). k ≤ max_place)
    (sym (ap (λ (s : Start). s.at) c.in-Ok-start_of.ensures.reads)) c.requires.places

pub seal-requires-clause-counted : goal.seal-requires-clause-counted
seal-requires-clause-counted g c = c.in-Ok-start_of.ensures.counted

pub returns-in-Ok-start_of-clause-starts : goal.returns-in-Ok-start_of-clause-starts
returns-in-Ok-start_of-clause-starts g c =
    ap (λ s. start_of_rows s.start) c.seal.ensures ∙ c.in-Ok-start_of.ensures.reads

pub returns-in-Ok-start_of-clause-entries : goal.returns-in-Ok-start_of-clause-entries
returns-in-Ok-start_of-clause-entries g c = ap (λ s. s.entries) c.seal.ensures

pub returns-in-Ok-start_of-clause-limit : goal.returns-in-Ok-start_of-clause-limit
returns-in-Ok-start_of-clause-limit g c = ap (λ s. s.limit) c.seal.ensures
    ∙ (ap (λ s. s.limit) c.in-Ok.ensures.ok ∙ ap (λ s. s.limit) c.in_ok-stored.ensures.ok)

pub returns-in-Ok-start_of-clause-room : goal.returns-in-Ok-start_of-clause-room
returns-in-Ok-start_of-clause-room g c =
    ap (λ s. s.room) c.seal.ensures ∙ ap (λ s. s.room) c.in-Ok.ensures.ok

pub returns-in-Err-clause-starts : goal.returns-in-Err-clause-starts
returns-in-Err-clause-starts g c = tt

pub returns-in-Err-clause-entries : goal.returns-in-Err-clause-entries
returns-in-Err-clause-entries g c = tt

pub returns-in-Err-clause-limit : goal.returns-in-Err-clause-limit
returns-in-Err-clause-limit g c = tt

pub returns-in-Err-clause-room : goal.returns-in-Err-clause-room
returns-in-Err-clause-room g c = tt

pub returns-in-Err-clause-err : goal.returns-in-Err-clause-err
returns-in-Err-clause-err g c = refl

pub returns-in_default-clause-starts : goal.returns-in_default-clause-starts
returns-in_default-clause-starts g c = tt

pub returns-in_default-clause-entries : goal.returns-in_default-clause-entries
returns-in_default-clause-entries g c = tt

pub returns-in_default-clause-limit : goal.returns-in_default-clause-limit
returns-in_default-clause-limit g c = tt

pub returns-in_default-clause-room : goal.returns-in_default-clause-room
returns-in_default-clause-room g c = tt

pub returns-in_default-clause-err : goal.returns-in_default-clause-err
returns-in_default-clause-err g c = refl
