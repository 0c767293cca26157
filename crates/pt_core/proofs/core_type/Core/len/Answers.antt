use Rattle.std.proofs.Common.{◌≤◌, length, sym, ap, ◌∙◌, subst, arith}
use Rattle.pt_model.specs.Histories.{place}
use Rattle.pt_model.specs.Legal.{LegalSince, events_of}
use Rattle.pt_model.specs.Steps.{IsStart}
use Rattle.pt_legal.specs.Cores.{CoreView, history_of, core_state}
use Rattle.pt_core.proofs.core_type.Core.len.Goals as goal
use Rattle.pt_history.proofs.Places.{place_of_next}

pub returns-clause-value : goal.returns-clause-value
returns-clause-value g c =
    c.len.ensures
    ∙ rw c.deref.ensures (sym (place_of_next c.self.inside.body.value.stored)
    ∙ ap (λ (s : CoreView). place (history_of (core_state s))) c.self.view_is)

pub returns-clause-starts : goal.returns-clause-starts
returns-clause-starts g c =
    subst (λ (s : CoreView). IsStart
    (core_state s).start) c.self.view_is c.self.invariant.valid_store.starts

pub returns-clause-legal : goal.returns-clause-legal
returns-clause-legal g c =
    subst (λ (s : CoreView). LegalSince (core_state s).start s.entries
    (events_of s.entries)) c.self.view_is
    c.self.invariant.valid_store.legal

pub returns-clause-within : goal.returns-clause-within
returns-clause-within g c =
    subst (λ (s : CoreView). length s.entries ≤ s.limit) c.self.view_is
    (omega (arith, c.self.invariant.valid_store.fits))
