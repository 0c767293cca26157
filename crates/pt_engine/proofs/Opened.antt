-- The core to which an event's entries are added: what holds of a core and of its seal.
use Rattle.std.proofs.Common.{◌≡◌, Bool, true, false, cond, [], ◌∷◌, ◌++◌, None, refl, sym, ap, ◌∙◌}
use Rattle.std.proofs.Common.{subst}
use Rattle.pt_model.specs.declared.entry.Event.{Event}
use Rattle.pt_model.specs.Starts.{Start}
use Rattle.pt_model.specs.Histories.{Begin, ◌▷◌, append_entries, history_since, place}
use Rattle.pt_model.specs.Forced.{forced}
use Rattle.pt_model.specs.Legal.{LegalSince, events_of}
use Rattle.pt_model.specs.Room.{entry_for, needs_seal}
use Rattle.pt_model.specs.Seals.{seal}
use Rattle.pt_model.specs.SealLaws.{ContinuesAlike}
use Rattle.pt_model.specs.Steps.{IsStart, Follows}
use Rattle.pt_model.proofs.Agreeing.{seal_agrees}
use Rattle.pt_model.proofs.ContinuesAlike.{agrees_on}
use Rattle.pt_model.proofs.Histories.{append_entries-append}
use Rattle.pt_model.proofs.Induction.{start-seal}
use Rattle.pt_model.proofs.Legality.{history_since-follows, history_since-settled, events_of-legal}
use Rattle.pt_client_events.specs.GoesOn.{ContinuesLegally}
use Rattle.pt_legal.specs.Cores.{CoreState, history_of}
use Rattle.pt_legal.specs.Applying.{WritesEvent, core_for_event}
use Rattle.pt_legal.specs.Sealing.{core_after_seal}
use Rattle.pt_engine.specs.Engines.{IsLegal}

-- what holds of a core that needs no seal, and of its seal if it needs one, holds of the opened
-- core
pub opened_by : (P : CoreState → Type 0) (core : CoreState) (v : Event)
    → (needs_seal core.limit (history_of core) v ≡ false → P core)
    → (needs_seal core.limit (history_of core) v ≡ true → P (core_after_seal core))
    → P (core_for_event core v)
opened_by P core v same after = go (needs_seal core.limit (history_of core) v) refl
  where
    go : (b : Bool) → needs_seal core.limit (history_of core) v ≡ b
        → P (cond b (core_after_seal core) core)
    go true needs = after needs
    go false none = same none

-- the next place is unchanged, and so is the limit
pub place_opened : (core : CoreState) (v : Event)
    → place (history_of (core_for_event core v)) ≡ place (history_of core)
place_opened core v =
    opened_by (λ k. place (history_of k) ≡ place (history_of core)) core v (λ e. refl) (λ e. refl)

pub limit_opened : (core : CoreState) (v : Event) → (core_for_event core v).limit ≡ core.limit
limit_opened core v = opened_by (λ k. k.limit ≡ core.limit) core v (λ e. refl) (λ e. refl)

module _ (core : CoreState) (l : IsLegal core) where
  pub legal_follow : Follows (history_of core)
  legal_follow = history_since-follows core.start core.entries
      (events_of core.entries) l.starts l.legal

  pub legal_settle : forced (history_of core) ≡ None
  legal_settle = history_since-settled core.start core.entries
      (events_of core.entries) l.starts l.legal

  -- what may come after the seal may come before it
  pub sealed_alike : ContinuesAlike (history_of core) (Begin (seal (history_of core)))
  sealed_alike =
      agrees_on (history_of core) (Begin (seal (history_of core))) legal_follow
      (start-seal (history_of core) legal_follow) (seal_agrees (history_of core) legal_follow)

  pub legal_sealed : IsLegal (core_after_seal core)
  legal_sealed =
      record {
        starts = start-seal (history_of core) legal_follow;
        legal = (sym sealed_alike.forces ∙ legal_settle, refl);
      }

  pub legal_opened : (v : Event) → IsLegal (core_for_event core v)
  legal_opened v = opened_by IsLegal core v (λ e. l) (λ e. legal_sealed)

module _ (core next : CoreState) (v : Event) (a : WritesEvent core v next) where
  -- the Start is unchanged
  pub same_start : LegalSince core.start next.entries (events_of core.entries ++ v ∷ [])
  same_start =
      subst (λ (s : Start). LegalSince s next.entries (events_of core.entries ++ v ∷ [])) a.starts
      a.legal

  -- the history is the old one followed by the new entries
  pub longer : history_of next ≡ append_entries (history_of core ▷ entry_for
      (history_of core) v) a.extends.0
  longer =
      ap (λ (s : Start). history_since s next.entries) a.starts
      ∙ ap (history_since core.start) a.extends.1
      ∙ append_entries-append (Begin core.start) core.entries
      (entry_for (history_of core) v ∷ a.extends.0)

  pub goes_on : IsLegal core → ContinuesLegally core.start core.entries v next.entries
  goes_on l = record { starts = l.starts; extends = a.extends; legal = same_start }

  -- the entries are the one legal list again
  pub legal_next : IsLegal core → IsLegal next
  legal_next l =
      record {
        starts = subst IsStart (sym a.starts) l.starts;
        legal = subst (λ vs. LegalSince next.start next.entries vs)
            (sym (events_of-legal (Begin next.start) next.entries (events_of core.entries ++ v ∷ [])
            a.legal)) a.legal;
      }
