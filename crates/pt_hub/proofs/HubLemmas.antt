-- A hub remains a hub after each event.
use Rattle.std.proofs.Common.{◌≡◌, ℕ, ◌+◌, ◌<◌, ◌≤◌, ◌^◌, sym, ap, ◌∙◌, subst, arith}
use Rattle.std.specs.Prelude.{Result, Ok, Err, IfOk, OnErr}
use Rattle.pt_types.specs.declared.outcome.Refusal.{Refusal}
use Rattle.pt_types.specs.Limits.{max_entries, max_place}
use Rattle.pt_model.specs.declared.entry.Event.{Event}
use Rattle.pt_model.specs.Histories.{place, outer}
use Rattle.pt_model.specs.Legal.{LegalSince, events_of}
use Rattle.pt_model.specs.Steps.{IsStart}
use Rattle.pt_legal.specs.declared.applied.Applied.{Applied}
use Rattle.pt_legal.specs.Cores.{IsEmpty, CoreState, history_of}
use Rattle.pt_cells.specs.Cells.{Celled}
use Rattle.pt_legal.specs.Applying.{IsApplied, IsEventWritten, core_for_event}
use Rattle.pt_legal.specs.Sealing.{IsSealed}
use Rattle.pt_hub.specs.AnsweringCores.{AnsweringCoreView, hub_core}
use Rattle.pt_hub.specs.Hubs.{HubView, TallyView, IsHub}
use Rattle.pt_hub.proofs.AppliedLemmas.{outer-applied, place-applied}
use Rattle.pt_hub.proofs.CoresAfterSeal.{outer-core_for_event, place-core_for_event, starts-core_for_event}

-- an event adds one outer entry, even after a seal
module _ (k new : CoreState) (v : Event) (a : Applied) (b : IsStart k.start)
    (legal : LegalSince k.start k.entries (events_of k.entries))
    (ok : IsApplied k v new a) where
  outer-grown : outer (history_of new) ≡ outer (history_of k) + 1
  outer-grown =
      outer-applied (core_for_event k v) new v (starts-core_for_event k v b legal) ok.written.writes
      ∙ ap (λ n. n + 1) (outer-core_for_event k v)

  place-grown : place (history_of k) + 1 ≤ place (history_of new)
  place-grown =
      omega (
        arith,
        place-core_for_event k v,
        place-applied (core_for_event k v) new v
            (starts-core_for_event k v b legal) ok.written.writes,
      )

module _ (old new : HubView) (s t : TallyView) (k : IsHub old s) where
  grown : outer (history_of (hub_core new.inner)) ≡ outer (history_of (hub_core old.inner)) + 1
      → place (history_of (hub_core old.inner)) + 1 ≤ place (history_of (hub_core new.inner))
      → t.outer ≡ s.outer + 1 → s.parts ≤ t.parts + 1 → new.session_count ≡ old.session_count
      → new.booked ≡ t.outer → IsHub new t
  grown more later one part same booked =
      record {
        outer = omega (arith, k.outer, one, more);
        book = booked;
        parts = omega (arith, k.parts, part, later, same);
        sessions = omega (arith, k.sessions, same);
      }

  -- one more event was counted, and at most one part was given away
  pub hub-more : (v : Event) (a : Applied) → IsStart (hub_core old.inner).start
      → LegalSince (hub_core old.inner).start (hub_core old.inner).entries
      (events_of (hub_core old.inner).entries)
      → IsApplied (hub_core old.inner) v (hub_core new.inner) a
      → t.outer ≡ s.outer + 1 → s.parts ≤ t.parts + 1 → new.session_count ≡ old.session_count
      → new.booked ≡ t.outer → IsHub new t
  hub-more v a b legal ok =
      grown (outer-grown (hub_core old.inner) (hub_core new.inner) v a b legal ok)
      (place-grown (hub_core old.inner) (hub_core new.inner) v a b legal ok)

  -- the same for an event before which the history isn't sealed
  pub hub-died : (v : Event) (a : Applied) → IsStart (hub_core old.inner).start
      → IsEventWritten (hub_core old.inner) v (hub_core new.inner) a
      → t.outer ≡ s.outer + 1 → s.parts ≤ t.parts + 1 → new.session_count ≡ old.session_count
      → new.booked ≡ t.outer → IsHub new t
  hub-died v a b ok =
      grown (outer-applied (hub_core old.inner) (hub_core new.inner) v b ok.writes)
      (place-applied (hub_core old.inner) (hub_core new.inner) v b ok.writes)

-- the history was sealed, or nothing was done
module _ (old : HubView) (new : AnsweringCoreView) (t : TallyView) (k : IsHub old t) where
  after_seal : (at : ℕ) → IsSealed (hub_core old.inner) (hub_core new) at
      → IsHub (record old { inner = new }) t
  after_seal at s =
      let outers : outer (history_of (hub_core new)) ≡ outer (history_of (hub_core old.inner)) =
      ap (λ (n : CoreState). outer (history_of n)) s.core in
      let places : place (history_of (hub_core new)) ≡ place (history_of (hub_core old.inner)) =
      ap (λ (n : CoreState). place (history_of n)) s.core in
      record {
        outer = k.outer ∙ sym outers;
        book = k.book;
        parts = omega (arith, k.parts, places);
        sessions = k.sessions;
      }

  pub hub-hub_core : new ≡ old.inner → IsHub (record old { inner = new }) t
  hub-hub_core same = subst (λ (d : AnsweringCoreView). IsHub (record old { inner = d }) t) (sym same) k

  -- an answer was taken, which leaves the core unchanged
  pub hub-took : new.core ≡ old.inner.core → IsHub (record old { inner = new }) t
  hub-took same =
      subst (λ (s : Celled). IsHub
      (record old { inner = record { core = s; accounts = new.accounts } }) t) (sym same)
      (record { outer = k.outer; book = k.book; parts = k.parts; sessions = k.sessions })

  pub hub-sealed : (r : Result ℕ Refusal) → IfOk r (IsSealed (hub_core old.inner) (hub_core new))
      → OnErr r (new ≡ old.inner) → IsHub (record old { inner = new }) t
  hub-sealed (Ok at) ok err = after_seal at ok
  hub-sealed (Err e) ok err = hub-hub_core err

-- before the first event
pub hub-new : (v : HubView) (t : TallyView)
    → IsEmpty (hub_core v.inner)
    → v.session_count ≡ 0 → v.booked ≡ t.outer → t.outer ≡ 0 → 2 ^ 63 ≤ t.parts + 1 → IsHub v t
hub-new v t empty none booked zero parts =
    record {
      outer = omega (arith, zero, ap (λ (s : CoreState). outer (history_of s)) empty.nothing_yet);
      book = booked;
      parts = omega (arith, parts);
      sessions = omega (arith, none);
    }

-- one more event can be counted by each owner of a part of the ledger
pub countable : (n o p : ℕ) → n ≡ o → o ≤ p → p ≤ max_place + max_entries → n < 2 ^ 63
countable n o p same few within = omega arith

pub has_part : (n : ℕ) → n ≡ 1 → 0 < n
has_part n one = omega arith
