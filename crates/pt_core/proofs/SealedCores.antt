-- A core whose entries were dropped.
use Rattle.std.proofs.Common.{◌≡◌, ◌≤◌, ◌<◌, ℕ, Bool, true, false, cond, nat_le, nat_lt, List, []}
use Rattle.std.proofs.Common.{Some, None, length, refl, sym, ap, ◌∙◌, subst, arith}
use Rattle.std.proofs.lemmas.Bool.Decides.{nat_tests}
use Rattle.pt_types.specs.declared.outcome.Refusal.{Refusal}
use Rattle.pt_types.specs.declared.outcome.Refusal.TheVariants.{Enomem, Full}
use Rattle.pt_history.specs.Stored.{Stored}
use Rattle.pt_model.specs.Histories.{place}
use Rattle.pt_types.specs.Limits.{max_place}
use Rattle.pt_history.specs.Stored.{stored_history}
use Rattle.pt_model.specs.declared.entry.Entry.{Entry}
use Rattle.pt_model.specs.Histories.{Begin}
use Rattle.pt_model.specs.Forced.{forced}
use Rattle.pt_model.specs.Legal.{LegalSince, events_of}
use Rattle.pt_model.specs.Room.{need}
use Rattle.pt_model.specs.Seals.{seal}
use Rattle.pt_model.specs.SealLaws.{ContinuesAlike}
use Rattle.pt_model.specs.StartRows.{start_of_rows}
use Rattle.pt_model.specs.Starts.{Start}
use Rattle.pt_model.specs.Steps.{IsStart, Follows}
use Rattle.pt_model.proofs.Agreeing.{seal_agrees}
use Rattle.pt_model.proofs.ContinuesAlike.{agrees_on}
use Rattle.pt_model.proofs.Induction.{start-seal}
use Rattle.pt_model.proofs.Legality.{history_since-settled}
use Rattle.pt_state.specs.declared.state.State.{State}
use Rattle.pt_state.specs.Adds.{history_of}
use Rattle.pt_state.specs.Sealed.{Seals}
use Rattle.pt_state.proofs.SealedTables.{history_of-sealed}
use Rattle.pt_legal.specs.Cores.{CoreState}
use Rattle.pt_core.specs.Stores.{store_core}
use Rattle.pt_legal.specs.Sealing.{core_after_seal, seal_refusal}
use Rattle.pt_core.specs.ValidStates.{IsValidState}

le-false : (a b : ℕ) → b < a → nat_le a b ≡ false
le-false a b l = grind (arith, nat_tests)

le-true : (a b : ℕ) → a ≤ b → nat_le a b ≡ true
le-true a b l = grind (arith, nat_tests)

lt-true : (a b : ℕ) → nat_lt a b ≡ true → a < b
lt-true a b e = grind (arith, nat_tests)

lt-false : (a b : ℕ) → nat_lt a b ≡ false → b ≤ a
lt-false a b e = grind (arith, nat_tests)

-- why a history can't go on from a place
pub places-lack : (at : ℕ) (r : Refusal)
    → Some r ≡ cond (nat_lt max_place at) (Some Full) None → (r ≡ Full) × (max_place < at)
places-lack at r e = go (nat_lt max_place at) refl e
  where
    go : (b : Bool) → nat_lt max_place at ≡ b → Some r ≡ cond b (Some Full) None
        → (r ≡ Full) × (max_place < at)
    go true eb e = (cc, lt-true max_place at eb)
    go false eb e = absurd cc

-- it can go on
pub places-left : (at : ℕ) → None ≡ cond (nat_lt max_place at) (Some Full) None
    → at ≤ max_place
places-left at e = go (nat_lt max_place at) refl e
  where
    go : (b : Bool) → nat_lt max_place at ≡ b → None ≡ cond b (Some Full) None
        → at ≤ max_place
    go true eb e = absurd cc
    go false eb e = lt-false max_place at eb

-- no numbers are left for places
pub refused-full : (s : Stored) → max_place < place (stored_history s) → Full
    ≡ seal_refusal (store_core s)
refused-full s l = ap (λ b. cond b Enomem Full) (sym (le-false (place
    (stored_history s)) max_place l))

-- numbers are left, and memory is lacking
pub refused-memory : (s : Stored) → place (stored_history s) ≤ max_place
    → Enomem ≡ seal_refusal (store_core s)
refused-memory s l = ap (λ b. cond b Enomem Full) (sym (le-true (place
    (stored_history s)) max_place l))

module _ {A : Type 0} (old : State A) (whole : IsValidState old) where
  -- nothing must follow what is stored
  pub settled : forced (history_of old) ≡ None
  settled =
      history_since-settled (start_of_rows old.stored.start) old.stored.entries
      (events_of old.stored.entries)
      whole.valid_store.starts whole.valid_store.legal

  module _ (new : State A) (s : Seals old new) where
    follows : Follows (history_of old)
    follows = whole.read.follows

    alike : ContinuesAlike (history_of old) (Begin (seal (history_of old)))
    alike = agrees_on (history_of old) (Begin (seal (history_of old))) follows (start-seal
        (history_of old) follows)
        (seal_agrees (history_of old) follows)

    -- the need is unchanged
    needed : need (history_of new) ≡ need (history_of old)
    needed = ap need (history_of-sealed old new s) ∙ sym alike.needs

    starts : IsStart (start_of_rows new.stored.start)
    starts = subst IsStart (sym s.starts) (start-seal (history_of old) follows)

    legal : LegalSince (start_of_rows new.stored.start) new.stored.entries
        (events_of new.stored.entries)
    legal =
        subst (λ es. LegalSince (start_of_rows new.stored.start) es (events_of es)) (sym s.entries)
        (subst (λ (st : Start). LegalSince st [] []) (sym s.starts)
        (sym alike.forces ∙ settled, refl))

    pub whole-core_after_seal : IsValidState new
    whole-core_after_seal =
        record {
          valid_store = record {
            starts = starts;
            legal = legal;
            room = omega (arith, needed, whole.valid_store.room, s.room);
            fits = omega (arith, ap length s.entries, whole.valid_store.fits, s.room, s.limit);
            limit = omega (arith, whole.valid_store.limit, s.limit);
          };
          read = s.read;
          spare = omega (arith, needed, s.answers, s.has_capacity, whole.spare);
        }

    pub store_core-core_after_seal : store_core new.stored ≡ core_after_seal (store_core old.stored)
    store_core-core_after_seal =
        ap (λ (st : Start). record (store_core new.stored) { start = st }) s.starts
        ∙ (ap (λ es. with_entries es new.stored.limit) s.entries
        ∙ ap (λ limit. with_entries [] limit) s.limit)
      where
        with_entries : List Entry → ℕ → CoreState
        with_entries es limit = record {
          start = seal
              (history_of old);
          entries = es;
          limit = limit;
        }
