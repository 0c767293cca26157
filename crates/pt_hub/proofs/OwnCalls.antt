-- What a client has seen of its own Join, call or Death is the entry of that event.
use Rattle.std.proofs.Common.{◌≡◌, ℕ, ◌-◌, ◌==◌, Bool, true, false, cond, nat_lt, List, [], ◌∷◌}
use Rattle.std.proofs.Common.{◌++◌, length, slice_get, IfSome, Option, Some, None, refl, sym, ap, ◌∙◌, subst, arith}
use Rattle.std.proofs.lemmas.Bool.Decides.{nat_tests}
use Rattle.pt_types.specs.declared.call.Call.{Call as FunctionCall}
use Rattle.pt_model.specs.declared.entry.Entry.{Entry}
use Rattle.pt_model.specs.declared.entry.Event.{Event}
use Rattle.pt_model.specs.declared.entry.Event.TheVariants as event
use Rattle.pt_model.specs.Starts.{Start}
use Rattle.pt_model.specs.Histories.{place}
use Rattle.pt_model.specs.Room.{entry_for, needs_seal}
use Rattle.pt_model.proofs.Histories.{place-history_since}
use Rattle.pt_client_events.specs.OwnEvents.{own_event}
use Rattle.pt_legal.specs.declared.applied.Applied.{Applied}
use Rattle.pt_legal.specs.Cores.{CoreState, history_of, core_state}
use Rattle.pt_legal.specs.Applying.{WritesEvent, IsApplied}
use Rattle.pt_legal.specs.Sealing.{core_after_seal}
use Rattle.pt_cells.specs.Cells.{CellView, SeenView, Celled, seen_at, seen_if}
use Rattle.pt_hub.specs.Passes.{IsOwn}

at-seam : {X : Type 0} (xs ys : List X) (y : X) → slice_get (xs ++ y ∷ ys) (length xs) ≡ Some y
at-seam [] ys y = refl
at-seam (x ∷ xs) ys y = at-seam xs ys y

place_if : (j : ℕ) (o : Option (Option CellView)) (s : SeenView) → seen_if j o ≡ Some s → s.place
    ≡ j
place_if j None s e = absurd cc
place_if j (Some None) s e = absurd cc
place_if j (Some (Some c)) s e = cc

-- what is seen at a place has this place
pub seen-place : (w : Celled) (j : ℕ) (s : SeenView) → seen_at w j ≡ Some s → s.place ≡ j
seen-place w j s e = go (nat_lt j (core_state w.core).start.at) e
  where
    go : (b : Bool) → cond b None (seen_if j (slice_get w.cells (j - (core_state w.core).start.at)))
        ≡ Some s
        → s.place ≡ j
    go true e = absurd cc
    go false e = place_if j _ s e

-- an event that was written, whose entry is the client's own
module _ (o new : CoreState) (v : Event) (w : WritesEvent o v new) where
  pub entry-written : (j : ℕ) → j ≡ place (history_of o)
      → slice_get new.entries (j - new.start.at) ≡ Some (entry_for (history_of o) v)
  entry-written j is =
      let index : j - new.start.at ≡ length o.entries =
      omega (arith, is, place-history_since o.start o.entries, ap (λ (s : Start). s.at) w.starts) in
      ap (slice_get new.entries) index
      ∙ (ap (λ es. slice_get es (length o.entries)) w.extends.1
      ∙ at-seam o.entries w.extends.0 (entry_for (history_of o) v))

  pub own-written : (c j : ℕ) → j ≡ place (history_of o) → own_event c (entry_for (history_of o) v)
      ≡ Some v
      → (e : Entry) → slice_get new.entries (j - new.start.at) ≡ Some e → own_event c e ≡ Some v
  own-written c j is own e there = go e (sym there ∙ entry-written j is)
    where
      go : (x : Entry) → Some x ≡ Some (entry_for (history_of o) v) → own_event c x ≡ Some v
      go x same =
          let one : x ≡ entry_for (history_of o) v = cc in
          ap (own_event c) one ∙ own

-- what was seen of a client's own entry
seen-own : (new : CoreState) (c j : ℕ) (v : Event)
    → ((e : Entry) → slice_get new.entries (j - new.start.at) ≡ Some e → own_event c e ≡ Some v)
    → (w : Celled) → (o : Option SeenView) → IfSome o (λ s. seen_at w j ≡ Some s)
    → IfSome o (λ s. slice_get new.entries (j - new.start.at) ≡ Some s.cell.entry)
    → IsOwn c j v o
seen-own new c j v own w None seen entry = tt
seen-own new c j v own w (Some s) seen entry = (seen-place w j s seen, own s.cell.entry entry)

same-number : (c : ℕ) → (c == c) ≡ true
same-number c = grind (arith, nat_tests)

module _ (old new : CoreState) (c : ℕ) (v : Event) (a : Applied) (ok : IsApplied old v new a)
    (own : own_event c (entry_for (history_of old) v) ≡ Some v)
    (own_sealed : own_event c (entry_for (history_of (core_after_seal old)) v) ≡ Some v) where
  own-applied : (j : ℕ) → j ≡ place (history_of old) → (e : Entry)
      → slice_get new.entries (j - new.start.at) ≡ Some e → own_event c e ≡ Some v
  own-applied j is e there = go (needs_seal old.limit (history_of old) v) ok.written.writes
    where
      go : (b : Bool) → WritesEvent (cond b (core_after_seal old) old) v new → own_event c e
          ≡ Some v
      go true w = own-written (core_after_seal old) new v w c j is own_sealed e there
      go false w = own-written old new v w c j is own e there

module _ (old new : CoreState) (w : Celled) (o : Option SeenView) (a : Applied) where
  pub own-join : (p j : ℕ) → IsApplied old (event.Join p) new a → j ≡ place (history_of old)
      → IfSome o (λ s. seen_at w j ≡ Some s)
      → IfSome o (λ s. slice_get new.entries (j - new.start.at) ≡ Some s.cell.entry)
      → IsOwn j j (event.Join p) o
  own-join p j ok is =
      let here : (place (history_of old) == j) ≡ true =
      subst (λ (n : ℕ). (n == j) ≡ true) is (same-number j) in
      seen-own new j j (event.Join p)
      (own-applied old new j (event.Join p) a ok (rw here refl) (rw here refl) j is) w o

  pub own-call : (c : ℕ) (call : FunctionCall) (j : ℕ) → IsApplied old (event.Call c call) new a
      → j ≡ place (history_of old) → IfSome o (λ s. seen_at w j ≡ Some s)
      → IfSome o (λ s. slice_get new.entries (j - new.start.at) ≡ Some s.cell.entry)
      → IsOwn c j (event.Call c call) o
  own-call c call j ok is =
      let here = same-number c in
      seen-own new c j (event.Call c call)
      (own-applied old new c (event.Call c call) a ok (rw here refl) (rw here refl) j is) w o

  pub own-death : (c j : ℕ) → WritesEvent old (event.Death c) new → j ≡ place (history_of old)
      → IfSome o (λ s. seen_at w j ≡ Some s)
      → IfSome o (λ s. slice_get new.entries (j - new.start.at) ≡ Some s.cell.entry)
      → IsOwn c j (event.Death c) o
  own-death c j writes is =
      let here = same-number c in
      seen-own new c j (event.Death c)
      (own-written old new (event.Death c) writes c j is (rw here refl)) w o
