-- What an accepted event takes of the cells that were made.
use Rattle.std.proofs.Common.{◌≡◌, ℕ, zero, suc, nat_lt, ◌+◌, ◌≤◌, Bool, true, false, List, [], ◌∷◌, ◌++◌, length, Option}
use Rattle.std.proofs.Common.{Result, Ok, Err, IfOk, ◌-◌, IfSome, slice_get, Some, None, cond, refl, sym, ap, ◌∙◌, subst, length-append, arith}
use Rattle.std.specs.Option.{option_or}
use Rattle.std.proofs.lemmas.List.{append_cancel_left}
use Rattle.std.proofs.lemmas.List.Elements.{filter_map-append}
use Rattle.pt_types.specs.declared.outcome.Refusal.{Refusal}
use Rattle.pt_model.specs.declared.entry.Entry.{Entry}
use Rattle.pt_model.specs.declared.entry.Event.{Event}
use Rattle.pt_model.specs.declared.entry.Event.TheVariants as event
use Rattle.pt_model.specs.Histories.{History, Begin, ◌▷◌, append_entries, history_since, place}
use Rattle.pt_model.specs.Clients.{is_alive}
use Rattle.pt_model.specs.Forced.{forced}
use Rattle.pt_model.specs.Legal.{LegalSince, event_of, events_of}
use Rattle.pt_model.specs.Room.{need, needs_seal, refusal, entry_for}
use Rattle.pt_model.specs.Seals.{seal}
use Rattle.pt_model.specs.Steps.{IsStart, Follows}
use Rattle.pt_model.proofs.Agreeing.{seal_agrees}
use Rattle.pt_model.proofs.ContinuesAlike.{agrees_on}
use Rattle.pt_model.proofs.Histories.{append_entries-append}
use Rattle.pt_model.proofs.Induction.{start-seal}
use Rattle.pt_model.proofs.Legality.{history_since-follows, history_since-part, history_since-settled, events_of-legal}
use Rattle.pt_model.proofs.Room.{room-death}
use Rattle.pt_model.proofs.Steps.{step-event}
use Rattle.pt_legal.specs.declared.applied.Applied.{Applied}
use Rattle.pt_legal.specs.Cores.{CoreState, CoreView, history_of, core_state}
use Rattle.pt_legal.specs.Applying.{WritesEvent, IsApplied, IsEventWritten, is_death}
use Rattle.pt_legal.specs.Sealing.{core_after_seal, IsSealed}
use Rattle.pt_cells.specs.Cells.{CellView, SeenView, SlotsView, Celled, AreFirst, AreCells}
use Rattle.pt_cells.specs.Cells.{AreSlots, Extends, IsCelled, cells_after, cells_in, no_cells}
use Rattle.pt_cells.specs.Cells.{seen_at, seen_if}
use Rattle.pt_cells.proofs.Firsts.{first-at, firsts-more, no_are, no_more}
use Rattle.pt_cells.proofs.Reserved.{need-append_entries, need-outer, need-sealed}

-- the entries beyond those that are reserved
abbrev pub more_for : Event → ℕ
more_for v = cond (is_death v) 0 4

-- a Death takes one of those that are reserved, and any other event four more at most
takes : (h : History) (v : Event) → Follows h → forced h ≡ None → refusal h v ≡ None
    → 1 + need (h ▷ entry_for h v) ≤ need h + more_for v
takes h (event.Join p) f n ok =
    need-outer h (entry_for h (event.Join p)) f (step-event h (event.Join p) n ok) refl
takes h (event.Call c call) f n ok =
    need-outer h (entry_for h (event.Call c call)) f (step-event h (event.Call c call) n ok) refl
takes h (event.Moment k t) f n ok =
    need-outer h (entry_for h (event.Moment k t)) f (step-event h (event.Moment k t) n ok) refl
takes h (event.Death c) f n ok = go (is_alive h c) refl ok
  where
    go : (b : Bool) → is_alive h c ≡ b → refusal h (event.Death c) ≡ None
        → 1 + need (h ▷ entry_for h (event.Death c)) ≤ need h + 0
    go true a ok = omega (arith, room-death h c f a)
    go false a ok = absurd cc

event_of-entry : (h : History) (v : Event) → event_of (entry_for h v) ≡ Some v
event_of-entry h (event.Join p) = refl
event_of-entry h (event.Call c call) = refl
event_of-entry h (event.Death c) = refl
event_of-entry h (event.Moment z t) = refl

unrefused : (o r : Option Refusal) → option_or o r ≡ None → o ≡ None
unrefused None r e = refl
unrefused (Some x) r e = e

-- an event that is written
module _ (o new : CoreState) (v : Event) (b : IsStart o.start) (f : Follows (history_of o))
    (n : forced (history_of o) ≡ None) (w : WritesEvent o v new) where
  abbrev x : Entry
  x = entry_for (history_of o) v

  abbrev fs : List Entry
  fs = w.extends.0

  legal : LegalSince o.start (o.entries ++ x ∷ fs) (events_of o.entries ++ v ∷ [])
  legal =
      subst (λ es. LegalSince o.start es (events_of o.entries ++ v ∷ [])) w.extends.1
      (subst (λ s. LegalSince s new.entries (events_of o.entries ++ v ∷ [])) w.starts w.legal)

  forced_ones : events_of fs ≡ []
  forced_ones =
      let all : events_of (o.entries ++ x ∷ fs) ≡ events_of o.entries ++ v ∷ [] =
      events_of-legal (Begin o.start) (o.entries ++ x ∷ fs) (events_of o.entries ++ v ∷ []) legal in
      let rest : events_of (x ∷ fs) ≡ v ∷ [] =
      append_cancel_left (events_of o.entries) (events_of (x ∷ fs)) (v ∷ [])
      (sym (filter_map-append event_of o.entries (x ∷ fs)) ∙ all) in
      let first : events_of (x ∷ fs) ≡ v ∷ events_of fs =
      let is : event_of x ≡ Some v = event_of-entry (history_of o) v in rw is refl in
      append_cancel_left (v ∷ []) (events_of fs) [] (sym first ∙ rest)

  whole : history_of new ≡ append_entries (history_of o ▷ x) fs
  whole =
      ap (λ s. history_since s new.entries) w.starts ∙ ap (history_since o.start) w.extends.1
      ∙ append_entries-append (Begin o.start) o.entries (x ∷ fs)

  lengths : length new.entries ≡ length o.entries + length (x ∷ fs)
  lengths = ap length w.extends.1 ∙ length-append o.entries (x ∷ fs)

  -- it takes no more than was made for it, and what is reserved after it is left
  pub leaves-room : need (history_of new) + length new.entries
      ≤ length o.entries + (need (history_of o) + more_for v)
  leaves-room =
      omega (
        arith,
        lengths,
        ap need whole,
        need-append_entries (history_of o ▷ x) fs
            (history_since-part o.start o.entries (x ∷ fs) (events_of o.entries ++ v ∷ []) b legal)
            forced_ones,
        takes (history_of o) v f n (unrefused (refusal (history_of o) v) _ w.accepted),
      )

  pub grows : length o.entries ≤ length new.entries
  grows = omega (arith, lengths)

  -- the cells that were there are still those of the first entries
  pub first-more : (cs : List (Option CellView)) → AreFirst o.entries cs → AreFirst new.entries cs
  first-more cs r = subst (λ es. AreFirst es cs) (sym w.extends.1) (firsts-more o.entries (x
      ∷ fs) cs r)

-- a core whose entries have cells, and an event that was applied to it
module _ (k new : CoreState) (v : Event) (a : Applied) (b : IsStart k.start)
    (l : LegalSince k.start k.entries (events_of k.entries)) (ok : IsApplied k v new a)
    (cs : List (Option CellView)) (are : AreCells k.entries cs) where
  f : Follows (history_of k)
  f = history_since-follows k.start k.entries (events_of k.entries) b l

  n : forced (history_of k) ≡ None
  n = history_since-settled k.start k.entries (events_of k.entries) b l

  -- the cells that stay, and the number of entries that were made for
  pub record Fits : Type 0 where
    pub first : AreFirst new.entries (cells_after a.sealed cs)
    pub few : length (cells_after a.sealed cs) ≤ length new.entries
    pub room : need (history_of new) + length new.entries
        ≤ length (cells_after a.sealed cs) + (need (history_of k) + more_for v)

  by_seal : (s : Bool) → needs_seal k.limit (history_of k) v ≡ s → a.sealed
      ≡ (cond s (Some (place (history_of k))) None)
      → IsEventWritten (cond s (core_after_seal k) k) v new a → Fits
  by_seal false e t w =
      let r : cells_after a.sealed cs ≡ cs = ap (λ (z : Option ℕ). cells_after z cs) t in
      record {
        first = subst (AreFirst new.entries) (sym r)
            (first-more k new v b f n w.writes cs are.first);
        few = omega (arith, ap length r, are.all, grows k new v b f n w.writes);
        room = omega (arith, ap length r, are.all, leaves-room k new v b f n w.writes);
      }
  by_seal true e t w =
      let r : cells_after a.sealed cs ≡ [] = ap (λ (z : Option ℕ). cells_after z cs) t in
      let g = start-seal (history_of k) f in
      let same = agrees_on (history_of k) (Begin (seal (history_of k))) f g (seal_agrees
      (history_of k) f) in
      record {
        first = subst (AreFirst new.entries) (sym r) tt;
        few = omega (arith, ap length r);
        room = omega (
          arith,
          ap length r,
          same.needs,
          leaves-room (core_after_seal k) new v g g (sym same.forces ∙ n) w.writes,
        );
      }

  pub fits : Fits
  fits = by_seal (needs_seal k.limit (history_of k) v) refl ok.sealed ok.written

-- a core that is sealed has no entries, and its cells are let go
pub core_after_seal-celled : (k new : CoreState) (at : ℕ) (cs ds : List (Option CellView))
    (made left : ℕ)
    → IsStart k.start → LegalSince k.start k.entries (events_of k.entries) → IsSealed k new at
    → IsCelled k cs made → ds ≡ [] → left ≡ made → IsCelled new ds left
core_after_seal-celled k new at cs ds made left b l ok is e same =
    subst (λ (n : CoreState). IsCelled n ds left) (sym ok.core)
    (record {
      each = subst (AreCells []) (sym e) (record { first = tt; all = refl });
      enough = omega (
        arith,
        need-sealed (history_of k) (history_since-follows k.start k.entries
            (events_of k.entries) b l),
        is.enough,
        same,
      );
    })

-- the slots of a core, if it has any, are the cells of its entries
pub slots-are : (k : CoreState) (s : Option SlotsView) → AreSlots k s
    → AreCells k.entries (cells_in k.entries s)
slots-are k None are = no_are k.entries
slots-are k (Some s) are = are.each

-- a core without cells, and an event that was applied to it
module _ (k new : CoreState) (v : Event) (a : Applied) where
  unseen : (s : Bool) → a.sealed ≡ (cond s (Some (place (history_of k))) None)
      → IsEventWritten (cond s (core_after_seal k) k) v new a
      → Extends (cells_after a.sealed (no_cells k.entries)) (no_cells new.entries)
  unseen false t w =
      subst (λ (z : Option ℕ). Extends (cells_after z (no_cells k.entries)) (no_cells new.entries))
      (sym t)
      (record {
        more = no_cells (entry_for (history_of k) v ∷ w.writes.extends.0);
        is =
            ap no_cells w.writes.extends.1
            ∙ no_more k.entries (entry_for (history_of k) v ∷ w.writes.extends.0);
      })
  unseen true t w =
      subst (λ (z : Option ℕ). Extends (cells_after z (no_cells k.entries)) (no_cells new.entries))
      (sym t)
      (record { more = no_cells new.entries; is = refl })

  pub unseen-by : IsApplied k v new a
      → Extends (cells_after a.sealed (no_cells k.entries)) (no_cells new.entries)
  unseen-by ok = unseen (needs_seal k.limit (history_of k) v) ok.sealed ok.written

pub unseen-ok : (r : Result Applied Refusal) (k new : CoreState) (v : Event)
    → IfOk r (λ a. IsApplied k v new a)
    → IfOk r (λ a. Extends (cells_after a.sealed (no_cells k.entries)) (no_cells new.entries))
unseen-ok (Ok a) k new v ok = unseen-by k new v a ok
unseen-ok (Err e) k new v ok = tt

-- the same of a core that has no slots
pub unseen-in : (r : Result Applied Refusal) (k new : CoreView) (v : Event) (o : Option SlotsView)
    (w : Celled) → o ≡ None
    → ◌≡◌ {A = Celled} (record { core = k; cells = cells_in k.entries o }) w
    → IfOk r (λ a. IsApplied (core_state k) v (core_state new) a)
    → IfOk r (λ a. Extends (cells_after a.sealed w.cells) (cells_in new.entries o))
unseen-in r k new v None w e is ok =
    subst (λ (z : Celled).
    IfOk r (λ a. Extends (cells_after a.sealed z.cells) (no_cells new.entries))) is
    (unseen-ok r (core_state k) (core_state new) v ok)
unseen-in r k new v (Some s) w e is ok = absurd cc

-- an entry that was seen is that of the history
pub seen-entry : (k : CoreView) (cs : List (Option CellView)) (w : Celled)
    → ◌≡◌ {A = Celled} (record { core = k; cells = cs }) w → AreCells k.entries cs
    → (o : Option SeenView) (first place : ℕ) → first ≡ k.start.at
    → IfSome o (λ s. (s.place ≡ place) × (slice_get cs (place - first) ≡ Some (Some s.cell)))
    → IfSome o (λ s. slice_get w.core.entries (place - w.core.start.at) ≡ Some s.cell.entry)
seen-entry k cs w is are None first place f so = tt
seen-entry k cs w is are (Some s) first place f so =
    subst (λ (v : Celled). slice_get v.core.entries (place - v.core.start.at)
    ≡ Some s.cell.entry) is
    (first-at k.entries cs (place - k.start.at) s.cell are.first
    (ap (λ (n : ℕ). slice_get cs (place - n)) (sym f) ∙ so.1))

-- the same of a core that has these slots
pub seen-in : (k : CoreView) (o : Option SlotsView) (s : SlotsView) (w : Celled) → o ≡ Some s
    → ◌≡◌ {A = Celled} (record { core = k; cells = cells_in k.entries o }) w
    → AreSlots (core_state k) o → (r : Option SeenView) (first place : ℕ) → first ≡ k.start.at
    → IfSome r (λ t. (t.place ≡ place)
    × (slice_get s.cells (place - first) ≡ Some (Some t.cell)))
    → IfSome r (λ t. slice_get w.core.entries (place - w.core.start.at) ≡ Some t.cell.entry)
seen-in k None s w e is are r first place f so = absurd cc
seen-in k (Some x) s w e is are r first place f so =
    let same : s ≡ x = cc in
    seen-entry k x.cells w is are.each r first place f
    (subst (λ (z : SlotsView). IfSome r (λ t. (t.place ≡ place)
    × (slice_get z.cells (place - first) ≡ Some (Some t.cell)))) same so)

-- nothing is seen of a core that has no slots
unseen-there : (b : Bool) (es : List Entry) (i j : ℕ) (P : SeenView → Type 0)
    → IfSome (cond b None (seen_if j (slice_get (no_cells es) i))) P
unseen-there true es i j P = tt
unseen-there false [] i j P = tt
unseen-there false (e ∷ es) zero j P = tt
unseen-there false (e ∷ es) (suc i) j P = unseen-there false es i j P

pub none-seen : (k : CoreView) (o : Option SlotsView) (w : Celled) (j : ℕ) (P : SeenView → Type 0)
    → o ≡ None → ◌≡◌ {A = Celled} (record { core = k; cells = cells_in k.entries o }) w
    → IfSome (seen_at w j) P
none-seen k None w j P e is =
    subst (λ (z : Celled). IfSome (seen_at z j) P) is
    (unseen-there (nat_lt j (core_state k).start.at) k.entries (j - (core_state k).start.at) j P)
none-seen k (Some s) w j P e is = absurd cc
