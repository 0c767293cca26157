-- A walk through a client's own entries, each compared with the next event that it claims.
use Rattle.std.proofs.Common.{◌≡◌, ◌≢◌, ℕ, zero, suc, ◌==◌, ◌+◌, ◌-◌, ◌≤◌, ◌<◌, min, max, inl, inr}
use Rattle.std.proofs.Common.{Bool, true, false, cond, nat_le, List, [], ◌∷◌, ◌++◌, length, take}
use Rattle.std.proofs.Common.{drop, append_assoc, slice_get, Option, Some, None, IfSome, refl, sym}
use Rattle.std.proofs.Common.{ap, ◌∙◌, subst, arith, filter}
use Rattle.std.proofs.lemmas.Bool.Decides.{nat_tests}
use Rattle.std.proofs.lemmas.List.{take-append-drop, length-take, drop_all}
use Rattle.pt_model.specs.declared.entry.Entry.{Entry}
use Rattle.pt_model.specs.declared.entry.Entry.TheVariants.{Join, Call, Death, Moment, Grant, Trip}
use Rattle.pt_model.specs.declared.entry.Entry.TheVariants.{Yield, Expire}
use Rattle.pt_model.specs.declared.entry.Event.{Event}
use Rattle.pt_model.specs.declared.entry.Event.TheVariants as event
use Rattle.pt_model.specs.Starts.{Start}
use Rattle.pt_model.specs.Histories.{History, Begin, ◌▷◌, place, append_entries, history_since}
use Rattle.pt_model.specs.Steps.{Follows}
use Rattle.pt_model.proofs.Histories.{append_entries-append, place-append_entries, place-history_since, follows-part}
use Rattle.pt_client_events.specs.OwnEvents.{own_event, with_place, own_from, own_since, own_if, own_at}
use Rattle.pt_client_events.specs.OwnEvents.{events_from_place, place_if, PartsAt, Finds, Compares}
use Rattle.pt_client_events.proofs.Silences.{silent-before, silent-after}
use Rattle.pt_client_events.proofs.Partings.{parts-found, parts-never, Reduces, reduces-not, reduces-one}
use Rattle.pt_client_events.proofs.Partings.{reduces-as}

-- its own entries from index i on, and those from the next index on
own-drop : (c p : ℕ) (es : List Entry) (i : ℕ)
    → own_from c p (drop i es) ≡ with_place p (own_if c (slice_get es i))
    ++ own_from c (suc p) (drop (suc i) es)
own-drop c p [] zero = refl
own-drop c p [] (suc i) = refl
own-drop c p (e ∷ es) zero = refl
own-drop c p (e ∷ es) (suc i) = own-drop c p es i

-- its own among the first n entries, and among the others
own-parts : (c p : ℕ) (es : List Entry) (n : ℕ)
    → own_from c p es ≡ own_from c p (take n es) ++ own_from c (p + n) (drop n es)
own-parts c p es zero = ap (λ q. own_from c q es) (let e : p ≡ p + 0 = omega arith in e)
own-parts c p [] (suc n) = refl
own-parts c p (e ∷ es) (suc n) =
    let next : suc p + n ≡ p + suc n = omega arith in
    ap (λ xs. with_place p (own_event c e) ++ xs)
    (own-parts c (suc p) es n
    ∙ ap (λ q. own_from c (suc p) (take n es) ++ own_from c q (drop n es)) next)
    ∙ sym (append_assoc (with_place p (own_event c e)) (own_from c (suc p) (take n es))
    (own_from c (p + suc n) (drop n es)))

-- an entry by which a client dies is its Death
death-entry : (c d : ℕ) (e : Entry) → own_event c e ≡ Some (event.Death d) → e ≡ Death c
death-entry c d (Join b p) o = go (b == c) o
  where
    go : (t : Bool) → cond t (Some (event.Join p)) None ≡ Some (event.Death d) → Join b p ≡ Death c
    go true e = absurd cc
    go false e = absurd cc
death-entry c d (Call b call r) o = go (b == c) o
  where
    go : (t : Bool) → cond t (Some (event.Call b call)) None ≡ Some (event.Death d)
        → Call b call r ≡ Death c
    go true e = absurd cc
    go false e = absurd cc
death-entry c d (Death b) o = go (b == c) refl o
  where
    go : (t : Bool) → (b == c) ≡ t → cond t (Some (event.Death b)) None ≡ Some (event.Death d)
        → Death b ≡ Death c
    go true e o = let same : b ≡ c = grind (arith, nat_tests) in ap Death same
    go false e o = absurd cc
death-entry c d (Moment k t) o = absurd cc
death-entry c d (Grant j x) o = absurd cc
death-entry c d (Trip b) o = absurd cc
death-entry c d (Yield m) o = absurd cc
death-entry c d (Expire j) o = absurd cc

-- the entry at an index splits the list there
split-at : (es : List Entry) (i : ℕ) (e : Entry) → slice_get es i ≡ Some e
    → (es ≡ take i es ++ e ∷ drop (suc i) es) × (length (take i es) ≡ i)
split-at [] zero e g = absurd cc
split-at [] (suc i) e g = absurd cc
split-at (x ∷ es) zero e g =
    let same : x ≡ e = cc in
    (ap (λ y. y ∷ es) same, refl)
split-at (x ∷ es) (suc i) e g =
    let rest = split-at es i e g in
    (ap (λ ys. x ∷ ys) rest.0, ap suc rest.1)

module _ (s : Start) (es : List Entry) (c : ℕ) where
  -- its own entries that remain at a place
  abbrev pub own_left : ℕ → List (ℕ × Event)
  own_left p = own_from c p (drop (p - s.at) es)

  pub own-next : (p : ℕ) → s.at ≤ p
      → own_left p ≡ with_place p (own_at s es c p) ++ own_left (suc p)
  own-next p le =
      let next : suc (p - s.at) ≡ suc p - s.at = omega (arith, le) in
      own-drop c p es (p - s.at)
      ∙ ap (λ i. with_place p (own_at s es c p) ++ own_from c (suc p) (drop i es)) next

  pub own-end : (p : ℕ) → place (history_since s es) ≤ p → own_left p ≡ []
  own-end p le =
      ap (own_from c p)
      (drop_all (p - s.at) es (omega (arith, le, place-history_since s es)))

  -- none remains after its Death
  pub own-dead : Follows (history_since s es) → (p d : ℕ) → s.at ≤ p
      → own_at s es c p ≡ Some (event.Death d) → own_left (suc p) ≡ []
  own-dead f p d le o = go (slice_get es (p - s.at)) refl o
    where
      go : (x : Option Entry) → slice_get es (p - s.at) ≡ x
          → own_if c x ≡ Some (event.Death d)
          → own_left (suc p) ≡ []
      go None g o = absurd cc
      go (Some e) g o =
          let i : ℕ = p - s.at in
          let dies : e ≡ Death c = death-entry c d e o in
          let parts = split-at es i e g in
          let whole : es ≡ take i es ++ Death c ∷ drop (suc i) es =
          parts.0 ∙ ap (λ x. take i es ++ x ∷ drop (suc i) es) dies in
          let h : History = history_since s (take i es) in
          let follows : Follows (append_entries (h ▷ Death c) (drop (suc i) es)) =
          subst Follows
          (ap (history_since s) whole ∙ append_entries-append (Begin s) (take i es) (Death c
          ∷ drop (suc i) es)) f in
          let at : suc (place h) ≡ suc p =
          omega (arith, place-history_since s (take i es), parts.1, le) in
          let next : suc i ≡ suc p - s.at = omega (arith, le) in
          ap (λ j. own_from c (suc p) (drop j es)) (sym next)
          ∙ (ap (λ q. own_from c q (drop (suc i) es)) (sym at)
          ∙ silent-after h (drop (suc i) es) c follows)

  -- all its own entries are at its number or later
  pub own-begin : Follows (history_since s es) → own_since s es c ≡ own_left (max s.at c)
  own-begin f = go (nat_le c s.at) refl
    where
      go : (b : Bool) → nat_le c s.at ≡ b → own_since s es c ≡ own_left (max s.at c)
      go true e =
          let top : max s.at c ≡ s.at = grind (arith, nat_tests) in
          let none : s.at - s.at ≡ 0 = omega arith in
          rw (top, none) refl
      go false e =
          let top : max s.at c ≡ c = grind (arith, nat_tests) in
          let le : s.at ≤ c = grind (arith, nat_tests) in
          let n : ℕ = c - s.at in
          let up : s.at + n ≡ c = omega (arith, le) in
          let follows : Follows (append_entries (Begin s) (take n es)) =
          follows-part (append_entries (Begin s) (take n es)) (drop n es)
          (subst Follows
          (ap (history_since s) (sym (take-append-drop n es))
          ∙ append_entries-append (Begin s) (take n es) (drop n es)) f) in
          let quiet : own_from c s.at (take n es) ≡ [] =
          silent-before (Begin s) (take n es) c follows
          (omega (arith, up, length-take n es)) in
          own-parts c s.at es n
          ∙ (ap (λ xs. xs ++ own_from c (s.at + n) (drop n es)) quiet
          ∙ (ap (λ q. own_from c q (drop n es)) up
          ∙ ap own_left (sym top)))

module _ (k : ℕ) (cs : List (ℕ × Event)) where
  -- the claims that remain from index i on
  abbrev pub claims_left : ℕ → List (ℕ × Event)
  claims_left i = events_from_place k (drop i cs)

  drop-get : (xs : List (ℕ × Event)) (i : ℕ) (x : ℕ × Event) → slice_get xs i ≡ Some x
      → drop i xs ≡ x ∷ drop (suc i) xs
  drop-get [] zero x g = absurd cc
  drop-get [] (suc i) x g = absurd cc
  drop-get (y ∷ xs) zero x g = let same : y ≡ x = cc in ap (λ z. z ∷ xs) same
  drop-get (y ∷ xs) (suc i) x g = drop-get xs i x g

  drop-none : (xs : List (ℕ × Event)) (i : ℕ) → slice_get xs i ≡ None → drop i xs ≡ []
  drop-none [] zero g = refl
  drop-none [] (suc i) g = refl
  drop-none (y ∷ xs) zero g = absurd cc
  drop-none (y ∷ xs) (suc i) g = drop-none xs i g

  pub claims-none : (i : ℕ) → slice_get cs i ≡ None → claims_left i ≡ []
  claims-none i g = ap (events_from_place k) (drop-none cs i g)

  pub claims-next : (i : ℕ) (x : ℕ × Event) → slice_get cs i ≡ Some x → k ≤ x.0
      → claims_left i ≡ x ∷ claims_left (suc i)
  claims-next i x g le =
      let late : nat_le k x.0 ≡ true = grind (arith, nat_tests) in
      ap (events_from_place k) (drop-get cs i x g) ∙ rw late refl

  pub claims-skip : (i : ℕ) (x : ℕ × Event) → slice_get cs i ≡ Some x → x.0 < k
      → claims_left i ≡ claims_left (suc i)
  claims-skip i x g lt =
      let early : nat_le k x.0 ≡ false = grind (arith, nat_tests) in
      ap (events_from_place k) (drop-get cs i x g) ∙ rw early refl

module _ (s : Start) (es : List Entry) (c : ℕ) (cs : List (ℕ × Event)) where
  -- what remains at a place, and from a claim on, decides about all
  abbrev pub Walks : ℕ → ℕ → Type 0
  Walks p i =
      Reduces (own_since s es c) (events_from_place s.at cs) (own_left s es c p)
      (claims_left s.at cs i)

  pub walk-begin : Follows (history_since s es) → (p i : ℕ) → p ≡ max s.at c
      → claims_left s.at cs i ≡ events_from_place s.at cs → Walks p i
  walk-begin f p i at first =
      reduces-as (own_since s es c) (events_from_place s.at cs) (own_since s es c)
      (events_from_place s.at cs) (own_left s es c p) (claims_left s.at cs i)
      (reduces-not (own_since s es c) (events_from_place s.at cs))
      (own-begin s es c f ∙ ap (own_left s es c) (sym at)) (sym first)

  -- an entry that is not the client's own
  pub walk-on : (p i : ℕ) → s.at ≤ p → own_at s es c p ≡ None → Walks p i → Walks (suc p) i
  walk-on p i le none w =
      reduces-as (own_since s es c) (events_from_place s.at cs) (own_left s es c p)
      (claims_left s.at cs i) (own_left s es c (suc p)) (claims_left s.at cs i) w
      (own-next s es c p le ∙ ap (λ o. with_place p o ++ own_left s es c (suc p)) none) refl

  module _ (p i : ℕ) (v : Event) (le : s.at ≤ p) (own : own_at s es c p ≡ Some v) (w : Walks p i)
    where
      heads : own_left s es c p ≡ (p, v) ∷ own_left s es c (suc p)
      heads = own-next s es c p le ∙ ap (λ o. with_place p o ++ own_left s es c (suc p)) own

      -- an entry of its own that is the next claim
      pub walk-met : (j : ℕ) (x : ℕ × Event) → slice_get cs i ≡ Some x → (p, v) ≡ x
          → claims_left s.at cs j ≡ claims_left s.at cs (suc i) → Walks (suc p) j
      walk-met j x claim same next =
          let late : s.at ≤ x.0 = subst (λ (y : ℕ × Event). s.at ≤ y.0) same le in
          reduces-one (own_since s es c) (events_from_place s.at cs) (own_left s es c (suc p))
          (claims_left s.at cs j) (p, v) x
          (reduces-as (own_since s es c) (events_from_place s.at cs) (own_left s es c p)
          (claims_left s.at cs i) ((p, v) ∷ own_left s es c (suc p))
          (x ∷ claims_left s.at cs j) w heads
          (claims-next s.at cs i x claim late ∙ ap (λ xs. x ∷ xs) (sym next)))
          same

      -- an entry of its own that is not the next claim
      pub walk-parts : (k : ℕ)
          → IfSome (slice_get cs i) (λ x. s.at ≤ x.0) → Compares (p, v) (slice_get cs i) (Some k)
          → PartsAt (own_since s es c) (events_from_place s.at cs) k
      walk-parts k late differs = w.parts k (go (slice_get cs i) refl late differs)
        where
          go : (o : Option (ℕ × Event)) → slice_get cs i ≡ o → IfSome o (λ x. s.at ≤ x.0)
              → Compares (p, v) o (Some k)
              → PartsAt (own_left s es c p) (claims_left s.at cs i) k
          go None e late d =
              let at : p ≡ k = cc in
              rw (heads, claims-none s.at cs i e) at
          go (Some x) e late d =
              rw (heads, claims-next s.at cs i x e late) (inr d)

  -- none of its own entries remains
  pub walk-end : (p i : ℕ) → Walks p i → own_left s es c p ≡ []
      → IfSome (slice_get cs i) (λ x. s.at ≤ x.0) → (o : Option ℕ)
      → o ≡ place_if (slice_get cs i)
      → Finds (PartsAt (own_since s es c) (events_from_place s.at cs))
      (own_since s es c ≡ events_from_place s.at cs) o
  walk-end p i w none late o first = go (slice_get cs i) refl late o first
    where
      go : (x : Option (ℕ × Event)) → slice_get cs i ≡ x → IfSome x (λ y. s.at ≤ y.0)
          → (o : Option ℕ) → o ≡ place_if x
          → Finds (PartsAt (own_since s es c) (events_from_place s.at cs))
          (own_since s es c ≡ events_from_place s.at cs) o
      go None e late (Some k) q = absurd cc
      go None e late None q =
          let same = w.same (none ∙ sym (claims-none s.at cs i e)) in
          (same, λ j. parts-never (own_since s es c) (events_from_place s.at cs) j same)
      go (Some x) e late None q = absurd cc
      go (Some x) e late (Some k) q =
          let at : x.0 ≡ k = cc in
          parts-found (own_since s es c) (events_from_place s.at cs) k
          (w.parts k (rw (none, claims-next s.at cs i x e late) at))
