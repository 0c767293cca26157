-- At a place where what a client has seen is of the cell that the history has, entries and claims
-- don't part.
use Rattle.std.proofs.Common.{◌≡◌, ◌≢◌, ℕ, zero, suc, ◌+◌, ◌-◌, ◌<◌, ◌≤◌, Bool, true, false, cond, nat_le, nat_lt}
use Rattle.std.proofs.Common.{List, [], ◌∷◌, ◌++◌, map, filter, slice_get, IfSome, Option, Some, None, inl, inr}
use Rattle.std.proofs.Common.{refl, sym, ap, ◌∙◌, subst, arith}
use Rattle.std.proofs.lemmas.Bool.Decides.{nat_tests}
use Rattle.std.proofs.lemmas.List.Elements.{filter-append}
use Rattle.pt_model.specs.declared.entry.Entry.{Entry}
use Rattle.pt_model.specs.declared.entry.Event.{Event}
use Rattle.pt_model.specs.declared.entry.Event.TheVariants as event
use Rattle.pt_model.specs.Searches.{Each, In}
use Rattle.pt_client_events.specs.OwnEvents.{own_event, own_from, with_place, PartsAt}
use Rattle.pt_cells.specs.Cells.{CellView, SeenView, AreCells, seen_if}
use Rattle.pt_cells.proofs.Firsts.{first-at}
use Rattle.pt_hub.specs.declared.pass.Receipt.{Receipt}
use Rattle.pt_hub.specs.AnsweringCores.{AnsweringCoreView, hub_core, seen_at, Meets}
use Rattle.pt_hub.specs.Passes.{LeftView, AreReceipts, IsDeathOf, IsJoinOf, IsOwn, IsReceiptOf, RisesFrom, last_place}
use Rattle.pt_hub.specs.Closing.{Claim, HasMet, IsHonest, IsMet, claimed_events_since, own_events}
use Rattle.pt_hub.specs.Closing.{seen_claims}
use Rattle.pt_hub.proofs.SeenParts.{Above, IsPast, Rises, never-parts, nothing-past, one-past}

abbrev Placed : Type 0
Placed = ℕ × Event

each-in : {A : Type 0} (P : A → Type 0) (xs : List A) (x : A) → Each P xs → In x xs → P x
each-in P [] x e i = absurd i
each-in P (y ∷ ys) x e (inl s) = subst P (sym s) e.0
each-in P (y ∷ ys) x e (inr i) = each-in P ys x e.1 i

weaker : (j k : ℕ) (xs : List Placed) → j ≤ k → Above k xs → Above j xs
weaker j k [] l a = tt
weaker j k (x ∷ xs) l a = (omega (arith, l, a.0), weaker j k xs l a.1)

-- a client's own entries have rising places
own-above : (c k j : ℕ) (es : List Entry) → j < k → Above j (own_from c k es)
own-above c k j [] l = tt
own-above c k j (e ∷ es) l = go (own_event c e) (own-above c (suc k) j es (omega (arith, l)))
  where
    go : (o : Option Event) → Above j (own_from c (suc k) es)
        → Above j (with_place k o ++ own_from c (suc k) es)
    go None rest = rest
    go (Some v) rest = (l, rest)

own-rises : (c k : ℕ) (es : List Entry) → Rises (own_from c k es)
own-rises c k [] = tt
own-rises c k (e ∷ es) = go (own_event c e) (own-rises c (suc k) es)
  where
    go : (o : Option Event) → Rises (own_from c (suc k) es)
        → Rises (with_place k o ++ own_from c (suc k) es)
    go None rest = rest
    go (Some v) rest = (own-above c (suc k) k es (omega arith), rest)

own-in : (c k i : ℕ) (es : List Entry) (e : Entry) (v : Event) → slice_get es i ≡ Some e
    → own_event c e ≡ Some v → In (k + i, v) (own_from c k es)
own-in c k i [] e v s o = absurd cc
own-in c k zero (x ∷ xs) e v s o =
    let same : x ≡ e = cc in
    let is : own_event c x ≡ Some v = ap (own_event c) same ∙ o in
    rw is (inl (ap (λ (n : ℕ). (n, v)) (omega arith)))
own-in c k (suc i) (x ∷ xs) e v s o =
    go (own_event c x)
    (subst (λ (n : ℕ). In (n, v) (own_from c (suc k) xs)) (omega arith)
    (own-in c (suc k) i xs e v s o))
  where
    go : (w : Option Event) → In (k + suc i, v) (own_from c (suc k) xs)
        → In (k + suc i, v) (with_place k w ++ own_from c (suc k) xs)
    go None rest = rest
    go (Some w) rest = inr rest

-- some of these, picked by a test
above-some : (j : ℕ) (p : Placed → Bool) (xs : List Placed) → Above j xs → Above j (filter p xs)
above-some j p [] a = tt
above-some j p (x ∷ xs) a = go (p x) (above-some j p xs a.1)
  where
    go : (b : Bool) → Above j (filter p xs) → Above j (cond b (x ∷ filter p xs) (filter p xs))
    go true rest = (a.0, rest)
    go false rest = rest

rises-some : (p : Placed → Bool) (xs : List Placed) → Rises xs → Rises (filter p xs)
rises-some p [] a = tt
rises-some p (x ∷ xs) a = go (p x) (rises-some p xs a.1)
  where
    go : (b : Bool) → Rises (filter p xs) → Rises (cond b (x ∷ filter p xs) (filter p xs))
    go true rest = (above-some x.0 p xs a.0, rest)
    go false rest = rest

in-some : (p : Placed → Bool) (xs : List Placed) (x : Placed) → p x ≡ true → In x xs
    → In x (filter p xs)
in-some p [] x t i = absurd i
in-some p (y ∷ ys) x t (inl s) =
    let is : p y ≡ true = ap p (sym s) ∙ t in
    rw is (inl s)
in-some p (y ∷ ys) x t (inr i) = go (p y) (in-some p ys x t i)
  where
    go : (b : Bool) → In x (filter p ys) → In x (cond b (y ∷ filter p ys) (filter p ys))
    go true rest = inr rest
    go false rest = rest

-- the claims of receipts
abbrev claim_of : ℕ → Receipt → Placed
claim_of c r = (r.place, event.Call c r.call)

calls-above : (c k : ℕ) (rs : List Receipt) → RisesFrom k rs → Above k (map (claim_of c) rs)
calls-above c k [] s = tt
calls-above c k (r ∷ rs) s = (
  s.0,
  weaker k r.place (map (claim_of c) rs) (omega (arith, s.0))
      (calls-above c r.place rs s.1),
)

calls-rise : (c k : ℕ) (rs : List Receipt) → RisesFrom k rs → Rises (map (claim_of c) rs)
calls-rise c k [] s = tt
calls-rise c k (r ∷ rs) s = (calls-above c r.place rs s.1, calls-rise c r.place rs s.1)

calls-in : (c : ℕ) (rs : List Receipt) (r : Receipt) → In r rs
    → In (claim_of c r) (map (claim_of c) rs)
calls-in c [] r i = absurd i
calls-in c (q ∷ qs) r (inl s) = inl (ap (claim_of c) s)
calls-in c (q ∷ qs) r (inr i) = inr (calls-in c qs r i)

-- an entry that the history has with its cell
there-if : (j : ℕ) (o : Option (Option CellView)) (t : SeenView) → seen_if j o ≡ Some t
    → o ≡ Some (Some t.cell)
there-if j None t e = absurd cc
there-if j (Some None) t e = absurd cc
there-if j (Some (Some c)) t e = cc

module _ (d : AnsweringCoreView) (j : ℕ) (t : SeenView) (cells : AreCells
    (hub_core d).entries d.core.cells)
    (there : seen_at d j ≡ Some t) where
  has : ((hub_core d).start.at ≤ j) × (slice_get (hub_core d).entries (j - (hub_core d).start.at)
      ≡ Some t.cell.entry)
  has = go (nat_lt j (hub_core d).start.at) refl there
    where
      go : (b : Bool) → nat_lt j (hub_core d).start.at ≡ b
          → cond b None (seen_if j (slice_get d.core.cells (j - (hub_core d).start.at))) ≡ Some t
          → ((hub_core d).start.at ≤ j)
          × (slice_get (hub_core d).entries (j - (hub_core d).start.at) ≡ Some t.cell.entry)
      go true l e = absurd cc
      go false l e = (
        grind (arith, nat_tests),
        first-at (hub_core d).entries d.core.cells (j - (hub_core d).start.at) t.cell cells.first
            (there-if j _ t e),
      )

-- one more claim, above those of receipts
last-above : (c k j : ℕ) (v : Event) (rs : List Receipt) → RisesFrom k rs → last_place k rs < j
    → Above k (map (claim_of c) rs ++ (j, v) ∷ [])
last-above c k j v [] s l = (l, tt)
last-above c k j v (r ∷ rs) s l = (
  s.0,
  weaker k r.place (map (claim_of c) rs ++ (j, v) ∷ []) (omega (arith, s.0))
      (last-above c r.place j v rs s.1 l),
)

last-rises : (c k j : ℕ) (v : Event) (rs : List Receipt) → RisesFrom k rs → last_place k rs < j
    → Rises (map (claim_of c) rs ++ (j, v) ∷ [])
last-rises c k j v [] s l = (tt, tt)
last-rises c k j v (r ∷ rs) s l =
    (last-above c r.place j v rs s.1 l, last-rises c r.place j v rs s.1 l)

last-in : (xs : List Placed) (x : Placed) → In x (xs ++ x ∷ [])
last-in [] x = inl refl
last-in (y ∷ ys) x = inr (last-in ys x)

-- an event that the client has seen in the cell that the history has
module _ (d : AnsweringCoreView) (c j : ℕ) (v : Event) (mine theirs : SeenView)
    (cells : AreCells (hub_core d).entries d.core.cells) (met : Meets d mine)
    (own : (mine.place ≡ j) × (own_event c mine.cell.entry ≡ Some v))
    (there : seen_at d j ≡ Some theirs) (same_cell : theirs.cell.name ≡ mine.cell.name) where
  abbrev at : ℕ
  at = (hub_core d).start.at

  abbrev p : Placed → Bool
  p = λ x. nat_le at x.0

  same_entry : theirs.cell.entry ≡ mine.cell.entry
  same_entry =
      let there_mine : seen_at d mine.place ≡ Some theirs = ap (seen_at d) own.0 ∙ there in
      subst (λ o. IfSome o (λ u. u.cell.name ≡ mine.cell.name
      → u.cell.entry ≡ mine.cell.entry)) there_mine met same_cell

  own_has : In (j, v) (own_from c at (hub_core d).entries)
  own_has =
      let here = has d j theirs cells there in
      subst (λ (n : ℕ). In (n, v) (own_from c at (hub_core d).entries)) (omega (arith, here.0))
      (own-in c at (j - at) (hub_core d).entries theirs.cell.entry v here.1
      (ap (own_event c) same_entry ∙ own.1))

  late : p (j, v) ≡ true
  late = let here = (has d j theirs cells there).0 in grind (arith, nat_tests)

  never : (rs ds : List Placed) → Rises rs → In (j, v) rs → IsPast j (filter p ds)
      → PartsAt (own_from c at (hub_core d).entries) (filter p (rs ++ ds)) j → ⊥
  never rs ds r i f parts =
      never-parts (own_from c at (hub_core d).entries) (filter p rs) (filter p ds) (j, v)
      (own-rises c at (hub_core d).entries) (rises-some p rs r) own_has (in-some p rs
      (j, v) late i) f
      (subst (λ xs. PartsAt (own_from c at (hub_core d).entries) xs j)
      (filter-append p rs ds) parts)

append-nothing : (xs : List Placed) → xs ++ [] ≡ xs
append-nothing [] = refl
append-nothing (x ∷ xs) = ap (λ ys. x ∷ ys) (append-nothing xs)

-- a client that has seen its Join, its calls and its Death
module _ (d : AnsweringCoreView) (l : LeftView) (cells : AreCells (hub_core d).entries d.core.cells)
    (met_join : HasMet d l.joined) (met_calls : Each (IsMet d) l.receipts)
    (met_death : HasMet d l.seen) (are : AreReceipts l.client l.receipts)
    (join : IsJoinOf l.client l.priority l.joined)
    (death : IsDeathOf l.client l.receipts l.died_at l.seen) (j : ℕ) (mine theirs : SeenView)
    (there : seen_at d j ≡ Some theirs) (same_cell : theirs.cell.name ≡ mine.cell.name)
    (parts : PartsAt (own_events (hub_core d) l.client) (claimed_events_since
    (hub_core d) l) j) where
  abbrev Never : Claim → Type 0
  Never q = q.place ≡ j → (l.died_at ≡ j → q.event ≡ event.Death l.client) → q.seen ≡ Some mine → ⊥

  abbrev joined : Placed
  joined = (l.client, event.Join l.priority)

  abbrev died : Placed
  died = (l.died_at, event.Death l.client)

  abbrev claimed : List Placed
  claimed = joined ∷ map (claim_of l.client) l.receipts

  claimed_rise : Rises claimed
  claimed_rise = (
    calls-above l.client l.client l.receipts are.rises,
    calls-rise l.client l.client l.receipts are.rises,
  )

  seen_own : (k : ℕ) (v : Event) (o : Option SeenView) → k ≡ j → o ≡ Some mine
      → IsOwn l.client k v o
      → (mine.place ≡ j) × (own_event l.client mine.cell.entry ≡ Some v)
  seen_own k v o place seen own =
      subst (λ (n : ℕ). (mine.place ≡ n) × (own_event l.client mine.cell.entry ≡ Some v)) place
      (subst (λ w. IfSome w (λ s. (s.place ≡ k) × (own_event l.client s.cell.entry
      ≡ Some v))) seen own)

  seen_met : (o : Option SeenView) → o ≡ Some mine → HasMet d o → Meets d mine
  seen_met o seen met = subst (λ w. IfSome w (Meets d)) seen met

  past : l.died_at ≢ j → (b : Bool) → IsPast j (cond b (died ∷ []) [])
  past lives true = one-past j died lives
  past lives false = nothing-past j

  among_claimed : (v : Event) (o : Option SeenView) → In (j, v) claimed → l.died_at ≢ j
      → Meets d mine
      → (mine.place ≡ j) × (own_event l.client mine.cell.entry ≡ Some v) → ⊥
  among_claimed v o i lives met own =
      never d l.client j v mine theirs cells met own there same_cell claimed (died
      ∷ []) claimed_rise i
      (past lives (nat_le (hub_core d).start.at l.died_at)) parts

  join_never : Never (record { place = l.client; event = event.Join l.priority; seen = l.joined })
  join_never place alone seen =
      among_claimed (event.Join l.priority) l.joined (inl (ap (λ (n : ℕ).
      (n, event.Join l.priority)) (sym place)))
      (λ e. differ (alone e)) (seen_met l.joined seen met_join)
      (seen_own l.client (event.Join l.priority) l.joined place seen join)
    where
      differ : event.Join l.priority ≡ event.Death l.client → ⊥
      differ e = absurd cc

  call_never : (r : Receipt) → In r l.receipts
      → Never (record { place = r.place; event = event.Call l.client r.call; seen = r.seen })
  call_never r among place alone seen =
      among_claimed (event.Call l.client r.call) r.seen
      (inr (subst (λ (n : ℕ). In (n, event.Call l.client r.call) (map
      (claim_of l.client) l.receipts)) place
      (calls-in l.client l.receipts r among))) (λ e. differ (alone e))
      (seen_met r.seen seen (each-in (IsMet d) l.receipts r met_calls among))
      (seen_own r.place (event.Call l.client r.call) r.seen place seen
      (each-in (IsReceiptOf l.client) l.receipts r are.each among))
    where
      differ : event.Call l.client r.call ≡ event.Death l.client → ⊥
      differ e = absurd cc

  death_never : Never (record { place = l.died_at; event = event.Death l.client; seen = l.seen })
  death_never place alone seen =
      never d l.client j (event.Death l.client) mine theirs cells (seen_met l.seen seen met_death)
      (seen_own l.died_at (event.Death l.client) l.seen place seen death.own) there same_cell
      (claimed ++ died ∷ []) [] rise
      (subst (λ (n : ℕ). In (n, event.Death l.client) (claimed ++ died
      ∷ [])) place (last-in claimed died))
      (nothing-past j)
      (subst (λ xs. PartsAt (own_events (hub_core d) l.client)
      (filter (λ x. nat_le (hub_core d).start.at x.0) xs) j) (sym (append-nothing (claimed ++ died
      ∷ []))) parts)
    where
      last : last_place l.client l.receipts < l.died_at
      last = subst (λ w. IfSome w (λ s. last_place l.client l.receipts < l.died_at)) seen death.last

      rise : Rises (claimed ++ died ∷ [])
      rise = (
        last-above l.client l.client l.died_at (event.Death l.client) l.receipts are.rises last,
        last-rises l.client l.client l.died_at (event.Death l.client) l.receipts are.rises last,
      )

  calls_never : (rs : List Receipt) → ((r : Receipt) → In r rs → In r l.receipts)
      → Each Never (map (λ (r : Receipt). record {
        place = r.place;
        event = event.Call l.client r.call;
        seen = r.seen;
      }) rs ++ record { place = l.died_at; event = event.Death l.client; seen = l.seen } ∷ [])
  calls_never [] among = (death_never, tt)
  calls_never (r ∷ rs) among =
      (call_never r (among r (inl refl)), calls_never rs (λ q i. among q (inr i)))

  never_claimed : Each Never (seen_claims l)
  never_claimed = (join_never, calls_never l.receipts (λ r i. i))

pub honest : (d : AnsweringCoreView) (l : LeftView) → AreCells (hub_core d).entries d.core.cells
    → HasMet d l.joined
    → Each (IsMet d) l.receipts → HasMet d l.seen → AreReceipts l.client l.receipts
    → IsJoinOf l.client l.priority l.joined → IsDeathOf l.client l.receipts l.died_at l.seen
    → IsHonest d l
honest d l cells met_join met_calls met_death are join death j t parts =
    each-in (Never d l cells met_join met_calls met_death are join death j t.mine t.theirs t.there
    t.same_cell parts) (seen_claims l) t.claim
    (never_claimed d l cells met_join met_calls met_death are join death j t.mine t.theirs t.there
    t.same_cell parts) t.among t.place t.only_death t.seen
