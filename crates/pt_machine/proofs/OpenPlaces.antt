-- The open call that came at a place: its client made the call whose entry is there.
use Rattle.std.proofs.Common.{◌≡◌, ℕ, zero, suc, ◌+◌, ◌-◌, ◌<◌, ◌≤◌, ◌⊎◌, inl, inr, Bool, true}
use Rattle.std.proofs.Common.{false, cond, ◌==◌, List, [], ◌∷◌, ◌++◌, Option, Some, None, IfSome}
use Rattle.std.proofs.Common.{refl, sym, ap, ◌∙◌, subst, arith}
use Rattle.std.proofs.lemmas.Bool.{cases_lt}
use Rattle.std.proofs.lemmas.Bool.Decides.{nat_tests}
use Rattle.std.specs.Prelude.{option_map, slice_get}
use Rattle.std.specs.Option.{option_or}
use Rattle.pt_types.specs.Tables.{reply}
use Rattle.pt_table.specs.declared.clients.ClientRow.{ClientRow}
use Rattle.pt_table.specs.ClientRows.{client_value}
use Rattle.pt_model.specs.Found.{option_filter}
use Rattle.pt_model.proofs.Ascending.{Each-weaker, call_at_place-below}
use Rattle.pt_model.proofs.Rising.{waiting_calls-below}
use Rattle.pt_model.specs.Starts.{empty_start}
use Rattle.pt_model.specs.Seals.{seal}
use Rattle.pt_model.proofs.Induction.{by_steps, start-seal}
use Rattle.pt_model.specs.declared.entry.Entry.{Entry}
use Rattle.pt_model.specs.declared.entry.Entry.TheVariants.{Join, Call, Death, Moment, Grant, Trip}
use Rattle.pt_model.specs.declared.entry.Entry.TheVariants.{Yield, Expire}
use Rattle.pt_model.specs.Searches.{In}
use Rattle.pt_model.specs.Histories.{History, Begin, ◌▷◌, place, append_entries}
use Rattle.pt_model.specs.declared.waiting_call.WaitingCall.{WaitingCall}
use Rattle.pt_model.specs.WaitingCall.{waiting_calls, call_at_place, calls_below, waiting_call_list}
use Rattle.pt_model.specs.declared.start.StartCall.{StartCall}
use Rattle.pt_model.specs.StartRows.{StartRows, start_of_rows, call_at, call_row, client_of_call}
use Rattle.pt_model.specs.Answers.{open_calls}
use Rattle.pt_model.specs.Queries.{client_of_found, caller}
use Rattle.pt_model.specs.Verdicts.{verdict}
use Rattle.pt_model.specs.Steps.{Step, joins, calls, dies, ticks, grants, trips, yields, expires}
use Rattle.pt_model.specs.Steps.{Follows}
use Rattle.pt_model.proofs.Effects.{Effect, Idle, Creates, Removes, Relocks, Frees, Mends, Returns}
use Rattle.pt_model.proofs.Effects.{Wakes, Waits, effect, Allowed}
use Rattle.pt_model.proofs.Allowances.{allowed}
use Rattle.pt_model.proofs.Changes.{left_by}
use Rattle.pt_model.proofs.Sound.{Fresh-follows, below_open}
use Rattle.pt_model.proofs.Found.{found_open, one_open}
use Rattle.pt_model.proofs.OneEach.{one_each}
use Rattle.pt_model.proofs.Opens.{left, was_open}
use Rattle.pt_records.specs.declared.clients.Caller.{Caller}
use Rattle.pt_records.specs.declared.clients.Open.{Open}
use Rattle.pt_state.specs.declared.state.State.{State}
use Rattle.pt_history.specs.Stored.{caller_in, caller_of}
use Rattle.pt_state.specs.Adds.{history_of}
use Rattle.pt_records.specs.Callers.{AreCallers, call_of, open_in, opens_of}
use Rattle.pt_state.specs.Serving.{call_of_open}
use Rattle.pt_state.proofs.Requested.{open_of-kept}
use Rattle.pt_state.proofs.CallerFinds.{call_of-none}
use Rattle.pt_records.proofs.OpenRows.{look-row, row-open}

-- the call that is found at a place is one of these, and came there
pub place-in : (p : ℕ) (ws : List WaitingCall) (w : WaitingCall) → call_at_place p ws ≡ Some w
    → In w ws × (w.place ≡ p)
place-in p [] w e = absurd cc
place-in p (v ∷ vs) w e = go (v.place == p) refl e (place-in p vs w)
  where
    go : (b : Bool) → (v.place == p) ≡ b → cond b (Some v) (call_at_place p vs) ≡ Some w
        → (call_at_place p vs ≡ Some w → In w vs × (w.place ≡ p)) → In w (v ∷ vs) × (w.place ≡ p)
    go true eb q ih =
        let same : w ≡ v = cc in
        let at : v.place ≡ p = grind (arith, nat_tests) in
        (inl same, ap (λ (u : WaitingCall). u.place) same ∙ at)
    go false eb q ih = let r = ih q in (inr r.0, r.1)

-- if no call is found at a place, none came there
place_missed : (p : ℕ) (ws : List WaitingCall) (w : WaitingCall) → call_at_place p ws ≡ None
    → In w ws
    → w.place ≡ p → ⊥
place_missed p [] w e i at = i
place_missed p (v ∷ vs) w e i at = go (v.place == p) refl e i (λ q j. place_missed p vs w q j at)
  where
    go : (b : Bool) → (v.place == p) ≡ b → cond b (Some v) (call_at_place p vs) ≡ None
        → In w (v ∷ vs) → (call_at_place p vs ≡ None → In w vs → ⊥) → ⊥
    go true eb q j ih = absurd cc
    go false eb q (inl j) ih =
        let there : v.place ≡ p = ap (λ (u : WaitingCall). u.place) (sym j) ∙ at in
        absurd (grind (arith, nat_tests))
    go false eb q (inr j) ih = ih q j

-- the only call that came at a place is found there
pub place-one : (p : ℕ) (ws : List WaitingCall) (w : WaitingCall) → In w ws → w.place ≡ p
    → ((v : WaitingCall) → In v ws → v.place ≡ p → v ≡ w) → call_at_place p ws ≡ Some w
place-one p ws w i at one = go (call_at_place p ws) refl
  where
    go : (o : Option WaitingCall) → call_at_place p ws ≡ o → o ≡ Some w
    go None e = absurd (place_missed p ws w e i at)
    go (Some v) e = let r = place-in p ws v e in ap Some (one v r.0 r.1)

-- if none came there, none is found
pub place-none : (p : ℕ) (ws : List WaitingCall) → ((v : WaitingCall) → In v ws → v.place ≡ p → ⊥)
    → call_at_place p ws ≡ None
place-none p ws f = go (call_at_place p ws) refl
  where
    go : (o : Option WaitingCall) → call_at_place p ws ≡ o → o ≡ None
    go None e = refl
    go (Some v) e = let r = place-in p ws v e in absurd (f v r.0 r.1)

-- an entry at another place does not change whose call came at a place
caller_still : (h : History) (e : Entry) (j : ℕ) → (place h == j) ≡ false
    → caller (h ▷ e) j ≡ caller h j
caller_still h (Call c call r) j ne = rw ne refl
caller_still h (Join p k) j ne = refl
caller_still h (Death c) j ne = refl
caller_still h (Moment k t) j ne = refl
caller_still h (Grant k x) j ne = refl
caller_still h (Trip b) j ne = refl
caller_still h (Yield m) j ne = refl
caller_still h (Expire k) j ne = refl

-- no call has come yet at a place from the next one on
caller_none : (h : History) (j : ℕ) → place h ≤ j → caller h j ≡ None
caller_none (Begin s) j le =
    ap client_of_found (call_at_place-below j (waiting_calls (Begin s))
    (Each-weaker (λ w. w.place < s.at) (λ w. w.place < j) (λ w lt. omega (arith, lt, le))
    (waiting_calls (Begin s)) (waiting_calls-below (Begin s))))
caller_none (h ▷ e) j le =
    let ne : (place h == j) ≡ false = grind (arith, nat_tests) in
    caller_still h e j ne ∙ caller_none h j (omega arith)

-- the client whose call comes with the new entry
caller_here : (h : History) (e : Entry) → caller (h ▷ e) (place h) ≡ caller_of e
caller_here h (Call c call r) =
    let here : (place h == place h) ≡ true = grind (arith, nat_tests) in rw here refl
caller_here h (Join p k) = caller_none h (place h) (omega arith)
caller_here h (Death c) = caller_none h (place h) (omega arith)
caller_here h (Moment k t) = caller_none h (place h) (omega arith)
caller_here h (Grant k x) = caller_none h (place h) (omega arith)
caller_here h (Trip b) = caller_none h (place h) (omega arith)
caller_here h (Yield m) = caller_none h (place h) (omega arith)
caller_here h (Expire k) = caller_none h (place h) (omega arith)

-- later entries do not change whose call came at an earlier place
caller_before : (es : List Entry) (h : History) (j : ℕ) → j < place h
    → caller (append_entries h es) j ≡ caller h j
caller_before [] h j lt = refl
caller_before (e ∷ es) h j lt =
    let ne : (place h == j) ≡ false = grind (arith, nat_tests) in
    caller_before es (h ▷ e) j (omega arith) ∙ caller_still h e j ne

-- the client of the call at a later place is that of the later entry at index i
caller_onto : (es : List Entry) (h : History) (i j : ℕ) → j ≡ place h + i
    → caller (append_entries h es) j ≡ caller_in (slice_get es i)
caller_onto [] h i j e = caller_none h j (omega (arith, e))
caller_onto (x ∷ xs) h zero j e =
    let at : j ≡ place h = omega (arith, e) in
    caller_before xs (h ▷ x) j (omega (arith, at)) ∙ ap (caller (h ▷ x)) at ∙ caller_here h x
caller_onto (x ∷ xs) h (suc i) j e = caller_onto xs (h ▷ x) i j (omega (arith, e))

-- the client of the call at a place is that of the entry that is stored there
pub caller-stored : {A : Type 0} (s t : State A) → s ≡ t → (j : ℕ) → t.stored.start.at ≤ j
    → caller (history_of t) j ≡ caller_in (slice_get s.stored.entries (j - s.stored.start.at))
caller-stored {A = A} s t view j late =
    ap (λ (u : State A). caller (history_of u) j) (sym view)
    ∙ caller_onto s.stored.entries (Begin (start_of_rows s.stored.start)) (j - s.stored.start.at) j
    (omega (arith, here))
  where
    here : s.stored.start.at ≤ j
    here = subst (λ (u : State A). u.stored.start.at ≤ j) (sym view) late

-- the call found at a place in two lists that are joined
call_at_place-both : (j : ℕ) (xs ys : List WaitingCall)
    → call_at_place j (xs ++ ys) ≡ option_or (call_at_place j xs) (call_at_place j ys)
call_at_place-both j [] ys = refl
call_at_place-both j (x ∷ xs) ys = go (x.place == j) (call_at_place-both j xs ys)
  where
    go : (b : Bool) → call_at_place j (xs ++ ys)
        ≡ option_or (call_at_place j xs) (call_at_place j ys)
        → cond b (Some x) (call_at_place j (xs ++ ys))
        ≡ option_or (cond b (Some x) (call_at_place j xs)) (call_at_place j ys)
    go true ih = refl
    go false ih = ih

-- a call of a Start is found at its place
client_below : (call : ℕ → Option WaitingCall) (n j : ℕ) → j < n
    → client_of_found (call_at_place j (calls_below call n)) ≡ client_of_found (call j)
client_below call zero j lt = absurd (omega (arith, lt))
client_below call (suc m) j lt =
    ap client_of_found (call_at_place-both j (calls_below call m) (waiting_call_list m (call m)))
    ∙ split (λ less. client_below call m j less) (cases_lt j m)
  where
    early : (o : Option WaitingCall) → j < m → call_at_place j (waiting_call_list m o) ≡ None
    early None less = refl
    early (Some w) less = let ne : (m == j) ≡ false = grind (arith, nat_tests) in rw ne refl

    or_none : (o : Option WaitingCall) → option_or o None ≡ o
    or_none None = refl
    or_none (Some w) = refl

    here : (o : Option WaitingCall) → j ≡ m
        → client_of_found (call_at_place j (waiting_call_list m o)) ≡ client_of_found o
    here None e = refl
    here (Some w) e = let eq : (m == j) ≡ true = grind (arith, nat_tests) in rw eq refl

    none : m ≤ j → call_at_place j (calls_below call m) ≡ None
    none le =
        call_at_place-below j (calls_below call m)
        (Each-weaker (λ w. w.place < m) (λ w. w.place < j) (λ w less. omega (arith, less, le))
        (calls_below call m) (waiting_calls-below (Begin
        (record empty_start { call = call; at = m }))))

    split : (j < m → client_of_found (call_at_place j (calls_below call m))
        ≡ client_of_found (call j))
        → (j < m) ⊎ (m ≤ j)
        → client_of_found (option_or (call_at_place j (calls_below call m))
        (call_at_place j (waiting_call_list m (call m)))) ≡ client_of_found (call j)
    split ih (inl less) =
        ap (λ o. client_of_found (option_or (call_at_place j (calls_below call m)) o)) (early
        (call m) less)
        ∙ (ap client_of_found (or_none (call_at_place j (calls_below call m))) ∙ ih less)
    split ih (inr le) =
        let same : j ≡ m = omega (arith, lt, le) in
        ap (λ o. client_of_found (option_or o (call_at_place j (waiting_call_list m (call m)))))
        (none le)
        ∙ (here (call m) same ∙ ap (λ k. client_of_found (call k)) (sym same))

-- the client of an open call of the Start is that in its row
pub caller-begun : {A : Type 0} (s t : State A) → s ≡ t → (rows : StartRows)
    → rows ≡ s.stored.start → (j : ℕ) → j < rows.at
    → client_of_call rows.calls j ≡ caller (history_of t) j
caller-begun {A = A} s t view rows same j lt =
    sym (ap (λ (u : State A). caller (history_of u) j) (sym view)
    ∙ (caller_before s.stored.entries (Begin (start_of_rows s.stored.start)) j
    (omega (arith, lt, ap (λ (r : StartRows). r.at) same))
    ∙ (ap (λ (r : StartRows). caller (Begin (start_of_rows r)) j) (sym same)
    ∙ (client_below (call_at rows.calls) rows.at j lt ∙ found (call_row rows.calls j)))))
  where
    found : (o : Option StartCall)
        → client_of_found (option_map (λ r. r.call) o) ≡ option_map (λ r. r.call.client) o
    found None = refl
    found (Some r) = refl

-- a call that is left waiting came at the next place, and is its caller's
left_came : (h : History) (c : ℕ) (E : Effect) → Allowed h c E → (w : WaitingCall)
    → In w (left_by E) → (w.place ≡ place h) × (w.client ≡ c)
left_came h c (Waits v) a w (inl e) = (
  ap (λ (u : WaitingCall). u.place) (e ∙ a.0),
  ap (λ (u : WaitingCall). u.client) (e ∙ a.0),
)
left_came h c (Waits v) a w (inr i) = absurd i
left_came h c Idle a w i = absurd i
left_came h c (Creates n kind) a w i = absurd i
left_came h c (Removes n class o) a w i = absurd i
left_came h c (Relocks m) a w i = absurd i
left_came h c (Frees m) a w i = absurd i
left_came h c (Mends m) a w i = absurd i
left_came h c (Returns r) a w i = absurd i
left_came h c (Wakes n all) a w i = absurd i

-- each entry preserves that an open call's client made the call at its place
caller_step : (h : History) (e : Entry) → Follows h
    → ((w : WaitingCall) → In w (open_calls h) → caller h w.place ≡ Some w.client) → Step h e
    → (w : WaitingCall) → In w (open_calls h) ⊎ In w (left h e)
    → caller (h ▷ e) w.place ≡ Some w.client
caller_step h e f k s w (inl i) =
    let lt : w.place < place h = (below_open h w (Fresh-follows h f) i).0 in
    let ne : (place h == w.place) ≡ false = grind (arith, nat_tests) in
    caller_still h e w.place ne ∙ k w i
caller_step h _ f k (calls c call n a o) w (inr i) =
    let r = reply (verdict h c call) in
    let came = left_came h c (effect h c call r) (allowed h c call) w i in
    ap (caller (h ▷ Call c call r)) came.0 ∙ caller_here h (Call c call r) ∙ ap Some (sym came.1)
caller_step h _ f k (joins p n lt) w (inr i) = absurd i
caller_step h _ f k (dies c n a) w (inr i) = absurd i
caller_step h _ f k (ticks z t n) w (inr i) = absurd i
caller_step h _ f k (grants u s j g) w (inr i) = absurd i
caller_step h _ f k (trips u s j t) w (inr i) = absurd i
caller_step h _ f k (yields m s t) w (inr i) = absurd i
caller_step h _ f k (expires u s j t) w (inr i) = absurd i

-- an open call's client made the call at its place
pub open-caller : (h : History) → Follows h → (w : WaitingCall) → In w (open_calls h)
    → caller h w.place ≡ Some w.client
open-caller h f =
    by_steps (λ h. (w : WaitingCall) → In w (open_calls h) → caller h w.place ≡ Some w.client)
    (λ w i. absurd i) (λ h e f ih s w i. caller_step h e f ih s w (was_open h e f s w i))
    (λ h f ih w i. ap client_of_found (found_open (Begin (seal h)) (start-seal h f) w i)) h f

-- an open call in a client's row is one of those in the rows
pub client-in : (rows : List (ClientRow Caller)) (c : ℕ) (o : Open)
    → open_in (client_value rows c) ≡ Some o → In o (opens_of rows)
client-in rows c o e = go (client_value rows c) refl e
  where
    go : (kept : Option Caller) → client_value rows c ≡ kept → open_in kept ≡ Some o
        → In o (opens_of rows)
    go None q s = absurd cc
    go (Some v) q s =
        let r = look-row rows c v q in
        row-open rows r.0 o r.1.0 (ap (λ (u : Caller). u.open) r.1.2 ∙ s)

-- so is one that is found by its place
pub kept-in : (rows : List (ClientRow Caller)) (c p : ℕ) (found : Option Open)
    → found ≡ option_filter (λ o. o.call.place == p) (open_in (client_value rows c))
    → IfSome found (λ o. In o (opens_of rows))
kept-in rows c p None e = tt
kept-in rows c p (Some o) e = go (open_in (client_value rows c)) refl e
  where
    test : (b : Bool) (u : Open) → In u (opens_of rows) → Some o ≡ cond b (Some u) None
        → In o (opens_of rows)
    test true u i q = let same : o ≡ u = cc in rw same i
    test false u i q = absurd cc

    go : (kept : Option Open) → open_in (client_value rows c) ≡ kept
        → Some o ≡ option_filter (λ (u : Open). u.call.place == p) kept → In o (opens_of rows)
    go None k q = absurd cc
    go (Some u) k q = test (u.call.place == p) u (client-in rows c u k) q

module _ (h : History) (f : Follows h) where
  -- if the entry at a place is not a call, no open call came there
  pub none-came : (p : ℕ) → None ≡ caller h p → call_at_place p (open_calls h) ≡ None
  none-came p e =
      place-none p (open_calls h)
      (λ v i at. let both : ◌≡◌ {A = Option ℕ} None (Some v.client) =
      e ∙ ap (caller h) (sym at) ∙ open-caller h f v i in
      absurd cc)

  -- if it is a client's call, the open call that came there is the one in the client's row, if that
  -- one came there
  pub client-came : (rows : List (ClientRow Caller)) → AreCallers h rows → (p c : ℕ)
      → Some c ≡ caller h p
      → option_map call_of_open (option_filter (λ o. o.call.place == p) (open_in
      (client_value rows c)))
      ≡ call_at_place p (open_calls h)
  client-came rows a p c e = go (open_in (client_value rows c)) refl
    where
      its : (v : WaitingCall) → In v (open_calls h) → v.place ≡ p → v.client ≡ c
      its v i at =
          let both : ◌≡◌ {A = Option ℕ} (Some v.client) (Some c) =
          sym (open-caller h f v i) ∙ ap (caller h) at ∙ sym e in
          cc

      test : (o : Open) → In (call_of_open o) (open_calls h) → o.call.client ≡ c → (b : Bool)
          → (o.call.place == p) ≡ b
          → option_map call_of_open (cond b (Some o) None) ≡ call_at_place p (open_calls h)
      test o i own true t =
          let at : o.call.place ≡ p = grind (arith, nat_tests) in
          sym (place-one p (open_calls h) (call_of_open o) i at
          (λ v j k. one_open h f v (call_of_open o) j i (k ∙ sym at)))
      test o i own false t =
          sym (place-none p (open_calls h)
          (λ v j at. let same : v ≡ call_of_open o = one_each h f v (call_of_open o) j i
          (its v j at ∙ sym own) in
          let there : o.call.place ≡ p = ap (λ (u : WaitingCall). u.place) (sym same) ∙ at in
          absurd (grind (arith, nat_tests))))

      go : (kept : Option Open) → open_in (client_value rows c) ≡ kept
          → option_map call_of_open (option_filter (λ (o : Open). o.call.place == p) kept)
          ≡ call_at_place p (open_calls h)
      go None q =
          let none : call_of (open_calls h) c ≡ None =
          sym (a.look.calls c) ∙ ap (option_map (λ (o : Open). o.call)) q in
          sym (place-none p (open_calls h)
          (λ v i at. call_of-none (open_calls h) c none v i (its v i at)))
      go (Some o) q =
          let r = open_of-kept h rows a c o q in
          test o r.0 r.1 (o.call.place == p) refl

  -- a client's open call that came at a place is the one that is found there
  pub open-there : (rows : List (ClientRow Caller)) → AreCallers h rows → (p c : ℕ) (o : Open)
      → Some o ≡ option_filter (λ o. o.call.place == p) (open_in (client_value rows c))
      → ◌≡◌ {A = Option WaitingCall} (Some (call_of_open o)) (call_at_place p (open_calls h))
  open-there rows a p c o e = go (open_in (client_value rows c)) refl e
    where
      test : (u : Open) → In (call_of_open u) (open_calls h) → (b : Bool) → (u.call.place == p) ≡ b
          → Some o ≡ cond b (Some u) None
          → ◌≡◌ {A = Option WaitingCall} (Some (call_of_open o)) (call_at_place p (open_calls h))
      test u i true t q =
          let same : u ≡ o = cc in
          let at : u.call.place ≡ p = grind (arith, nat_tests) in
          ap (λ (x : Open). Some (call_of_open x)) (sym same)
          ∙ sym (place-one p (open_calls h) (call_of_open u) i at
          (λ v j k. one_open h f v (call_of_open u) j i (k ∙ sym at)))
      test u i false t q = absurd cc

      go : (kept : Option Open) → open_in (client_value rows c) ≡ kept
          → Some o ≡ option_filter (λ (u : Open). u.call.place == p) kept
          → ◌≡◌ {A = Option WaitingCall} (Some (call_of_open o)) (call_at_place p (open_calls h))
      go None k q = absurd cc
      go (Some u) k q = test u (open_of-kept h rows a c u k).0 (u.call.place == p) refl q
