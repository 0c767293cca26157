-- What is read off the rows of open calls that are copied: the calls and their moves.
use Rattle.std.proofs.Common.{◌≡◌, ℕ, ◌==◌, inl, inr, Bool, true, false, cond, List, [], ◌∷◌}
use Rattle.std.proofs.Common.{Option, Some, None, map, refl, sym, ap, ◌∙◌, arith}
use Rattle.std.specs.Prelude.{option_map}
use Rattle.std.specs.Option.{option_and_then}
use Rattle.std.proofs.lemmas.Bool.Decides.{nat_tests}
use Rattle.pt_table.specs.declared.clients.ClientRow.{ClientRow}
use Rattle.pt_model.specs.Searches.{In}
use Rattle.pt_model.specs.Histories.{History}
use Rattle.pt_model.specs.declared.start.StartCall.{StartCall}
use Rattle.pt_model.specs.declared.waiting_call.WaitingCall.{WaitingCall}
use Rattle.pt_model.specs.WaitingCall.{call_at_place}
use Rattle.pt_model.specs.Answers.{open_calls}
use Rattle.pt_model.specs.Moves.{has_place, wait_move}
use Rattle.pt_model.specs.StartRows.{call_at, call_row, move_at}
use Rattle.pt_model.specs.Seals.{move_sealed}
use Rattle.pt_model.specs.Steps.{Follows}
use Rattle.pt_model.proofs.Found.{call_at_place-in, one_open}
use Rattle.pt_model.proofs.Lists.{any-in, in-any, false_by}
use Rattle.pt_records.specs.declared.clients.Caller.{Caller}
use Rattle.pt_records.specs.declared.clients.Open.{Open}
use Rattle.pt_records.specs.Callers.{AreCallers, opens_of}
use Rattle.pt_records.proofs.OpenRows.{open-found, found-open}
use Rattle.pt_state.specs.Copies.{call_start}

-- the row that is found has the call at this place
found-call : (opens : List Open) (j : ℕ) (r : StartCall)
    → call_row (map call_start opens) j ≡ Some r
    → (o : Open) × (In o opens × ((call_start o ≡ r) × (o.call.place ≡ j)))
found-call [] j r e = absurd cc
found-call (o ∷ opens) j r e = go (o.call.place == j) refl e (found-call opens j r)
  where
    go : (b : Bool) → (o.call.place == j) ≡ b
        → cond b (Some (call_start o)) (call_row (map call_start opens) j) ≡ Some r
        → (call_row (map call_start opens) j ≡ Some r
        → (x : Open) × (In x opens × ((call_start x ≡ r) × (x.call.place ≡ j))))
        → (x : Open) × (In x (o ∷ opens) × ((call_start x ≡ r) × (x.call.place ≡ j)))
    go true t e ih =
        let same : call_start o ≡ r = cc in
        let at : o.call.place ≡ j = grind (arith, nat_tests) in
        (o, (inl refl, (same, at)))
    go false t e ih = let x = ih e in (x.0, (inr x.1.0, x.1.1))

-- if none is found, no row has it
no-call : (opens : List Open) (j : ℕ) → call_row (map call_start opens) j ≡ None
    → (o : Open) → In o opens → o.call.place ≡ j → ⊥
no-call [] j e o i at = absurd i
no-call (x ∷ opens) j e o i at = go (x.call.place == j) refl e i (no-call opens j)
  where
    go : (b : Bool) → (x.call.place == j) ≡ b
        → cond b (Some (call_start x)) (call_row (map call_start opens) j) ≡ None
        → In o (x ∷ opens)
        → (call_row (map call_start opens) j ≡ None → (o : Open) → In o opens
        → o.call.place ≡ j → ⊥) → ⊥
    go true t e i ih = absurd cc
    go false t e (inl same) ih =
        let here : x.call.place ≡ j = ap (λ (y : Open). y.call.place) (sym same) ∙ at in
        absurd (grind (arith, nat_tests))
    go false t e (inr i) ih = ih e o i at

-- the call that is found at a place is one of these, and its place is that one
at-in : (ws : List WaitingCall) (j : ℕ) (w : WaitingCall) → call_at_place j ws ≡ Some w
    → In w ws × (w.place ≡ j)
at-in [] j w e = absurd cc
at-in (x ∷ xs) j w e = go (x.place == j) refl e (at-in xs j w)
  where
    go : (b : Bool) → (x.place == j) ≡ b → cond b (Some x) (call_at_place j xs) ≡ Some w
        → (call_at_place j xs ≡ Some w → In w xs × (w.place ≡ j)) → In w (x ∷ xs) × (w.place ≡ j)
    go true t e ih =
        let same : w ≡ x = cc in
        let at : x.place ≡ j = grind (arith, nat_tests) in
        (inl same, ap (λ (y : WaitingCall). y.place) same ∙ at)
    go false t e ih = let found = ih e in (inr found.0, found.1)

module _ (h : History) (f : Follows h) (rows : List (ClientRow Caller)) (k : AreCallers h rows)
    (j : ℕ)
  where
    -- if no row has a call at this place, no open call is there
    nowhere : call_row (map call_start (opens_of rows)) j ≡ None → (w : WaitingCall)
        → In w (open_calls h) → w.place ≡ j → ⊥
    nowhere e w i at =
        let found = found-open h rows f k w i in
        no-call (opens_of rows) j e found.0 found.1.0
        (ap (λ (y : WaitingCall). y.place) found.1.1 ∙ at)

    -- the open calls by their places
    pub sealed-call : call_at (map call_start (opens_of rows)) j ≡ call_at_place j (open_calls h)
    sealed-call = go (call_row (map call_start (opens_of rows)) j) refl
      where
        go : (o : Option StartCall) → call_row (map call_start (opens_of rows)) j ≡ o
            → option_map (λ r. r.call) o ≡ call_at_place j (open_calls h)
        go None e = pick (call_at_place j (open_calls h)) refl
          where
            pick : (o : Option WaitingCall) → call_at_place j (open_calls h) ≡ o → None ≡ o
            pick None q = refl
            pick (Some w) q =
                let at = at-in (open_calls h) j w q in absurd (nowhere e w at.0 at.1)
        go (Some r) e =
            let found = found-call (opens_of rows) j r e in
            let w = found.0.call in
            let is = (open-found h rows k found.0 found.1.0).0 in
            ap (λ (x : StartCall). Some x.call) (sym found.1.1.0)
            ∙ (sym (call_at_place-in (open_calls h) w is (λ v i q. one_open h f v w i is q))
            ∙ ap (λ n. call_at_place n (open_calls h)) found.1.1.1)

    -- their moves
    pub sealed-move : move_at (map call_start (opens_of rows)) j ≡ move_sealed h j
    sealed-move = go (call_row (map call_start (opens_of rows)) j) refl
      where
        go : (o : Option StartCall) → call_row (map call_start (opens_of rows)) j ≡ o
            → option_and_then (λ r. r.moved) o ≡ move_sealed h j
        go None e =
            sym (ap (λ b. cond b (wait_move h j) None)
            (false_by (has_place (open_calls h) j) (λ t.
            let one = any-in (λ w. w.place == j) (open_calls h) t in
            let at : one.0.place ≡ j = same one.0.place one.1.1 in
            nowhere e one.0 one.1.0 at)))
          where
            same : (n : ℕ) → (n == j) ≡ true → n ≡ j
            same n t = grind (arith, nat_tests)
        go (Some r) e =
            let found = found-call (opens_of rows) j r e in
            let o = found.0 in
            let is = open-found h rows k o found.1.0 in
            let here : (o.call.place == j) ≡ true = at o.call.place found.1.1.1 in
            ap (λ (x : StartCall). x.moved) (sym found.1.1.0)
            ∙ (is.1
            ∙ (ap (wait_move h) found.1.1.1
            ∙ sym (ap (λ b. cond b (wait_move h j) None)
            (in-any (λ w. w.place == j) (open_calls h) o.call is.0 here))))
          where
            at : (n : ℕ) → n ≡ j → (n == j) ≡ true
            at n e = grind (arith, nat_tests)
