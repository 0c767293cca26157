-- What is read off the rows of clients that are copied: who lives, the latest calls, the answers.
use Rattle.std.proofs.Common.{◌≡◌, ℕ, ◌==◌, ◌&&◌, inl, inr, Bool, true, false, cond, List, [], ◌∷◌}
use Rattle.std.proofs.Common.{Option, Some, None, map, find, is_some, refl, sym, ap, ◌∙◌, arith}
use Rattle.std.specs.Prelude.{option_map}
use Rattle.std.specs.Option.{option_and_then}
use Rattle.std.proofs.lemmas.Bool.Decides.{nat_tests}
use Rattle.std.proofs.lemmas.Bool.{false≢true}
use Rattle.pt_types.specs.MutexTable.{is_some_number}
use Rattle.pt_table.specs.declared.clients.ClientRow.{ClientRow}
use Rattle.pt_table.specs.ClientRows.{client_at, client_value}
use Rattle.pt_model.specs.Searches.{In, first_below}
use Rattle.pt_model.specs.declared.start.StartClient.{StartClient}
use Rattle.pt_model.specs.Histories.{History, place}
use Rattle.pt_model.specs.Clients.{client_priority, is_alive}
use Rattle.pt_model.specs.Answers.{outcome}
use Rattle.pt_model.specs.Queries.{latest_call}
use Rattle.pt_model.specs.StartRows.{answer_at, client_row}
use Rattle.pt_model.specs.Seals.{is_latest, latest_call_sealed, outcome_sealed}
use Rattle.pt_model.specs.Steps.{Follows}
use Rattle.pt_model.proofs.Leasts.{first_below-passes, first_below-some}
use Rattle.pt_model.proofs.Lists.{false_by}
use Rattle.pt_model.proofs.Sound.{alive_below, Fresh-follows}
use Rattle.pt_records.specs.declared.clients.Caller.{Caller}
use Rattle.pt_records.specs.Callers.{AreCallers}
use Rattle.pt_records.proofs.OpenRows.{row-look, look-row}
use Rattle.pt_state.specs.Copies.{client_start}

client_rows : (rows : List (ClientRow Caller)) (c : ℕ)
    → client_row (map client_start rows) c ≡ option_map client_start (client_at rows c)
client_rows [] c = refl
client_rows (row ∷ rows) c = go (c == row.number) (client_rows rows c)
  where
    go : (b : Bool)
        → client_row (map client_start rows) c ≡ option_map client_start (client_at rows c)
        → cond b (Some (client_start row)) (client_row (map client_start rows) c)
        ≡ option_map client_start (cond b (Some row) (client_at rows c))
    go true ih = refl
    go false ih = ih

-- whether a row's latest call is the one at this place
abbrev calls_at : ℕ → StartClient → Bool
calls_at j r = is_some_number r.latest j

-- a number that is one is that one
number-is : (o : Option ℕ) (j : ℕ) → is_some_number o j ≡ true → o ≡ Some j
number-is None j e = absurd cc
number-is (Some k) j e = let same : k ≡ j = grind (arith, nat_tests) in ap Some same

-- the row that is found has the latest call at this place
found-row : (rows : List (ClientRow Caller)) (j : ℕ) (r : StartClient)
    → find (calls_at j) (map client_start rows) ≡ Some r
    → (row : ClientRow Caller)
    × (In row rows × ((client_start row ≡ r) × (is_some_number row.value.latest j ≡ true)))
found-row [] j r e = absurd cc
found-row (row ∷ rows) j r e = go (is_some_number row.value.latest j) refl e (found-row rows j r)
  where
    go : (b : Bool) → is_some_number row.value.latest j ≡ b
        → cond b (Some (client_start row)) (find (calls_at j) (map client_start rows)) ≡ Some r
        → (find (calls_at j) (map client_start rows) ≡ Some r
        → (x : ClientRow Caller)
        × (In x rows × ((client_start x ≡ r) × (is_some_number x.value.latest j ≡ true))))
        → (x : ClientRow Caller)
        × (In x (row ∷ rows) × ((client_start x ≡ r) × (is_some_number x.value.latest j ≡ true)))
    go true t e ih = let same : client_start row ≡ r = cc in (row, (inl refl, (same, t)))
    go false t e ih = let x = ih e in (x.0, (inr x.1.0, x.1.1))

-- if none is found, no row has it
no-row : (rows : List (ClientRow Caller)) (j : ℕ)
    → find (calls_at j) (map client_start rows) ≡ None → (row : ClientRow Caller) → In row rows
    → is_some_number row.value.latest j ≡ false
no-row [] j e row i = absurd i
no-row (x ∷ rows) j e row i = go (is_some_number x.value.latest j) refl e i (no-row rows j)
  where
    go : (b : Bool) → is_some_number x.value.latest j ≡ b
        → cond b (Some (client_start x)) (find (calls_at j) (map client_start rows)) ≡ None
        → In row (x ∷ rows)
        → (find (calls_at j) (map client_start rows) ≡ None → (row : ClientRow Caller)
        → In row rows → is_some_number row.value.latest j ≡ false)
        → is_some_number row.value.latest j ≡ false
    go true t e i ih = absurd cc
    go false t e (inl same) ih =
        ap (λ (r : ClientRow Caller). is_some_number r.value.latest j) same ∙ t
    go false t e (inr i) ih = ih e row i

module _ (h : History) (rows : List (ClientRow Caller)) (k : AreCallers h rows) where
  -- the living clients with their priorities
  pub sealed-client_priority : (c : ℕ)
      → option_map (λ r. r.priority) (client_row (map client_start rows) c) ≡ client_priority h c
  sealed-client_priority c =
      ap (option_map (λ r. r.priority)) (client_rows rows c)
      ∙ (go (client_at rows c) ∙ k.look.living c)
    where
      go : (o : Option (ClientRow Caller))
          → option_map (λ r. r.priority) (option_map client_start o)
          ≡ option_map (λ v. v.priority) (option_map (λ row. row.value) o)
      go None = refl
      go (Some row) = refl

  -- a client with a row lives
  lives : (c : ℕ) (v : Caller) → client_value rows c ≡ Some v → is_alive h c ≡ true
  lives c v e =
      ap is_some (sym (k.look.living c) ∙ ap (option_map (λ (u : Caller). u.priority)) e)

  -- and their latest calls
  pub sealed-latest_call : (c : ℕ)
      → option_and_then (λ r. r.latest) (client_row (map client_start rows) c)
      ≡ latest_call_sealed h c
  sealed-latest_call c =
      ap (option_and_then (λ r. r.latest)) (client_rows rows c) ∙ go (client_at rows c) refl
    where
      go : (o : Option (ClientRow Caller)) → client_at rows c ≡ o
          → option_and_then (λ r. r.latest) (option_map client_start o) ≡ latest_call_sealed h c
      go None e =
          let dead : client_priority h c ≡ None =
          sym (k.look.living c)
          ∙ ap (λ o. option_map (λ v. v.priority) (option_map (λ row. row.value) o)) e in
          rw dead refl
      go (Some row) e =
          let value : client_value rows c ≡ Some row.value = ap (option_map (λ row. row.value)) e in
          k.look.latest c row.value value
          ∙ sym (ap (λ b. cond b (latest_call h c) None) (lives c row.value value))

  -- a row whose latest call is the one at this place makes it a latest one
  shown : Follows h → (j c : ℕ) → is_alive h c ≡ true → is_some_number (latest_call h c) j ≡ true
      → is_latest h j ≡ true
  shown f j c alive calls =
      first_below-some (place h) (λ d. is_alive h d && is_some_number (latest_call h d) j) c
      (alive_below h c (Fresh-follows h f) alive) (rw alive calls)

  -- and the answers to these
  pub sealed-outcome : Follows h → (j : ℕ)
      → answer_at (map client_start rows) j ≡ outcome_sealed h j
  sealed-outcome f j = go (find (calls_at j) (map client_start rows)) refl
    where
      go : (o : Option StartClient) → find (calls_at j) (map client_start rows) ≡ o
          → option_and_then (λ r. r.answer) o ≡ outcome_sealed h j
      go None e = sym (ap (λ b. cond b (outcome h j) None) (false_by (is_latest h j) no))
        where
          no : is_latest h j ≡ true → ⊥
          no t = pick (first_below (place h) (λ d. is_alive h d
              && is_some_number (latest_call h d) j)) refl t
            where
              both : (a b : Bool) → (a && b) ≡ true → (a ≡ true) × (b ≡ true)
              both true b e = (refl, e)
              both false b e = absurd cc

              pick : (o : Option ℕ)
                  → first_below (place h) (λ d. is_alive h d && is_some_number (latest_call h d) j)
                  ≡ o
                  → is_some o ≡ true → ⊥
              pick None q t = absurd cc
              pick (Some c) q t =
                  let passes = both (is_alive h c) (is_some_number (latest_call h c) j)
                  (first_below-passes (place h)
                  (λ d. is_alive h d && is_some_number (latest_call h d) j) c q) in
                  there c passes.0 passes.1 (client_value rows c) refl
                where
                  there : (c : ℕ) → is_alive h c ≡ true → is_some_number (latest_call h c) j ≡ true
                      → (v : Option Caller) → client_value rows c ≡ v → ⊥
                  there c alive calls None at =
                      let dead : is_alive h c ≡ false =
                      ap is_some (sym (k.look.living c)
                      ∙ ap (option_map (λ (u : Caller). u.priority)) at) in
                      false≢true (sym dead ∙ alive)
                  there c alive calls (Some v) at =
                      let row = look-row rows c v at in
                      let its : row.0.value.latest ≡ latest_call h c =
                      ap (λ (u : Caller). u.latest) row.1.2 ∙ k.look.latest c v at in
                      false≢true (sym (no-row rows j e row.0 row.1.0)
                      ∙ (ap (λ o. is_some_number o j) its ∙ calls))
      go (Some r) e =
          let found = found-row rows j r e in
          let row = found.0 in
          let value = row-look rows k.once row found.1.0 in
          let c = row.number in
          let its = k.look.latest c row.value value in
          let calls : is_some_number (latest_call h c) j ≡ true =
          ap (λ o. is_some_number o j) (sym its) ∙ found.1.1.1 in
          let at = number-is (latest_call h c) j calls in
          ap (λ (x : StartClient). x.answer) (sym found.1.1.0)
          ∙ (k.look.answers c row.value value
          ∙ (ap (option_and_then (outcome h)) at
          ∙ sym (ap (λ b. cond b (outcome h j) None)
          (shown f j c (lives c row.value value) calls))))
