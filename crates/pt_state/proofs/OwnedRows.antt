-- Rows of clients that differ only in what their clients own: they say the same of the history.
use Rattle.std.proofs.Common.{◌≡◌, ℕ, Bool, true, false, cond, ◌==◌, ◌||◌, nat_eq, List, [], ◌∷◌}
use Rattle.std.proofs.Common.{Option, Some, None, length, refl, sym, ap, ◌∙◌, subst}
use Rattle.std.specs.Prelude.{option_map}
use Rattle.std.specs.Option.{option_and_then}
use Rattle.std.specs.List.{list_any}
use Rattle.std.proofs.lemmas.List.{length-map}
use Rattle.pt_table.specs.declared.clients.ClientRow.{ClientRow}
use Rattle.pt_table.specs.ClientRows.{client_at, client_value, with_client}
use Rattle.pt_model.specs.Histories.{History}
use Rattle.pt_records.specs.declared.clients.Caller.{Caller}
use Rattle.pt_records.specs.Callers.{HasDistinctNumbers, CallersLook, AreCallers, open_in}
use Rattle.pt_records.specs.Chained.{rows_without_owned, without_owned}
use Rattle.pt_records.specs.Writes.{WritesCaller}
use Rattle.pt_records.proofs.CallerWrites.{client-there, writes-caller}

-- what a row says, whatever its client owns
abbrev pub bare : Caller → Caller
bare v = record v { owned = None }

-- two look-ups find the same, whatever clients own
abbrev pub FindsSame : (ℕ → Option Caller) → (ℕ → Option Caller) → Type 0
FindsSame look other = (d : ℕ) → option_map bare (other d) ≡ option_map bare (look d)

bare-priority : (o : Option Caller) → option_map (λ v. v.priority) (option_map bare o)
    ≡ option_map (λ v. v.priority) o
bare-priority None = refl
bare-priority (Some v) = refl

bare-open : (o : Option Caller) → open_in (option_map bare o) ≡ open_in o
bare-open None = refl
bare-open (Some v) = refl

-- if one look-up finds a row, the other finds it too
pub found-bare : (o p : Option Caller) → option_map bare p ≡ option_map bare o → (v : Caller)
    → p ≡ Some v → (u : Caller) × (o ≡ Some u) × (bare v ≡ bare u)
found-bare None p e v k =
    let is : Some (bare v) ≡ None = sym (ap (option_map bare) k) ∙ e in absurd cc
found-bare (Some u) p e v k =
    let is : Some (bare v) ≡ Some (bare u) = sym (ap (option_map bare) k) ∙ e in (u, refl, cc)

-- so if one is right for the history, the other is too
pub look-bare : (h : History) (look other : ℕ → Option Caller) → FindsSame look other
    → CallersLook h look → CallersLook h other
look-bare h look other same l =
    record {
      living = λ c. sym (bare-priority (other c))
          ∙ (ap (option_map (λ v. v.priority)) (same c)
          ∙ (bare-priority (look c) ∙ l.living c));
      calls = λ c. ap (option_map (λ o. o.call)) (opens c) ∙ l.calls c;
      moves = λ c w e. ap (option_and_then (λ o. o.moved)) (opens c) ∙ l.moves c w e;
      latest = λ c v e. let u = found-bare (look c) (other c) (same c) v e in
          ap (λ w. w.latest) u.2 ∙ l.latest c u.0 u.1;
      answers = λ c v e. let u = found-bare (look c) (other c) (same c) v e in
          ap (λ w. w.answer) u.2 ∙ l.answers c u.0 u.1;
    }
  where
    opens : (c : ℕ) → open_in (other c) ≡ open_in (look c)
    opens c = sym (bare-open (other c)) ∙ (ap open_in (same c) ∙ bare-open (look c))

-- and rows that find the same are right for the same history
pub callers-bare : (h : History) (old new : List (ClientRow Caller))
    → FindsSame (client_value old) (client_value new) → length new ≡ length old
    → HasDistinctNumbers new
    → AreCallers h old → AreCallers h new
callers-bare h old new same many once a =
    record {
      look = look-bare h (client_value old) (client_value new) same a.look;
      many = many ∙ a.many;
      once = once;
    }

bare-at : (rows : List (ClientRow Caller)) (n : ℕ)
    → client_at (rows_without_owned rows) n ≡ option_map without_owned (client_at rows n)
bare-at [] n = refl
bare-at (r ∷ rows) n = go (bare-at rows n) (nat_eq n r.number)
  where
    go : client_at (rows_without_owned rows) n ≡ option_map without_owned (client_at rows n)
        → (b : Bool)
        → cond b (Some (without_owned r)) (client_at (rows_without_owned rows) n)
        ≡ option_map without_owned (cond b (Some r) (client_at rows n))
    go ih true = refl
    go ih false = ih

bare-value : (rows : List (ClientRow Caller)) (n : ℕ)
    → client_value (rows_without_owned rows) n ≡ option_map bare (client_value rows n)
bare-value rows n = ap (option_map (λ row. row.value)) (bare-at rows n) ∙ go (client_at rows n)
  where
    go : (o : Option (ClientRow Caller))
        → option_map (λ row. row.value) (option_map without_owned o)
        ≡ option_map bare (option_map (λ row. row.value) o)
    go None = refl
    go (Some r) = refl

bare-any : (n : ℕ) (rows : List (ClientRow Caller))
    → list_any (λ other. other.number == n) (rows_without_owned rows)
    ≡ list_any (λ other. other.number == n) rows
bare-any n [] = refl
bare-any n (r ∷ rows) = ap (λ b. (r.number == n) || b) (bare-any n rows)

once-bare : (rows : List (ClientRow Caller)) → HasDistinctNumbers rows
    → HasDistinctNumbers (rows_without_owned rows)
once-bare [] o = tt
once-bare (r ∷ rows) o = (bare-any r.number rows ∙ o.0, once-bare rows o.1)

bare-once : (rows : List (ClientRow Caller)) → HasDistinctNumbers (rows_without_owned rows)
    → HasDistinctNumbers rows
bare-once [] o = tt
bare-once (r ∷ rows) o = (sym (bare-any r.number rows) ∙ o.0, bare-once rows o.1)

module _ (old new : List (ClientRow Caller)) (e : rows_without_owned new
    ≡ rows_without_owned old) where
  -- rows that are the same but for what is owned find the same
  pub finds-rows_without_owned : FindsSame (client_value old) (client_value new)
  finds-rows_without_owned d =
      sym (bare-value new d) ∙ (ap (λ rows. client_value rows d) e ∙ bare-value old d)

  many-rows_without_owned : length new ≡ length old
  many-rows_without_owned = sym (length-map new without_owned) ∙ (ap length e
      ∙ length-map old without_owned)

  once-rows_without_owned : HasDistinctNumbers old → HasDistinctNumbers new
  once-rows_without_owned o = bare-once new (subst HasDistinctNumbers (sym e) (once-bare old o))

  -- so they are the rows of the same clients
  pub callers-rows_without_owned : (h : History) → AreCallers h old → AreCallers h new
  callers-rows_without_owned h a =
      callers-bare h old new finds-rows_without_owned many-rows_without_owned
      (once-rows_without_owned a.once) a

  -- a client that has a row in one list has a row in the other
  pub there-rows_without_owned : (c : ℕ) → (v : Caller) × (client_value old c ≡ Some v)
      → (v : Caller) × (client_value new c ≡ Some v)
  there-rows_without_owned c there =
      let v = found-bare (client_value new c) (client_value old c) (sym
      (finds-rows_without_owned c)) there.0
      there.1 in
      (v.0, v.1)

  -- a row that is written in both
  finds-written : (was is : List (ClientRow Caller)) (c : ℕ) (x y : Caller)
      → WritesCaller old was c x → WritesCaller new is c y → bare y ≡ bare x
      → FindsSame (client_value was) (client_value is)
  finds-written was is c x y w z same d =
      ap (option_map bare) (z.look d) ∙ (go (c == d) ∙ sym (ap (option_map bare) (w.look d)))
    where
      go : (b : Bool) → option_map bare (cond b (Some y) (client_value new d))
          ≡ option_map bare (cond b (Some x) (client_value old d))
      go true = ap Some same
      go false = finds-rows_without_owned d

  -- if one row is written in both lists, they are both right if one is
  pub written-rows_without_owned : (g h : History) (c : ℕ) (change : Caller → Caller)
      → ((u v : Caller) → bare u ≡ bare v → bare (change u) ≡ bare (change v))
      → AreCallers g old
      → ((rows : List (ClientRow Caller)) (v : Caller) → client_value old c ≡ Some v
      → WritesCaller old rows c (change v) → AreCallers h rows)
      → (rows : List (ClientRow Caller)) (v : Caller) → client_value new c ≡ Some v
      → WritesCaller new rows c (change v) → AreCallers h rows
  written-rows_without_owned g h c change alike a right rows v at w =
      let u = found-bare (client_value old c) (client_value new c)
      (finds-rows_without_owned c) v at in
      let was = with_client old c (change u.0) in
      let wrote = writes-caller old c (change u.0) (client-there old c u.0 u.1) in
      callers-bare h was rows
      (finds-written was rows c (change u.0) (change v) wrote w (alike v u.0 u.2))
      (w.many ∙ (many-rows_without_owned
      ∙ sym wrote.many)) (w.once (once-rows_without_owned a.once))
      (right was u.0 u.1 wrote)
